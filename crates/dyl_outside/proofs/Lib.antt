pub mod KnownBytes
pub mod MemFilesLemmas
pub mod MemSourceLemmas
