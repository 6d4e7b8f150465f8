pub mod Bodies
pub mod Segments
pub mod SectionSizes
pub mod Written
pub mod Begun
pub mod ListSections
pub mod Weight
pub mod Laws
