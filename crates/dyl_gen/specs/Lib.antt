pub mod Generated
pub mod Files
pub mod Laws
