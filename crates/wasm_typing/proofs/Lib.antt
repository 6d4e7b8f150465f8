pub mod Laws
pub mod LayoutLaws
pub mod Tops
pub mod Steps
pub mod LocalSearch
