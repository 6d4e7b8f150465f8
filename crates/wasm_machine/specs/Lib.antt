pub mod Stacks
pub mod Machines
pub mod Whole
pub mod Outside
pub mod Marks
pub mod Steps
pub mod Iterated
pub mod Callees
