mod Effects
mod Steps
mod Sets
