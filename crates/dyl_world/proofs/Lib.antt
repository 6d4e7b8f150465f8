mod ZeroBytes
mod Pieces
mod Texts
mod Found
mod Known
mod Room
