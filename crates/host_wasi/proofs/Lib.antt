mod NamedCalls
mod Bytes
mod Drawing
mod Asks
mod Fronts
mod Moves
mod Vectors
mod Wanting
