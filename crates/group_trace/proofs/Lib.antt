pub mod Flat
pub mod Sides
pub mod Turns
pub mod Writing
