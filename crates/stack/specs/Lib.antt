pub mod File
pub mod Versions
pub mod Calls
pub mod Inner
mod Examples
