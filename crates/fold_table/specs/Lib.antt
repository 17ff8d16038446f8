pub mod Calls
pub mod Inner
mod Examples
