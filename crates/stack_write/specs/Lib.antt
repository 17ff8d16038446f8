pub mod File
pub mod Call
pub mod Inner
mod Examples
