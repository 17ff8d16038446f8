pub mod Inner
pub mod Columns
