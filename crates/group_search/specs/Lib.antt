pub mod Outward
pub mod Widths
pub mod Inner
