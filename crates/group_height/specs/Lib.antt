pub mod Heights
pub mod Inner
