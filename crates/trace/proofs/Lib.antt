pub mod First
pub mod Grouping
pub mod Tracing
