pub mod Valid
pub mod Columns
pub mod Reading
pub mod Filling
