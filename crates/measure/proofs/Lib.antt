pub mod Measuring
pub mod Choosing
