pub mod Codes
pub mod Choosing
