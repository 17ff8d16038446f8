-- Modules that belong to no one function.
pub mod Lists
pub mod Enough
