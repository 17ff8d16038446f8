pub mod Numbers
pub mod Endings
pub mod Calls
pub mod Apart
pub mod Filling
mod Examples
