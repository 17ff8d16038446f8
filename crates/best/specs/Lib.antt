pub mod Asks
pub mod Task
pub mod Search
