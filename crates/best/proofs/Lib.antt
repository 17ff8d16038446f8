pub mod Planning
pub mod Summing
