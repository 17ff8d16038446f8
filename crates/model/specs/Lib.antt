pub mod Groups
pub mod Layout
pub mod Laws
pub mod Outlines
pub mod Search
pub mod Area
pub mod Example
