pub mod Layout
pub mod Plan
pub mod Table
