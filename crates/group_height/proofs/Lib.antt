pub mod Barred
pub mod Picking
pub mod Points
