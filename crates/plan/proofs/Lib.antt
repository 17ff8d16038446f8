pub mod Columns
pub mod Sizing
pub mod Bests
pub mod Trying
pub mod Scanning
pub mod Remembering
pub mod Planning
pub mod Outlines
