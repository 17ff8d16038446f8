pub mod Placement
pub mod Legal
pub mod Outline
pub mod StartRows
pub mod Best
pub mod Calls
pub mod Asks
pub mod Examples
