pub mod Checks
pub mod Held
pub mod Limits
pub mod Answering
pub mod OneAnswer
