pub mod Passing
pub mod OneAnswer
