pub mod Steps
pub mod Placing
pub mod Chains
pub mod Sweep
pub mod Walk
pub mod Runs
