pub mod Rounds
pub mod Reaching
pub mod Blocks
pub mod Turns
pub mod Memories
pub mod Supersteps
pub mod Costs
pub mod OrderRun
