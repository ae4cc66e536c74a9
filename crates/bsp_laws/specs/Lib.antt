pub mod Batches
pub mod Updates
pub mod Reach
pub mod Least
pub mod Causes
pub mod Costs
