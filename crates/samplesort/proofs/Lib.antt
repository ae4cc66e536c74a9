pub mod Sampling
pub mod Shares
pub mod Turns
pub mod Arrivals
pub mod SortRun
