pub mod Sums
pub mod Orders
pub mod Told
pub mod Summed
pub mod Multiplied
pub mod Ranked
pub mod Claims
