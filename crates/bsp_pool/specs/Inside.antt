pub mod Claim
pub mod Views
pub mod Holding
pub mod Kept
pub mod Turning
