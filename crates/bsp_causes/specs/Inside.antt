pub mod Words
pub mod Parts
pub mod Walk
pub mod Travel
pub mod Moved
