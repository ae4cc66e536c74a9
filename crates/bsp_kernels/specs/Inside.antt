pub mod Making
pub mod Showing
