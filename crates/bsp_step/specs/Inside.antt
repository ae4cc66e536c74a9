pub mod Checks
pub mod Gathered
pub mod Rows
pub mod Outcomes
pub mod SameOutcome
pub mod Turned
