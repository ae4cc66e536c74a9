pub mod Continuing
pub mod LooksFrom
pub mod Within
