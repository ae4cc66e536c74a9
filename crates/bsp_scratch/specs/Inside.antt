pub mod IsUnrecorded
pub mod Printed
pub mod Underway
