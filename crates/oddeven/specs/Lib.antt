pub mod OddEven
pub mod OddEvenFootprint
pub mod Programs
pub mod Ordered
