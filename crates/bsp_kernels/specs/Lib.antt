pub mod Operators
pub mod Machine
pub mod Known
pub mod Kernels
pub mod Knowing
pub mod Over
pub mod Footprint
pub mod Inside
