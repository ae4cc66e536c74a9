pub mod Heat
pub mod Cells
pub mod HeatFootprint
pub mod Programs
pub mod Rod
