pub mod Catalogue
pub mod Names
pub mod Operands
pub mod Shapes
