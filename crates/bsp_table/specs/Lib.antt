pub mod Table
pub mod NextTable
pub mod Same
pub mod TableFault
