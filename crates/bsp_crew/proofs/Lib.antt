pub mod PartLists
pub mod Paces
