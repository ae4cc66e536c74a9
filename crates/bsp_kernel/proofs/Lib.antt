pub mod KindLists
pub mod NoSigns
