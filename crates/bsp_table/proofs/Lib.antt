pub mod NextTables
