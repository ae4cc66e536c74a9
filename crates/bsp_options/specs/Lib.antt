pub mod Options
pub mod Inside
