pub mod Edits
pub mod Named
pub mod Exact
pub mod Reused
pub mod Undo
pub mod Replies
pub mod Inside
