pub mod Numbers
pub mod Passes
pub mod Lanes
pub mod Shares
pub mod Rounds
pub mod Machine
pub mod EventLists
pub mod Inside
