pub mod Same
pub mod TurnCauses
pub mod DeliveryCauses
pub mod Travel
pub mod UpdateCost
pub mod Inside
