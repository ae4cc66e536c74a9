pub mod OwnWords
pub mod Joining
pub mod MessagesSent
pub mod MessagesArrived
pub mod Arriving
pub mod Parts
pub mod MessageCosts
pub mod HalfCosts
