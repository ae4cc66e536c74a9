pub mod Lines
pub mod FaultWords
pub mod TurnLines
pub mod ViewLines
pub mod DocumentText
