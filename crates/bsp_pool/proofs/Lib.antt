pub mod ClaimSteps
pub mod ShareLists
pub mod TurnLists
pub mod KeptLists
pub mod RoundSteps
pub mod EventLaws
