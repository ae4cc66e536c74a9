pub mod AllProcesses
pub mod Writes
pub mod Senders
pub mod EndTests
pub mod Counts
pub mod Comparing
pub mod Unmarked
pub mod Aligned
pub mod SameParts
pub mod SameDelivery
pub mod Gathered
mod Origins
pub mod SkippedSenders
mod Links
pub mod ReadWords
pub mod WrittenAt
pub mod CellsOf
pub mod MovedMemories
pub mod Targeted
pub mod BothOk
mod AddressedRequests
mod Queues
