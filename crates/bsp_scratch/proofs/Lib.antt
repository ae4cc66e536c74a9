pub mod PrintedLines
pub mod UnrecordedRuns
pub mod Underway
