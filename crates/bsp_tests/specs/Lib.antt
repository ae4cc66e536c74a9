pub mod Clash
