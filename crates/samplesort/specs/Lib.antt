pub mod SampleSort
pub mod SampleSortFootprint
pub mod Programs
pub mod Sorts
