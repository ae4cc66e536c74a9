pub mod Messages
pub mod Operation
pub mod Halves
pub mod Arrivals
pub mod WhatArrives
pub mod Costs
