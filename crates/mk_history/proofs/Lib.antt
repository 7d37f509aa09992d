pub mod Added
pub mod Counts
pub mod Longer
pub mod Pairs
pub mod Rooms
pub mod Settled
pub mod Taken
