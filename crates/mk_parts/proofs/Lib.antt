pub mod Markets
pub mod Moved
pub mod Homes
pub mod Openings
pub mod Following
pub mod Placing
