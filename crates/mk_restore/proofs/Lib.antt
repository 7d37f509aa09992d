pub mod Joined
pub mod Taken
pub mod Settled
pub mod Safe
pub mod Records
pub mod Counted
pub mod Unquoted
