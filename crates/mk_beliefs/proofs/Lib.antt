pub mod Exact
pub mod Weighed
pub mod Gained
pub mod Grown
pub mod Nothing
pub mod Initials
