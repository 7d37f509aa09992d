pub mod Entries
pub mod States
pub mod Grows
pub mod Present
