pub mod Kept
pub mod SameText
