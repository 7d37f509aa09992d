pub mod Ends
pub mod ListLaws
pub mod AddLaws
pub mod LengthLaws
