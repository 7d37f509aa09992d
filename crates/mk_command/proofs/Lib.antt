pub mod CommandLaws
pub mod LengthLaws
