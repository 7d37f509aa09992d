pub mod Below
pub mod Form
pub mod Range
pub mod Rounding
pub mod ByRule
pub mod Near
pub mod Rules
pub mod inner
