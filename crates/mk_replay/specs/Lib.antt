pub mod Below
pub mod Placed
pub mod Each
pub mod Known
pub mod ByRule
pub mod Tills
pub mod inner
