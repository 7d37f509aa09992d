pub mod Below
pub mod Tally
pub mod inner
