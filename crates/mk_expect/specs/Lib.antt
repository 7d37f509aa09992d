pub mod Below
pub mod Expectation
pub mod inner
