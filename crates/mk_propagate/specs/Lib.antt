pub mod Below
pub mod Placings
pub mod Flows
pub mod inner
