pub mod Below
pub mod Engines
pub mod Laws
pub mod inner
