pub mod Below
pub mod Cash
pub mod Losses
pub mod inner
