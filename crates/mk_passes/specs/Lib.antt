pub mod Below
pub mod Blank
pub mod Parts
pub mod inner
