pub mod Below
pub mod Adds
pub mod Reading
