pub mod Below
pub mod Lawful
pub mod Least
pub mod Most
pub mod Held
