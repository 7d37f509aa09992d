pub mod Below
pub mod Paying
