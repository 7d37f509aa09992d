pub mod Below
pub mod Walked
pub mod Lists
