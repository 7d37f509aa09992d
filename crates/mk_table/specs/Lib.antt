pub mod Below
pub mod Tables
pub mod Ratios
pub mod Margins
pub mod Lists
pub mod inner
