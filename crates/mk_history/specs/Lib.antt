pub mod Below
pub mod Entries
pub mod Histories
pub mod inner
