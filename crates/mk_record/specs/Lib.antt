pub mod Below
pub mod Journals
pub mod Lending
pub mod Members
pub mod Refused
pub mod inner
