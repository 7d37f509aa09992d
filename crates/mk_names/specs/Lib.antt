pub mod Below
pub mod Name
pub mod Texts
pub mod Key
pub mod inner
