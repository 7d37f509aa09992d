pub mod Below
pub mod inner
