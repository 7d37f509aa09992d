pub mod Below
pub mod Clear
pub mod inner
