pub mod Below
pub mod Commands
pub mod inner
