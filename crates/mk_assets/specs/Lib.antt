pub mod Below
pub mod Holdings
pub mod inner
