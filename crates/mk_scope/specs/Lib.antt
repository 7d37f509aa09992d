pub mod Below
pub mod Scopes
pub mod Cells
pub mod Runs
pub mod Places
pub mod inner
