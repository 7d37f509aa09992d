pub mod Below
pub mod Apart
pub mod Keeping
pub mod Stopped
pub mod Quoting
