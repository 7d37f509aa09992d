pub mod Learning
pub mod Supported
