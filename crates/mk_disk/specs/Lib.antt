pub mod Disk
pub mod Image
pub mod Memory
pub mod Standard
pub mod inner
