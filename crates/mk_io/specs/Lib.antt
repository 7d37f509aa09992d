pub mod Outside
pub mod Stream
pub mod Cutting
pub mod Status
pub mod Memory
pub mod Quiet
pub mod inner
