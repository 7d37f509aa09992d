pub mod Below
pub mod Replies
pub mod Refusals
pub mod Reading
pub mod inner
