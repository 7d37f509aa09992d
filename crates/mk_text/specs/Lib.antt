pub mod Below
pub mod Joined
pub mod Texts
pub mod Numbers
pub mod Reading
pub mod Words
