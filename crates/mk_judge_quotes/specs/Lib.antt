pub mod Below
pub mod Clear
pub mod Editing
pub mod Small
pub mod Spreading
pub mod Told
pub mod inner
