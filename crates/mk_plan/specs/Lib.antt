pub mod Below
pub mod Shapes
pub mod inner
