pub mod Below
pub mod Given
pub mod Tests
pub mod Checked
pub mod Laws
pub mod Held
pub mod Grown
pub mod inner
