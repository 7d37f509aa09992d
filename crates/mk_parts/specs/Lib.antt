pub mod Below
pub mod Adding
