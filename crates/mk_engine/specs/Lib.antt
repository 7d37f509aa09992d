pub mod Below
pub mod Meaning
pub mod Beliefs
pub mod Apart
pub mod Cases
