pub mod Below
pub mod Recovery
pub mod Resuming
pub mod Suiting
pub mod KeepOutcome
pub mod Laws
pub mod Applying
pub mod inner
