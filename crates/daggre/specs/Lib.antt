pub mod Below
pub mod Words
pub mod LastLine
pub mod AskOutcome
pub mod Called
pub mod Sampled
pub mod inner
