pub mod Below
pub mod Chances
pub mod BestStates
pub mod inner
