pub mod Told
pub mod Front
pub mod Cuts
pub mod Answered
pub mod InMemory
pub mod WholeLines
pub mod AtOnce
pub mod LastLf
