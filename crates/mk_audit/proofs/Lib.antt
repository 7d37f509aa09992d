pub mod OneLine
pub mod OneRun
pub mod Wrong
pub mod Held
pub mod Found
pub mod Endings
pub mod Telling
