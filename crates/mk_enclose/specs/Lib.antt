pub mod Enclosure
pub mod Factor
pub mod inner
