pub mod Changed
pub mod Renewing
pub mod Appends
pub mod Counts
pub mod KnownVariables
pub mod Gathering
pub mod Refusing
pub mod SpreadRefusals
