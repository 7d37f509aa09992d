pub mod Apart
pub mod Cases
pub mod Found
