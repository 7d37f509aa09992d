pub mod HasHome
pub mod Weighed
pub mod Replayed
pub mod Owned
pub mod Each
pub mod ListedDues
pub mod PaidDues
pub mod Outcomes
