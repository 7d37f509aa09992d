pub mod Cell
pub mod Passes
pub mod Products
pub mod Least
pub mod inner
