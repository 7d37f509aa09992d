pub mod Covered
pub mod Lifting
pub mod Cashing
pub mod Losing
