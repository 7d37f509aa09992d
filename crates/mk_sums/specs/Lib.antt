pub mod Lawful
pub mod Sums
pub mod Trees
pub mod Cells
pub mod Joint
pub mod There
pub mod Laws
pub mod Examples
