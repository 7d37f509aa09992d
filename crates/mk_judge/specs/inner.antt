-- What only proofs and private contracts cite.
pub mod Solvency
pub mod Products
pub mod Within
pub mod Absent
