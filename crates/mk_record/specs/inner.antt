-- What only proofs and private contracts cite.
pub mod Counted
pub mod Enrolled
pub mod Gathered
