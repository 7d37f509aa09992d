-- What only proofs and private contracts cite.
pub mod Kept
pub mod Counted
pub mod Stored
