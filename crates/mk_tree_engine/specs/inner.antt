-- What only proofs and private contracts cite.
pub mod Marks
pub mod Passes
