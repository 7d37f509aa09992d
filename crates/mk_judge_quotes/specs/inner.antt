-- What only proofs and private contracts cite.
pub mod Editing
pub mod Spreading
