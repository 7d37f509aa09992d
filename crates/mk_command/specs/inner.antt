-- What only proofs and private contracts cite.
pub mod Reading
pub mod Kinds
