-- What only proofs and private contracts cite.
pub mod Kinds
