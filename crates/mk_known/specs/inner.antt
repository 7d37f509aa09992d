-- What only proofs and private contracts cite.
pub mod Givens
pub mod Noted
pub mod Walks
