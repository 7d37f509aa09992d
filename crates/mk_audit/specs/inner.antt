-- What only proofs and private contracts cite.
pub mod Progress
pub mod Telling
