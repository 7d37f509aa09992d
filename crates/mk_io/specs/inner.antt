-- What only proofs and private contracts cite.
pub mod Cut
pub mod Giving
