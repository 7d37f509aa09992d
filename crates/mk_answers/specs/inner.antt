-- What only proofs and private contracts cite.
pub mod Found
pub mod Alone
