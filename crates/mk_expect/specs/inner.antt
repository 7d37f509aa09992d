-- What only proofs and private contracts cite.
pub mod Parts
pub mod Tallies
pub mod Added
pub mod Shares
