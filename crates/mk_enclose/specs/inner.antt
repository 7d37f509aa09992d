-- What only proofs and private contracts cite.
pub mod Widths
pub mod Standing
