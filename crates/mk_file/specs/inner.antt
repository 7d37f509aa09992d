-- What only proofs and private contracts cite.
pub mod Known
pub mod Views
