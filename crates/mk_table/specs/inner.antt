-- What only proofs and private contracts cite.
pub mod Touched
pub mod Numbers
pub mod Store
pub mod Changes
