-- What only proofs and private contracts cite.
pub mod Closeness
pub mod Fields
pub mod Quotient
pub mod UniqueForm
pub mod Wide
