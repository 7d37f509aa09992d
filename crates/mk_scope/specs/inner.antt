-- What only proofs and private contracts cite.
pub mod Columns
pub mod Lists
pub mod Strides
pub mod Kept
