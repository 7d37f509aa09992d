-- What only proofs and private contracts cite.
pub mod Asking
pub mod Printing
