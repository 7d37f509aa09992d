-- What only proofs and private contracts cite.
pub mod Taking
pub mod Dues
