-- What only proofs and private contracts cite.
pub mod Within
pub mod Quotient
pub mod Dues
