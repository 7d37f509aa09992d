-- What only proofs and private contracts cite.
pub mod Close
pub mod Laws
pub mod LowerEnd
