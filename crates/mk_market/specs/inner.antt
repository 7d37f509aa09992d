-- What only proofs and private contracts cite.
pub mod Keeping
pub mod Answering
pub mod Restored
pub mod Adding
