-- What only proofs and private contracts cite.
pub mod Loading
pub mod Progress
pub mod Telling
pub mod Keeping
pub mod Turning
