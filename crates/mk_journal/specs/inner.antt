-- What only proofs and private contracts cite.
pub mod MomentLaws
pub mod HeldLaws
pub mod Reading
