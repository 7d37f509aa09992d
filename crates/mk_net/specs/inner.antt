-- What only proofs and private contracts cite.
pub mod Counted
pub mod Kinds
pub mod Kept
pub mod KeptEvents
pub mod KeptQuestions
pub mod KeptRows
