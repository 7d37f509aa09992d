-- What only proofs and private contracts cite.
pub mod Kept
pub mod Gathered
pub mod Passes
pub mod Ones
pub mod Totals
pub mod Boards
pub mod Changes
