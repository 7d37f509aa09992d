-- What only proofs and private contracts cite.
pub mod Padded
pub mod PaddedLaws
pub mod TextLaws
