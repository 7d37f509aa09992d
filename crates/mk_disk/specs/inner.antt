-- What only proofs and private contracts cite.
pub mod Contents
pub mod MemoryLaws
