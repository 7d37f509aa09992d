pub mod Asked
pub mod Evidenced
pub mod EvidencedSpreads
pub mod Grading
