pub mod WordLemmas
pub mod Rests
pub mod NumberLemmas
pub mod ReadingLaws
pub mod PartLaws
pub mod SpanLaws
pub mod LengthLaws
