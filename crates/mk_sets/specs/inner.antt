-- How a set is kept.
pub mod KeptSets
