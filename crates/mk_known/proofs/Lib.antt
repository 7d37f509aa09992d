pub mod KnownFollow
pub mod SmallWeights
