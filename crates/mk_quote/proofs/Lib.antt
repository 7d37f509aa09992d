pub mod Bearing
pub mod Serving
pub mod Spanning
pub mod Reaching
pub mod Rightness
pub mod Spreading
pub mod Judging
pub mod Suiting
