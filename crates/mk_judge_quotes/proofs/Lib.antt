pub mod EditingJudged
pub mod EditingNear
pub mod Nearer
pub mod SpreadingJudged
pub mod SpreadingLists
pub mod SpreadingNear
pub mod Verdicts
