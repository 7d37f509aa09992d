pub mod Grades
pub mod Parts
pub mod Bits
