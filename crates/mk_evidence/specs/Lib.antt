pub mod Below
pub mod Evidence
pub mod Grades
pub mod inner
