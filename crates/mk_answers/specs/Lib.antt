pub mod Below
pub mod Open
pub mod Results
pub mod Calls
pub mod Laws
pub mod Telling
pub mod Evidence
pub mod inner
