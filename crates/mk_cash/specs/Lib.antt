pub mod Below
pub mod Factors
pub mod Accounts
pub mod Dues
pub mod Laws
pub mod inner
