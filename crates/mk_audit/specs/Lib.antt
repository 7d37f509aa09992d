pub mod Below
pub mod Verdicts
pub mod AuditOutcome
pub mod Laws
pub mod inner
