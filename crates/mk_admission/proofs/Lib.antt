pub mod Finding
pub mod Numbered
pub mod AddedRows
pub mod AddedCliques
pub mod AddRefusals
