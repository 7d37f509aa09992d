pub mod NoEntries
