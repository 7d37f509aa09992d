pub mod Reading
pub mod Documents
pub mod Firsts
pub mod Cliqued
pub mod Grown
