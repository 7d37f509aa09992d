pub mod Booked
pub mod Told
pub mod Fitting
