pub mod Dues
pub mod Sims
pub mod Simulators
