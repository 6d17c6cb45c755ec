pub mod Fnv
pub mod Ends
pub mod Pendings
pub mod Disks
pub mod Machines
pub mod Outcomes
