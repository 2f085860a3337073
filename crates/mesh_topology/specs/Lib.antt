pub mod Topology
pub mod Refusals
