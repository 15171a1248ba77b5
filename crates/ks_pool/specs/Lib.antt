-- The edge to the network.
pub mod Clock
