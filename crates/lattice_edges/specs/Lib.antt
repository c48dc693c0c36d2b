pub mod UnitEdges
