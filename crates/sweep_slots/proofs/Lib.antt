pub mod SlabLaws  -- the run of a slab, and slab after slab all planes
pub mod OrderLaws  -- the shots by where they begin are the slots that are promised
