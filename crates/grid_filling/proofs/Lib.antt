pub mod IndexLaws  -- the need is the length of the index, and a filled slice begins with it
pub mod FillLaws  -- the turns of the loops: cells, rows, slabs
pub mod NarrowLaws  -- a run is found by narrowing a slab to a row and a row to a cell
pub mod StoreLaws  -- the index put in cell by cell
pub mod FrontLaws  -- the front of a slice, kept number by number
