pub mod Conditions  -- each refusal is given exactly where it should be
pub mod FileOrder  -- the tests stand in file order
pub mod Voxels  -- the cells of an accepted file are its voxels
pub mod Fits  -- the list has its places
pub mod Faults  -- what the searches find
pub mod Passed  -- what a file has that passes the checks
pub mod Ways  -- the ways out of the checks
pub mod Walks  -- voxel after voxel, chunk after chunk
pub mod Examples  -- small files, by computation
