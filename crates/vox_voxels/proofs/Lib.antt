pub mod VoxelLaws  -- the first wrong voxel
