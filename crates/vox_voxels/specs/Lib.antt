pub mod Voxels
