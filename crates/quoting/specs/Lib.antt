pub mod VoxQuoting
