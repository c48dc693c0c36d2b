pub mod ShotLines
