pub mod Retyped  -- an accepted file reads back as its list
pub mod Refused  -- a refused file is a mistake
pub mod Fits  -- the text fits its buffer
pub mod Lines  -- printed lines, read back
