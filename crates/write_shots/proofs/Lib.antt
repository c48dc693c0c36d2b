pub mod Fits  -- what is written fits its buffer
