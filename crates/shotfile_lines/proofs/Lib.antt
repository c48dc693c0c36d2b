pub mod LineLaws  -- the lines, by what stands in them, and how long they are
