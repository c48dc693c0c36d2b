pub mod LineLaws  -- a run narrowed to a line covers what the whole run does
pub mod KeptLaws  -- numbers that pass a test, written one by one
