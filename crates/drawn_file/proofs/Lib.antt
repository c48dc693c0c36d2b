pub mod DrawnLaws  -- what writing a drawing leaves, and that an accepted one is always written
pub mod ReadBack  -- the shot file says what the drawing says
