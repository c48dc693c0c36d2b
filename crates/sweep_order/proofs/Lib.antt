pub mod OrderLaws  -- the ends of boxes counted
