pub mod SameLaws  -- the test says equality
