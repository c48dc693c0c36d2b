pub mod ShotLaws  -- the lines of the shots, one after another
