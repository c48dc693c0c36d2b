pub mod BoxLaws  -- the boxes of shots as numbers
