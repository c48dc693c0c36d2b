pub mod PackedLaws  -- the packed table as it is filled
