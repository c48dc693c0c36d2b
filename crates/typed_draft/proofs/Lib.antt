pub mod DraftLaws  -- the ways of one line more
