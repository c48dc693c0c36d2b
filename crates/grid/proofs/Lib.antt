pub mod Examples  -- needs that docs/SCOPE.md names
pub mod NeedLaws  -- the need, counted shot by shot
pub mod TouchLaws  -- when an interval meets a span, and how many do
pub mod ShotLaws  -- the lowest interval that a span meets
pub mod QuotientLaws  -- a table of quotients
pub mod CellLaws  -- the runs of a valid list are few
pub mod StartLaws  -- the starting places of a series of runs
