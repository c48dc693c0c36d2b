pub mod KnownTotals  -- the totals of the proved jobs, by computing
