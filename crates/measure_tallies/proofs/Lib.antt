pub mod TallyLaws  -- what a pattern byte counts, bit by bit
