pub mod BandTheorems  -- what the check and the lookup are good for, for any band list
pub mod CheckLaws  -- band after band, for the check and the lookup
pub mod JudgeLaws  -- what the tests of one band say
pub mod Examples  -- small tables, by computing
