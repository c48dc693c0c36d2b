pub mod ListedRuns  -- what the first run is; of a listing that the software made, all corners with that x
pub mod RunLaws  -- the search for a run's ends, and the part between them
pub mod StepLaws  -- what a reader meets, step after step
pub mod ReaderLaws  -- a reader as an iterator
pub mod RecordLaws  -- the whole records of any bytes
pub mod Examples  -- a damaged listing
