pub mod KnownJobs
