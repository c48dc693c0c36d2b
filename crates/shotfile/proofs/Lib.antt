pub mod RoundTrip  -- reading and writing undo one another
pub mod ReadBack  -- what is written is read back
pub mod WriteBack  -- a record that is read is the shortest
pub mod Shortest  -- a file that is read is the shortest of its list
pub mod Examples  -- small files, by computation
