pub mod ChunkLaws  -- a name that stands, and what a chunk has that passes the tests
