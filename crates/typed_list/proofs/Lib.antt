pub mod Listing  -- the lines of a text one after another
pub mod Examples  -- small texts, by computation
