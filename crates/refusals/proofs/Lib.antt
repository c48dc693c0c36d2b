pub mod Deciding  -- when a call accepts and refuses, test by test
pub mod FirstOf  -- the first test that holds
pub mod OneMore  -- a test of length behind checks that pass
