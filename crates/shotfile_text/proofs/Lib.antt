pub mod Listing  -- what the text shows, in words of what reading gives
pub mod TextLaws  -- the text, by its header
