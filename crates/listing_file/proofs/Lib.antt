pub mod ListingLaws  -- what listing a file leaves, and that it fits
