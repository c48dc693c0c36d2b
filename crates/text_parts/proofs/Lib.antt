pub mod LineLaws  -- words and numbers one after another, and their length
