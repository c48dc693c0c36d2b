pub mod ImageLaws  -- what an image shows, as it is filled column by column
pub mod ColumnLaws  -- the words of a column, changed in the rows of a rectangle
pub mod WordLaws  -- the words of a rectangle
pub mod ChangeLaws  -- words changed one after the other
