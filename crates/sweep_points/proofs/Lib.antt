pub mod PlaneLaws  -- the corners of words are those of the solid
pub mod Turns  -- one turn of each loop: a column of a line, a line of a plane
pub mod LineLaws  -- the bits that name the columns of a line, and lines without any
