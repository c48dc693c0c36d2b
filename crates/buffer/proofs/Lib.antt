pub mod WroteLaws  -- nothing, one number, one list after another
pub mod Underway  -- a list that goes in part by part
