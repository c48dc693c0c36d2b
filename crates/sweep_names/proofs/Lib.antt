pub mod NameLaws  -- columns named, and what is lent
