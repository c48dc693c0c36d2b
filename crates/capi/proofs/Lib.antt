pub mod CoversLaws  -- the cover test with a run of the index tells the lowest covering shot
pub mod AnsweredLaws  -- what each call promises, by its numbers
