pub mod VerdictLaws  -- the line, by what reading and checking answer
