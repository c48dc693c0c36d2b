pub mod Condition3  -- totals, corners and listing of an accepted list
pub mod Refused  -- when listing accepts and refuses, each exactly
pub mod AcceptedLaws  -- what is known of a list that a call accepts
pub mod AnswerLaws  -- how the answers follow from the intake and the sweep
