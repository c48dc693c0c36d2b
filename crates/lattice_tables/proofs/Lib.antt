pub mod TableLaws  -- a table computed once gives the weight at each entry
