pub mod PriceTheorems  -- when the call accepts and refuses, and what it charges
pub mod AmountLaws  -- the amounts of a field of at most 1,024 are no more than the top of a table
pub mod AnswerLaws  -- how the answer follows from what is measured and from the tables
