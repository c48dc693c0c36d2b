pub mod Bools  -- what 'or', 'and' and 'not' say of their parts
pub mod Conds  -- choices by a Bool
pub mod Tests  -- what tests of numbers say
pub mod Bits  -- a test as a number
pub mod Cases  -- a test that is computed once holds at each
pub mod AnyLaws  -- whether some number below n passes a test
pub mod SearchLaws  -- a search for the first place that passes a test
pub mod Digits  -- numbers of two digits
pub mod NumberLaws  -- lists of numbers: counting up, those that pass a test, membership
pub mod JoinLaws  -- lists one after the other
pub mod TotalLaws  -- sums of natural numbers
pub mod SumLaws  -- sums of signed numbers, and summation by parts
pub mod Integers  -- laws of ℤ that the kit's library lacks
