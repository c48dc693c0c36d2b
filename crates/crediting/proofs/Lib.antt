pub mod CreditTheorems  -- what the credits are good for
pub mod Refused  -- when crediting accepts and refuses, each exactly
pub mod Examples  -- two small lists, by computing
pub mod CallLaws  -- how the answer follows from intake, length and credits
pub mod FieldLaws  -- the blocks of the grid cells fill the field
