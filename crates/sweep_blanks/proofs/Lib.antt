pub mod BlankLaws  -- rows that name no column
