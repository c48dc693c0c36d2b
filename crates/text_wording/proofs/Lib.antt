pub mod SentenceLaws  -- how long the sentences are
