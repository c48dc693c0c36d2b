pub mod Walk  -- chunk after chunk, up to a model
pub mod Examples  -- small files, by computation
