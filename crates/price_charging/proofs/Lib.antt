pub mod TableLaws  -- when three tables accept and refuse
pub mod ChargeLaws  -- what is charged, and that no charge wraps
