pub mod StoreLaws  -- numbers stored one after the other
