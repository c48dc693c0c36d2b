pub mod Refused  -- when measuring accepts and refuses, each exactly
pub mod IntakeLaws  -- how the promises follow from checks, length and index
