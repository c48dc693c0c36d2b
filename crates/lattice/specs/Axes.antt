-- The three axes, so that what holds on x, y and z alike is said once.

pub data Axis : Type 0 where
  x-axis y-axis z-axis : Axis
