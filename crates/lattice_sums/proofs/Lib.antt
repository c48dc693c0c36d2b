pub mod CornerSumLaws  -- the corner sums as they are taken, and the room that they have
