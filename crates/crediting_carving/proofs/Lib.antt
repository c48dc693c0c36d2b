pub mod CarveLaws  -- what the first shot that meets a block is credited with, and the parts around it
pub mod BlockLaws  -- counting the cells of a block, by parts too
pub mod MeetLaws  -- which shots meet a block
pub mod AddedLaws  -- counts added place by place
pub mod SpanLaws  -- sums over a span, cut in two and three
