pub mod CarvingLaws  -- a rectangle shown anew, box by box and part by part
