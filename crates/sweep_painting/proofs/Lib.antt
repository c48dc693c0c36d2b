pub mod PaintingLaws  -- a rectangle painted part by part
