pub mod PartLaws  -- the parts around a box that meets a rectangle
pub mod ShadeLaws  -- the layer that boxes shade, and the first box or the last that meets a rectangle
pub mod RectLaws  -- the cells of rectangles as numbers between bounds
pub mod FourLaws  -- four tests as one
