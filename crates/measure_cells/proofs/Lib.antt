pub mod FieldLaws  -- the counts over all points of a field are the totals
pub mod PointLaws  -- the pattern of a point through the run of a grid cell
pub mod SumLaws  -- sums of figures, and how large they get
