pub mod PlanesLaws  -- plane after plane, all corners
