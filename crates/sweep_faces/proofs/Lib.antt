pub mod FaceLaws  -- the layers about a plane, face by face
