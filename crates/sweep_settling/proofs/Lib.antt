pub mod SettlingLaws  -- words copied from one image to the other
