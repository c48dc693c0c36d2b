-- What an accepted VOX file says, and when a file is refused, in words of numbers. docs/SCOPE.md, 'VOX file'.
use Rattle.std.specs.Prelude.{◌≡◌, List, true, ◌↔◌, ◌⊎◌, ℕ, ◌+◌, ◌*◌, ◌≤◌, ◌<◌, length, take, drop}
use Rattle.lattice.specs.Shots.{Shot, cells}
use Rattle.refusals.specs.declared.Refusal.{Refusal}
use Rattle.refusals.specs.declared.Refusal.TheVariants.{TooManyShots, NoPlace, NotVox, BrokenChunk, VoxelRange}
use Rattle.job.specs.Job.{Job, shots, shot, shot_count, Valid}
use Rattle.grid.specs.Grid.{need}
use Rattle.text_parts.specs.Text.{text}
use Rattle.vox_chunks.specs.Chunks.{number_at, content_at, children_at, after_chunk}
use Rattle.vox_voxels.specs.Voxels.{side_on, largest_side, voxel_at, byte_of}
use Rattle.vox.specs.Vox.{voxel_count}

-- voxel n as a shot of edge 1
abbrev pub voxel_shot : List ℕ → ℕ → Shot
voxel_shot s n = record { x = byte_of s n 0; y = byte_of s n 1; z = byte_of s n 2; edge = 1 }

-- some voxel of XYZI is the cell (i, j, k)
pub record HasVoxel (s : List ℕ) (i j k : ℕ) : Type 0 where
  pub n : ℕ
  pub is_voxel : n < voxel_count s
  pub x_is : byte_of s n 0 ≡ i
  pub y_is : byte_of s n 1 ≡ j
  pub z_is : byte_of s n 2 ≡ k

-- what an accepted file says: this list with these settings
pub record VoxList (s : List ℕ) (job : Job) : Type 0 where
  -- the settings: the largest side, edge 1, grid 1
  pub field : job.field ≡ largest_side s
  pub edge : job.edge ≡ 1
  pub grid : job.grid ≡ 1
  -- a shot for each voxel, in file order
  pub count : shot_count job.coords ≡ voxel_count s
  pub in_order : (m : ℕ) → m < voxel_count s → shot job m ≡ voxel_shot s m
  -- the cells quoted are exactly the voxels
  pub exactly : (i j k : ℕ) → (cells (shots job) i j k ≡ true) ↔ HasVoxel s i j k
  -- so that no call refuses the list, if it has the entries that it needs
  pub valid : Valid job
  pub needs : need job ≡ shot_count job.coords + 2

-- ---- 13
-- the four bytes at a place are these
abbrev pub Named : List ℕ → ℕ → List ℕ → Type 0
Named s at name = take 4 (drop at s) ≡ name

-- where a chunk is required: no byte is left, or four or more are and the name is another
abbrev pub NoChunk : List ℕ → ℕ → List ℕ → Type 0
NoChunk s at name = (length s ≤ at) ⊎ ((at + 4 ≤ length s) × ¬ Named s at name)

-- the chunks that a file must have, each at its place with its name
pub data Required : ℕ → List ℕ → Type 0 where
  main : Required 8 (text "MAIN")
  size : Required 20 (text "SIZE")
  xyzi : Required 44 (text "XYZI")

pub data NoVoxAt (s : List ℕ) (at : ℕ) : Type 0 where
  no_mark : at ≡ 0 → (length s < 8) ⊎ (¬ Named s 0 (text "VOX ") ⊎ ¬ (number_at s 4 ≡ 150)) → NoVoxAt s at
  no_chunk : {name : List ℕ} → Required at name → NoChunk s at name → NoVoxAt s at

-- ---- 14
-- the file ends before the chunk at a place does; or it has children, or content of another size than this
abbrev pub Ends : List ℕ → ℕ → Type 0
Ends s at = length s < after_chunk s at

abbrev pub Misfits : List ℕ → ℕ → ℕ → Type 0
Misfits s at content = Ends s at ⊎ (¬ (children_at s at ≡ 0) ⊎ ¬ (content_at s at ≡ content))

-- the chunks without children, each with the size that its content must have
pub data Sized (s : List ℕ) : ℕ → ℕ → Type 0 where
  size_content : Sized s 20 12
  xyzi_content : Sized s 44 (4 + 4 * voxel_count s)

-- a chunk after XYZI begins at a place: the first where the voxels end, each other one where the one before it ends, if a byte is left there
pub data LaterChunk (s : List ℕ) : ℕ → Type 0 where
  first_later : voxel_at (voxel_count s) < length s → LaterChunk s (voxel_at (voxel_count s))
  next_later : {at : ℕ} → LaterChunk s at → after_chunk s at < length s → LaterChunk s (after_chunk s at)

pub data BrokenAt (s : List ℕ) (at : ℕ) : Type 0 where
  main_broken : at ≡ 8 → ¬ (content_at s 8 ≡ 0) ⊎ ¬ (after_chunk s 8 ≡ length s) → BrokenAt s at
  misfit : {content : ℕ} → Sized s at content → Misfits s at content → BrokenAt s at
  later_broken : LaterChunk s at → Ends s at → BrokenAt s at

-- ---- 15
-- a side outside 1 to 256; a voxel that is not below the side of an axis, or has colour 0
abbrev pub WrongSide : List ℕ → ℕ → Type 0
WrongSide s axis = (side_on s axis < 1) ⊎ (256 < side_on s axis)

abbrev pub WrongVoxel : List ℕ → ℕ → Type 0
WrongVoxel s n = (side_on s 0 ≤ byte_of s n 0) ⊎ ((side_on s 1 ≤ byte_of s n 1) ⊎ ((side_on s 2 ≤ byte_of s n 2) ⊎ (byte_of s n 3 ≡ 0)))

-- this voxel is wrong, and no earlier one is
pub record FirstWrong (s : List ℕ) (n : ℕ) : Type 0 where
  pub is_voxel : n < voxel_count s
  pub is_wrong : WrongVoxel s n
  pub earlier_right : (m : ℕ) → m < n → ¬ WrongVoxel s m

pub data RangeAt (s : List ℕ) (at : ℕ) : Type 0 where
  side_wrong : at ≡ 20 → WrongSide s 0 ⊎ (WrongSide s 1 ⊎ WrongSide s 2) → RangeAt s at
  voxel_wrong : {n : ℕ} → at ≡ voxel_at n → FirstWrong s n → RangeAt s at

-- the condition of each refusal of a VOX file, where the coordinate slice has places for so many shots; no other is given
pub data VoxCondition (places : ℕ) (s : List ℕ) : Refusal → Type 0 where
  not_vox : {at : ℕ} → NoVoxAt s at → VoxCondition places s (NotVox at)
  broken_chunk : {at : ℕ} → BrokenAt s at → VoxCondition places s (BrokenChunk at)
  voxel_range : {at : ℕ} → RangeAt s at → VoxCondition places s (VoxelRange at)
  too_many_shots : 4096 < voxel_count s → VoxCondition places s (TooManyShots 44)
  no_place : places < voxel_count s → VoxCondition places s (NoPlace 44)
