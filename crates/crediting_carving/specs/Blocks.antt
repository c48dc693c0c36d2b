-- Blocks of unit cells, and how many cells of a block the shots of a run are credited with. docs/SCOPE.md, 'Credits'.
use Rattle.std.specs.Prelude.{◌≡◌, Bool, true, false, cond, ◌&&◌, ◌||◌, List, [], ◌∷◌, ℕ, zero, suc, ◌+◌, ◌-◌, ◌≤◌, ◌<◌, min, max, eqb, leb, ltb, length, get_or, drop}
use Rattle.ground.specs.Sums.{total, join}
use Rattle.ground.specs.Numbers.{bit}
use Rattle.lattice.specs.Cells.{Cells}
use Rattle.job.specs.Job.{shot_count, x_at, y_at, z_at, edge_at}
use Rattle.grid_cover.specs.Cover.{first_covering, names}
use Rattle.crediting_carving.specs.declared.blocks.Span.{Span}
use Rattle.crediting_carving.specs.declared.blocks.Block.{Block}
use Rattle.crediting_carving.specs.declared.blocks.Side.{Side}
use Rattle.crediting_carving.specs.declared.blocks.Side.TheVariants.{BeforeX, AfterX, BeforeY, AfterY, BeforeZ, AfterZ}

-- ---- counting the cells of a block
-- a sum over the cells of a span
abbrev pub along : Span → (ℕ → ℕ) → ℕ
along s f = total (s.to - s.from) λ i. f (s.from + i)

-- how many cells of a block a solid has
unfoldable pub count_in : Block → Cells → ℕ
count_in b s = along b.x λ i. along b.y λ j. along b.z λ k. bit (s i j k)

-- how many cells it has
abbrev pub size_of : Block → ℕ
size_of b = count_in b λ i j k. true

-- ---- credits
-- of how many cells of a block shot s is the first of the run that covers them
unfoldable pub credits_in : ℕ → List ℕ → List ℕ → Block → ℕ → ℕ
credits_in E coords run b s = count_in b λ i j k. names (first_covering E coords run i j k) s

-- a list with a count added to each place
unfoldable pub added : List ℕ → (ℕ → ℕ) → List ℕ
added l f = join (length l) λ s. (get_or l s 0 + f s) ∷ []

-- a count at one place
abbrev pub only : ℕ → ℕ → ℕ → ℕ
only t n s = cond (eqb t s) n 0

-- n more at any place stays within the cells of the largest field
pub record RoomFor (n : ℕ) (l : List ℕ) : Type 0 where
  pub at : (s : ℕ) → get_or l s 0 + n ≤ 1073741824

-- ---- spans and blocks
-- a span ends on or before its first cell
abbrev pub empty_span : Span → Bool
empty_span s = leb s.to s.from

abbrev pub empty_block : Block → Bool
empty_block b = empty_span b.x || (empty_span b.y || empty_span b.z)

-- its spans do not end before they begin
pub record Ordered (b : Block) : Type 0 where
  pub x_order : b.x.from ≤ b.x.to
  pub y_order : b.y.from ≤ b.y.to
  pub z_order : b.z.from ≤ b.z.to

-- it lies in the largest field
pub record Small (b : Block) : Type 0 where
  pub x_in : b.x.to ≤ 1024
  pub y_in : b.y.to ≤ 1024
  pub z_in : b.z.to ≤ 1024

-- the e cells from a on begin before the span ends, and end after it begins
abbrev pub meets_span : ℕ → ℕ → Span → Bool
meets_span e a s = ltb a s.to && ltb s.from (a + e)

-- shot s meets a block on x, y and z; a number past the list's shots meets nothing
unfoldable pub meets_block : ℕ → List ℕ → ℕ → Block → Bool
meets_block E coords s b =
    ltb s (shot_count coords)
    && (meets_span (edge_at E coords s) (x_at coords s) b.x
    && (meets_span (edge_at E coords s) (y_at coords s) b.y && meets_span (edge_at E coords s) (z_at coords s) b.z))

-- a cell lies in a span, and in a block
pub record InSpan (s : Span) (i : ℕ) : Type 0 where
  pub low : s.from ≤ i
  pub high : i < s.to

pub record InBlock (b : Block) (i j k : ℕ) : Type 0 where
  pub x : InSpan b.x i
  pub y : InSpan b.y j
  pub z : InSpan b.z k

-- a shot meets a block that has cells
pub record Meets (E : ℕ) (coords : List ℕ) (s : ℕ) (b : Block) : Type 0 where
  pub has_cells : empty_block b ≡ false
  pub meets : meets_block E coords s b ≡ true

-- the place of the first such shot of a run, or the run's length: no shot before it covers a cell of the block
pub record FirstMeeting (E : ℕ) (coords run : List ℕ) (b : Block) (r : ℕ) : Type 0 where
  pub within : r ≤ length run
  pub rest_decides : (i j k : ℕ) → InBlock b i j k → first_covering E coords (drop r run) i j k ≡ first_covering E coords run i j k
  pub found : r < length run → Meets E coords (get_or run r 0) b

-- ---- the part of a block that a shot covers
-- the cells of a span among the e cells from a on
abbrev pub shared_span : ℕ → ℕ → Span → Span
shared_span e a s = record { from = max a s.from; to = min (a + e) s.to }

-- on x, y and z
abbrev pub shared_block : ℕ → List ℕ → ℕ → Block → Block
shared_block E coords s b =
    record {
      x = shared_span (edge_at E coords s) (x_at coords s) b.x;
      y = shared_span (edge_at E coords s) (y_at coords s) b.y;
      z = shared_span (edge_at E coords s) (z_at coords s) b.z;
    }

-- ---- the six parts around it
-- what is left of a span before and after another in it
abbrev pub span_before : Span → Span → Span
span_before s r = record { from = s.from; to = r.from }

abbrev pub span_after : Span → Span → Span
span_after s r = record { from = r.to; to = s.to }

-- before and after c on x; within c on x, before and after it on y; within it on x and y, before and after it on z
abbrev pub part_of : Block → Block → ℕ → Block
part_of b c zero = record { x = span_before b.x c.x; y = b.y; z = b.z }
part_of b c (suc zero) = record { x = span_after b.x c.x; y = b.y; z = b.z }
part_of b c (suc (suc zero)) = record { x = c.x; y = span_before b.y c.y; z = b.z }
part_of b c (suc (suc (suc zero))) = record { x = c.x; y = span_after b.y c.y; z = b.z }
part_of b c (suc (suc (suc (suc zero)))) = record { x = c.x; y = c.y; z = span_before b.z c.z }
part_of b c (suc (suc (suc (suc (suc n))))) = record { x = c.x; y = c.y; z = span_after b.z c.z }

-- the place of a side among them
abbrev pub place_of : Side → ℕ
place_of BeforeX = 0
place_of AfterX = 1
place_of BeforeY = 2
place_of AfterY = 3
place_of BeforeZ = 4
place_of AfterZ = 5
