-- How many bytes of a lent slice standard input has filled. No contract can say which bytes a system call reads.
use Rattle.std.specs.Prelude.{ℕ, ◌≤◌, Option, Some, None}

-- from least to most bytes, unless a read failed
abbrev pub Between : ℕ → ℕ → Option ℕ → Type 0
Between least most (Some n) = (least ≤ n) × (n ≤ most)
Between least most None = Unit {0}
