-- The buffer is as long as it says; this is cited, since a list of that length is not to be written out.
use Rattle.std.proofs.Common.{ℕ, ◌≡◌, ◌≤◌, sym, arith}
use Rattle.std.proofs.lemmas.List.{length-replicate}
use Rattle.credits.proofs.print_credits.Goals as goal

at_least : {n m : ℕ} → m ≡ n → n ≤ m
at_least e = omega (arith, e)

pub slice_bounds-print_by-end : goal.slice_bounds-print_by-end
slice_bounds-print_by-end c = sym (length-replicate {A = ℕ} 172032 0)

pub print_by-requires : goal.print_by-requires
print_by-requires c = at_least (length-replicate {A = ℕ} 172032 0)
