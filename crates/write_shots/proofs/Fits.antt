-- What is written fits its buffer. Assumes nothing.
use mathlib.Core.Path.{◌≡◌, ap}
use mathlib.Core.List.{List}
use Prim.Native.Nat.{ℕ, ◌≤◌}
use native.Mathlib.Omega.{arith}
use lib.ListN.{length, drop, length-append}
use Rattle.job.specs.Job.{Job}
use Rattle.std.specs.Prelude.{Ok}
use Rattle.shotfile_writer.specs.Calls.{WriteAnswer, WriteCall}
use Rattle.shotfile_writer.specs.Files.{file_of}
use Rattle.shotfile_writer.proofs.Accepted.{accepted-list}

pub written-within : {job : Job} {before after : List ℕ} {w : WriteAnswer} → WriteCall job before w after → {n : ℕ} → w ≡ Ok n → n ≤ length after
written-within {job} {before} c {n} e =
    let a = accepted-list c e in
    omega (arith, a.long, ap length a.leaves, length-append (file_of job) (drop (length (file_of job)) before))
