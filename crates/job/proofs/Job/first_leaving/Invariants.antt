-- `first_leaving` gives the first shot that leaves the field: no shot before that of the loop does. Assumes nothing.
use Prim.Native.Nat.{◌-◌}
use Rattle.ground.proofs.SearchLaws.{Searched}
use Rattle.job.specs.Job.{shot_count, shot_at}
use Rattle.job.specs.Checking.{leaves}
use Rattle.job.proofs.Job.first_leaving.Given as goal

abbrev pub invariant-loop-i : goal.invariant-loop-i
invariant-loop-i l = Searched (λ i. leaves l.self.field (shot_at l.self.edge l.self.coords.now i)) 0 (shot_count l.self.coords.now) l.i

abbrev pub decreases-loop-i : goal.decreases-loop-i
decreases-loop-i l = shot_count l.self.coords.now - l.i
