-- Where no box begins or ends on the plane, both layers are the same.
use mathlib.Core.Path.{◌≡◌}
use native.Mathlib.Omega.{arith}
use Rattle.sweep_plane.proofs.PlaneLaws.{bare-found, bare-both}
use Rattle.sweep_plane.proofs.plane.Goals as goal
use Rattle.sweep_plane.proofs.plane.Goals.{then-n-eq0-via-then-n-eq0, then-n-eq0-via-else-n-eq0+then-turning-eq0}

pub returns-then-n-eq0 : goal.returns-then-n-eq0
returns-then-n-eq0 c =
    let p = c.requires in
    elim c.then-n-eq0.branch [
      | then-n-eq0-via-then-n-eq0 w ↦
          let e : c.args.old ≡ c.args.n = omega (arith, p.about.0.old_n, w.if-n-eq0.true) in
          record { plane_out = bare-found _ _ _ p.about.0 e (λ i l k. absurd (omega (arith, e, w.if-n-eq0.true))) _ _ p.both.2; both_2 = bare-both _ _ _ p.about.0 e (λ i l k. absurd (omega (arith, e, w.if-n-eq0.true))) p.both.0 }
      | then-n-eq0-via-else-n-eq0+then-turning-eq0 w ↦
          let z : c.args.ends ≡ 0 = omega (arith, w.if-turning-eq0.true) in
          let e : c.args.old ≡ c.args.n = omega (arith, p.about.0.old_n, w.if-turning-eq0.true) in
          record { plane_out = bare-found _ _ _ p.about.0 e (λ i l k. p.about.4.no_end z i k) _ _ p.both.2; both_2 = bare-both _ _ _ p.about.0 e (λ i l k. p.about.4.no_end z i k) p.both.0 }
    ]
