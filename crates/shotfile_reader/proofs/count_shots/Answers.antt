use mathlib.Core.Path.{◌≡◌, sym, ap, ◌∙◌}
use native.Mathlib.Omega.{arith}
use Rattle.std.specs.Prelude.{Ok}
use Rattle.std.proofs.lemmas.Result.{err_from_is_err_and}
use Rattle.shotfile_reader.proofs.Steps.{count-start, count-end, count-many, count-full, count-shot, count-stopped, count-ended}
use Rattle.shotfile_reader.proofs.count_shots.Goals as goal

pub loop-n-init : goal.loop-n-init
loop-n-init c = count-start _ _ _

pub returns-then-bytes-c : goal.returns-then-bytes-c
returns-then-bytes-c c = count-end _ _ _ _ c.loop-n.invariant c.if-bytes-c.true

pub returns-then-places-n : goal.returns-then-places-n
returns-then-places-n c = count-full _ _ _ _ c.loop-n.invariant c.if-bytes-c.false (omega arith) c.if-places-n.true

pub returns-in_err-next : goal.returns-in_err-next
returns-in_err-next c = let p = err_from_is_err_and c.from_residual.result c.from_residual.ensures.1 in
    rw (p.1, p.2) (count-stopped _ _ _ _ c.loop-n.invariant c.if-bytes-c.false (omega arith) c.if-places-n.false (sym c.in_err-next.was ∙ c.step.ensures))

pub returns-in-None : goal.returns-in-None
returns-in-None c = count-ended _ _ _ _ c.loop-n.invariant c.if-bytes-c.false (omega arith) c.if-places-n.false (sym (c.in_ok-next.was ∙ ap Ok c.in-None.is) ∙ c.step.ensures)

pub loop-n-preserved : goal.loop-n-preserved
loop-n-preserved c = count-shot _ _ _ _ c.loop-n.invariant c.if-bytes-c.false (omega arith) c.if-places-n.false (sym (c.in_ok-next.was ∙ ap Ok c.in-Some.is) ∙ c.step.ensures)

pub returns-then-bytes-c-2 : goal.returns-then-bytes-c-2
returns-then-bytes-c-2 c =
    let all : 4096 ≡ c.loop-n.n = omega arith in
    ap Ok all ∙ count-end _ _ _ _ c.loop-n.invariant c.if-bytes-c-2.true

pub returns : goal.returns
returns c = count-many _ _ _ _ c.loop-n.invariant c.if-bytes-c-2.false (omega arith)
