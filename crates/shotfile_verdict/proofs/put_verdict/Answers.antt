-- The list of a file that reads well is checked; no other has a verdict.
use mathlib.Core.Path.{ap, ◌∙◌}
use Rattle.buffer.proofs.WroteLaws.{wrote_as}
use Rattle.job.specs.Checking.{checked}
use Rattle.shotfile_verdict.specs.Verdicts.{list_verdict}
use Rattle.shotfile_verdict.proofs.VerdictLaws.{read-room, read-verdict, refused-verdict}
use Rattle.shotfile_verdict.proofs.put_verdict.Goals as goal

pub job-requires : goal.job-requires
job-requires c = read-room c.read.ensures c.in-Ok.is

pub returns-in-Ok : goal.returns-in-Ok
returns-in-Ok c = record {
  wrote = wrote_as (ap (λ k. list_verdict (checked k)) c.job.ensures ∙ read-verdict c.read.ensures c.in-Ok.is) c.put_list_verdict.ensures;
  coordinates = c.read.ensures.coordinates;
}

pub returns-in-Err : goal.returns-in-Err
returns-in-Err c = record { wrote = refused-verdict c.read.ensures c.args.out.now c.args.at c.in-Err.is c.requires; coordinates = c.read.ensures.coordinates }
