-- The settings, the shots and the verdict follow one another, or the header is refused.
use mathlib.Core.Path.{sym, ◌∙◌}
use native.Mathlib.Omega.{arith}
use Rattle.buffer.proofs.WroteLaws.{wrote_then, wrote_as}
use Rattle.job.specs.Job.{shot_count}
use Rattle.shotfile_text.proofs.TextLaws.{text-whole, text-refused, headless-coords, has-map}
use Rattle.shotfile_text.proofs.put_text.Goals as goal

pub bounds-bytes-0 : goal.bounds-bytes-0
bounds-bytes-0 c = has-map c.args.bytes.now c.header_absent.result
    (sym c.in-Ok.is ∙ c.take_record.ensures)

pub put_shots-listed-requires : goal.put_shots-listed-requires
put_shots-listed-requires c = omega (arith, c.requires, c.put_settings-set.ensures.few, c.put_settings-set.auto.out)

pub put_verdict-requires : goal.put_verdict-requires
put_verdict-requires c = omega (
  arith,
  c.requires,
  c.put_settings-set.ensures.few,
  c.put_settings-set.auto.out,
  c.put_shots-listed.ensures.few,
  c.put_shots-listed.auto.out,
)

pub returns-in-Ok : goal.returns-in-Ok
returns-in-Ok c = record {
  text = wrote_as (text-whole (shot_count c.args.coords.now) c.args.bytes.now
      c.header_absent.ensures
      (sym c.in-Ok.is ∙
      c.take_record.ensures)
      c.first_absent.ensures)
      (wrote_then c.put_settings-set.ensures.wrote
      (wrote_then c.put_shots-listed.ensures.wrote c.put_verdict.ensures.wrote));
  coordinates = c.put_verdict.ensures.coordinates;
}

pub returns-in-Err : goal.returns-in-Err
returns-in-Err c = record {
  text = wrote_as (text-refused (shot_count c.args.coords.now) c.args.bytes.now c.header_absent.ensures (sym c.in-Err.is ∙ c.take_record.ensures))
      c.put_refused.ensures;
  coordinates = headless-coords (shot_count c.args.coords.now) c.args.bytes.now c.header_absent.ensures (sym c.in-Err.is ∙ c.take_record.ensures) c.args.coords.now;
}
