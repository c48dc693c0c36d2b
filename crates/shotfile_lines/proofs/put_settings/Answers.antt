-- The three lines follow one another.
use Rattle.buffer.proofs.WroteLaws.{wrote_then}
use Rattle.shotfile_lines.specs.Lines.{settings}
use Rattle.shotfile_lines.proofs.put_settings.Goals as goal

pub returns-clause-wrote : goal.returns-clause-wrote
unfolding settings
returns-clause-wrote c = wrote_then c.put_setting-field.ensures.wrote (wrote_then c.put_setting-edge.ensures.wrote c.put_setting.ensures.wrote)
