-- Each way out is one case of the definition.
use Rattle.buffer.proofs.WroteLaws.{wrote_as}
use Rattle.shotfile_lines.proofs.LineLaws.{at_byte, at-shot, nowhere}
use Rattle.shotfile_lines.proofs.put_place.Goals as goal

pub returns-in-Byte-clause-wrote : goal.returns-in-Byte-clause-wrote
returns-in-Byte-clause-wrote c = wrote_as (at_byte c.args.detail c.args.place c.in-Byte.is) c.put_labelled.ensures.wrote

pub returns-in-Shot-clause-wrote : goal.returns-in-Shot-clause-wrote
returns-in-Shot-clause-wrote c = wrote_as (at-shot c.args.detail c.args.place c.in-Shot.is) c.put_labelled-in-Shot.ensures.wrote

pub returns-in-Nowhere-clause-wrote : goal.returns-in-Nowhere-clause-wrote
returns-in-Nowhere-clause-wrote c = nowhere c.args.detail c.args.place c.args.out.now c.args.at c.in-Nowhere.is c.requires
