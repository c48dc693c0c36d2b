-- The rectangle of the whole field holds every box.
use Rattle.sweep_layer.proofs.LayerLaws.{all-anew}
use Rattle.sweep_layer.proofs.renew_all.Goals as goal

pub returns-clause-becomes : goal.returns-clause-becomes
returns-clause-becomes c = all-anew _ _ _ _ _ _ c.requires.0 c.again.ensures.turned
