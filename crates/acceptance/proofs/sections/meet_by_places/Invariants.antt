-- It steps from place to place. The invariant: the place is that of a reader after so many steps.
use mathlib.Core.Path.{◌≡◌}
use Rattle.section.specs.Section.{stepped}
use Rattle.acceptance.proofs.sections.meet_by_places.Given as goal

abbrev pub invariant-loop : goal.invariant-loop
invariant-loop l = l.at ≡ stepped l.listing l.counter
