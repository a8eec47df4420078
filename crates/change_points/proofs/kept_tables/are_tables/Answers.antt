use Rattle.std.proofs.Common.{◌∙◌, sym}
use Rattle.std.proofs.lemmas.Bool.{false≢true}
use Rattle.filter_tables.specs.Seen.{plain_table}
use Rattle.head_laws.specs.Heads.{head_of}
use Rattle.change_points.proofs.Places.{at_place}
use Rattle.change_points.proofs.kept_tables.are_tables.Goals as goal

pub returns-then-not-is : goal.returns-then-not-is
returns-then-not-is c = (
  (λ is. absurd (false≢true is)),
  (λ same. sym c.if-not-is.true ∙ c.is.ensures.1 (c.index-kept-place.is
      ∙ at_place head_of plain_table c.args.kept.now c.args.tables.now c.loop-place.place
      c.index-kept-place.result c.index-tables-place.result same c.loop-place-test.true
      c.index-tables-place.is)),
)
