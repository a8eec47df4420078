use Rattle.std.proofs.Common.{◌∙◌, sym}
use Rattle.std.proofs.lemmas.Bool.{false≢true}
use Rattle.filter_tables.specs.Plain.{PlainMask}
use Rattle.filter_tables.specs.SeenMask.{plain_mask}
use Rattle.change_points.proofs.Places.{at_place}
use Rattle.change_points.proofs.kept_table.are_serials.Goals as goal

pub returns-then-not-is_serial : goal.returns-then-not-is_serial
returns-then-not-is_serial c = (
  (λ is. absurd (false≢true is)),
  (λ same. sym c.if-not-is_serial.true ∙ c.is_serial.ensures.1
      (at_place (λ (mask : PlainMask). mask.serial) plain_mask c.args.serials.now c.args.masks.now
      c.loop-place.place _ c.index-masks-place.result same c.loop-place-test.true c.index-masks-place.is)),
)
