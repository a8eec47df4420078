use Rattle.block_codec.specs.OfReadings.Read.{mask_of_words, action_of_words}
use Rattle.kept_records.specs.Keeping.{IsRead, IsKnown}
use Rattle.kept_records.proofs.Kept.{none_kept}
use Rattle.kept_records.proofs.records.HookRecords.with_room.Goals as goal

pub returns : goal.returns
returns c = λ h. record {
  masks = none_kept (IsRead mask_of_words) h c.in_ok-with_room.field-0 c.in_ok-with_room.ensures;
  filters = none_kept IsKnown h c.in_ok-with_room-2.field-0 c.in_ok-with_room-2.ensures;
  actions = none_kept (IsRead action_of_words) h c.in_ok-with_room-3.field-0 c.in_ok-with_room-3.ensures;
}
