use Rattle.hook_reader.proofs.Reading.{new_reading}
use Rattle.hook_reader.proofs.Copies.{no_heads}
use Rattle.pin_store.specs.Calls.{seen_by}
use Rattle.hook_reader.proofs.reader.HookReader.new.Goals as goal

pub invariant_of-result : goal.invariant_of-result
invariant_of-result c = (
  new_reading c.args.reader.place c.in_ok-with_room.field-0 c.requires.outside c.in_ok-with_room.ensures,
  no_heads (seen_by c.args.reader.place) _ _ c.in_ok-with_room-2.ensures c.in_ok-with_room-3.ensures,
  c.in_ok-with_room-4.ensures (seen_by c.args.reader.place),
)
