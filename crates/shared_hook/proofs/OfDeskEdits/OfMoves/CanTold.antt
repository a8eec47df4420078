-- While masks are laid, the lists tell the masks as the edit leaves them.
use Rattle.std.proofs.Common.{List}
use Rattle.visit_room.specs.declared.names.MaskName.{MaskName}
use Rattle.filter_state.specs.declared.edit.Edit.{Edit}
use Rattle.hook_store_law.specs.OfEdits.Premises.{next}
use Rattle.hook_store_law.proofs.OfEdits.Accepted.{next_sound}
use Rattle.desk_actions.specs.OfLedgers.Kept.{commits, base}
use Rattle.desk_parts.specs.declared.parts.Parts.{Parts}
use Rattle.shared_hook.specs.OfDeskEdits.OfMoves.Tells.{CanTell}
use Rattle.shared_hook.specs.OfDeskEdits.OfMoves.Raises.{IsRaising}

pub can_tell : (start parts : Parts) (y : Edit) (built : List MaskName) → IsRaising start parts y built → CanTell parts.ledger.lists parts.actions (commits parts.ledger) (next (commits parts.ledger) y)
can_tell start parts y built r = record {
  base = base parts.ledger;
  low = r.ready.accepted.low;
  keeps = r.lawful.law;
  sound = next_sound (commits parts.ledger) (base parts.ledger) y r.ready.state r.ready.done r.ready.accepted;
  spells = r.spells;
  slots = r.here.slots;
}
