use Rattle.std.proofs.Common.{◌∙◌, length, sym, ap, subst, arith}
use Rattle.std.proofs.lemmas.List.{length-map}
use Rattle.hook_store_law.specs.OfEffects.Parts.{words_of}
use Rattle.miniq_pair.specs.Heads.{hook_number}
use Rattle.hook_store_law.specs.Stated.{tables_at, filters_at}
use Rattle.hook_store_law.specs.Told.{with_slots}
use Rattle.hook_store_law.specs.OfEdits.Premises.{next}
use Rattle.desk_heads.specs.OfHeadCommits.Listed.{HasSerial}
use Rattle.desk_heads.specs.OfHeadCommits.Raised.{stored_next}
use Rattle.desk_actions.specs.OfLedgers.Kept.{commits}
use Rattle.shared_hook.proofs.OfDeskEdits.Found.{counts}
use Rattle.shared_hook.proofs.OfDeskEdits.OfMoves.CanTold.{can_tell}
use Rattle.shared_hook.proofs.desk_edits.moves.raising.raise_mask.Goals as goal

pub tell_mask-serial-requires-clause-there : goal.tell_mask-serial-requires-clause-there
tell_mask-serial-requires-clause-there g c = let was = c.args.parts.now in let y = g.E.EditName.edit in let up = c.requires.raising in let lay = c.requires.lay in let t = next (commits was.ledger) y in (
  commits was.ledger,
  t,
  lay.0,
  can_tell up.0 was y up.1 up.2,
  lay.1.mask,
  let many = counts t lay.0 in let count = lay.1.counted in let room = c.requires.room.2 in omega (arith, many, count, room),
)

pub lay_mask-slot-requires-clause-filters : goal.lay_mask-slot-requires-clause-filters
lay_mask-slot-requires-clause-filters g c = let was = c.args.parts.now in let y = g.E.EditName.edit in let up = c.requires.raising in let lay = c.requires.lay in let h = commits was.ledger in let told = c.tell_mask-serial.ensures in
    let can = can_tell up.0 was y up.1 up.2 in ap (stored_next h y) (told.serial (next h y) lay.0 h can lay.1.mask) ∙ told.filters (next h y) lay.0 h can lay.1.mask

pub lay_mask-slot-requires-clause-words : goal.lay_mask-slot-requires-clause-words
lay_mask-slot-requires-clause-words g c = let was = c.args.parts.now in let y = g.E.EditName.edit in let up = c.requires.raising in let lay = c.requires.lay in let h = commits was.ledger in let told = c.tell_mask-serial.ensures in
    let can = can_tell up.0 was y up.1 up.2 in ap (words_of (next h y)) (told.serial (next h y) lay.0 h can lay.1.mask) ∙ lay.1.words_are

pub lay_mask-slot-requires-clause-count : goal.lay_mask-slot-requires-clause-count
lay_mask-slot-requires-clause-count g c = let was = c.args.parts.now in let y = g.E.EditName.edit in let up = c.requires.raising in let lay = c.requires.lay in let h = commits was.ledger in let told = c.tell_mask-serial.ensures in
    let can = can_tell up.0 was y up.1 up.2 in
    lay.1.counted ∙ (sym (counts (next h y) lay.0) ∙ (sym (length-map (filters_at (next h y) lay.0) (with_slots h)) ∙ ap length (told.filters (next h y) lay.0 h can lay.1.mask)))

pub returns-clause-serial : goal.returns-clause-serial
returns-clause-serial g c = λ serial lay. let was = c.args.parts.now in let y = g.E.EditName.edit in let up = c.requires.raising in let h = commits was.ledger in
    c.tell_mask-serial.ensures.serial (next h y) serial h (can_tell up.0 was y up.1 up.2) lay.mask

pub returns-clause-here : goal.returns-clause-here
returns-clause-here g c = let was = c.args.parts.now in let y = g.E.EditName.edit in let up = c.requires.raising in let lay = c.requires.lay in let h = commits was.ledger in let told = c.tell_mask-serial.ensures in
    let can = can_tell up.0 was y up.1 up.2 in
    subst (HasSerial (tables_at (next h y) (hook_number c.args.line.now.hook))) (sym (told.serial (next h y) lay.0 h can lay.1.mask)) (told.here (next h y) lay.0 h can lay.1.mask)
