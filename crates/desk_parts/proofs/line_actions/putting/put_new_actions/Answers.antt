use Rattle.std.proofs.Common.{◌≡◌, ◌∙◌, ℕ, ◌+◌, ◌<◌, List, [], ◌∷◌, ◌++◌, length, sym, ap, subst, arith}
use Rattle.store_history.specs.declared.history.Commit.{Commit}
use Rattle.pin_store.specs.Sheets.{base_of}
use Rattle.pin_store.specs.Calls.{seen_by, sheet_of, IsUnnamed}
use Rattle.filter_state.specs.declared.edit.Edit.{Edit}
use Rattle.hook_store_law.specs.Kept.{KeepsHook}
use Rattle.hook_store_law.specs.OfEdits.Premises.{now, next, IsAccepted}
use Rattle.desk_pools.specs.OfNumbers.Numbers.{PoolNumbers}
use Rattle.desk_pools.specs.declared.pools.Pools.{Pools}
use Rattle.desk_actions.specs.Places.{Placed, put_at}
use Rattle.desk_actions.proofs.Stepping.{same_base}
use Rattle.desk_parts.proofs.OfLineActions.Living.{made_rises}
use Rattle.desk_parts.proofs.OfLineActions.Finished.{PutLoop, all_put, all_here}
use Rattle.desk_parts.proofs.OfLineActions.Looping.{loop_start, live_next, room_for, storable_next, commit, lawful_next, loop_next, put_count, earlier_there, all_apart}
use Rattle.desk_parts.proofs.line_actions.putting.put_new_actions.Goals as goal

pub loop-earlier-init : goal.loop-earlier-init
loop-earlier-init g c = let old = c.args.writer.now in let h = seen_by old.place in let b = base_of (sheet_of old.place) in let y = g.E.EditName.edit in let lists = c.args.lists.now in
    let a : IsAccepted h b y (next h y) c.requires.accepted.0 = record { keeps = c.requires.kept.keeps.law; low = c.requires.kept.low; line = c.requires.edit.0; steps = c.requires.accepted.1 } in
    let rises = made_rises (now h) (next h y) y c.requires.accepted.0 c.requires.edit.1 c.requires.accepted.1 in let given = c.requires.spells.actions_made in let before = c.requires.made in
    (c.requires.store, loop_start h b c.args.point c.args.made y c.requires.accepted.0 c.requires.kept a c.requires.edit.1 c.requires.made lists c.requires.spells c.args.store.now.shape (sheet_of old.place) c.args.pools.now c.args.places.now c.requires.rest c.requires.pools c.requires.places, omega (arith, rises, given, before))

pub record_of-action-requires : goal.record_of-action-requires
record_of-action-requires g c = let old = c.args.writer.now in let h = seen_by old.place in let b = base_of (sheet_of old.place) in let y = g.E.EditName.edit in let lists = c.args.lists.now in
    let a : IsAccepted h b y (next h y) c.requires.accepted.0 = record { keeps = c.requires.kept.keeps.law; low = c.requires.kept.low; line = c.requires.edit.0; steps = c.requires.accepted.1 } in
    let k = seen_by c.loop-earlier.writer.place in let sheet = sheet_of c.loop-earlier.writer.place in let lp = c.loop-earlier.invariant.1 in let upto = c.loop-earlier.earlier in
    let end = c.made-earlier-end.ensures in let same = ap (λ r. r.made) c.actions.ensures.actions in let test = c.loop-earlier-test.true in let more : upto < lists.actions.made = omega (arith, end, same, test) in
    live_next h b c.args.point c.args.made y c.requires.accepted.0 c.requires.kept a c.requires.edit.1 c.requires.made lists c.requires.spells c.args.store.now.shape (sheet_of old.place) c.args.pools.now k sheet c.loop-earlier.pools c.loop-earlier.places upto lp more

pub take_action-slot-requires : goal.take_action-slot-requires
take_action-slot-requires g c = let old = c.args.writer.now in let h = seen_by old.place in let b = base_of (sheet_of old.place) in let y = g.E.EditName.edit in let lists = c.args.lists.now in
    let a : IsAccepted h b y (next h y) c.requires.accepted.0 = record { keeps = c.requires.kept.keeps.law; low = c.requires.kept.low; line = c.requires.edit.0; steps = c.requires.accepted.1 } in
    let k = seen_by c.loop-earlier.writer.place in let sheet = sheet_of c.loop-earlier.writer.place in let lp = c.loop-earlier.invariant.1 in let upto = c.loop-earlier.earlier in
    let end = c.made-earlier-end.ensures in let same = ap (λ r. r.made) c.actions.ensures.actions in let test = c.loop-earlier-test.true in let more : upto < lists.actions.made = omega (arith, end, same, test) in
    room_for h b c.args.point c.args.made y c.requires.accepted.0 c.requires.kept a c.requires.edit.1 c.requires.made lists c.requires.spells c.args.store.now.shape (sheet_of old.place) c.args.pools.now k sheet c.loop-earlier.pools c.loop-earlier.places upto lp more c.loop-earlier.pools.actions c.args.pools.now.actions lp.actions c.requires.enough.1

pub take_block-at-requires : goal.take_block-at-requires
take_block-at-requires g c = let old = c.args.writer.now in let h = seen_by old.place in let b = base_of (sheet_of old.place) in let y = g.E.EditName.edit in let lists = c.args.lists.now in
    let a : IsAccepted h b y (next h y) c.requires.accepted.0 = record { keeps = c.requires.kept.keeps.law; low = c.requires.kept.low; line = c.requires.edit.0; steps = c.requires.accepted.1 } in
    let k = seen_by c.loop-earlier.writer.place in let sheet = sheet_of c.loop-earlier.writer.place in let lp = c.loop-earlier.invariant.1 in let upto = c.loop-earlier.earlier in
    let end = c.made-earlier-end.ensures in let same = ap (λ r. r.made) c.actions.ensures.actions in let test = c.loop-earlier-test.true in let more : upto < lists.actions.made = omega (arith, end, same, test) in
    subst (λ (p : PoolNumbers). 0 < length p.free) (sym (ap (λ (q : Pools). q.blocks) c.take_action-slot.ensures.others))
    (room_for h b c.args.point c.args.made y c.requires.accepted.0 c.requires.kept a c.requires.edit.1 c.requires.made lists c.requires.spells c.args.store.now.shape (sheet_of old.place) c.args.pools.now k sheet c.loop-earlier.pools c.loop-earlier.places upto lp more c.loop-earlier.pools.blocks c.args.pools.now.blocks lp.blocks c.requires.enough.0)

pub put_action-requires-clause-slot : goal.put_action-requires-clause-slot
put_action-requires-clause-slot g c = let old = c.args.writer.now in let h = seen_by old.place in let b = base_of (sheet_of old.place) in let y = g.E.EditName.edit in let lists = c.args.lists.now in
    let a : IsAccepted h b y (next h y) c.requires.accepted.0 = record { keeps = c.requires.kept.keeps.law; low = c.requires.kept.low; line = c.requires.edit.0; steps = c.requires.accepted.1 } in
    let k = seen_by c.loop-earlier.writer.place in let sheet = sheet_of c.loop-earlier.writer.place in let lp = c.loop-earlier.invariant.1 in let upto = c.loop-earlier.earlier in
    let mid = c.take_action-slot.new.self in let pools = c.take_block-at.new.self in let slot = c.take_action-slot.ensures.taken k b lp.up.pools_are in let first = c.take_action-slot.ensures.pools k b lp.up.pools_are in
    let block = c.take_block-at.ensures.taken k b first in
    slot.small

pub put_action-requires-clause-within : goal.put_action-requires-clause-within
put_action-requires-clause-within g c = let old = c.args.writer.now in let h = seen_by old.place in let b = base_of (sheet_of old.place) in let y = g.E.EditName.edit in let lists = c.args.lists.now in
    let a : IsAccepted h b y (next h y) c.requires.accepted.0 = record { keeps = c.requires.kept.keeps.law; low = c.requires.kept.low; line = c.requires.edit.0; steps = c.requires.accepted.1 } in
    let k = seen_by c.loop-earlier.writer.place in let sheet = sheet_of c.loop-earlier.writer.place in let lp = c.loop-earlier.invariant.1 in let upto = c.loop-earlier.earlier in
    let mid = c.take_action-slot.new.self in let pools = c.take_block-at.new.self in let slot = c.take_action-slot.ensures.taken k b lp.up.pools_are in let first = c.take_action-slot.ensures.pools k b lp.up.pools_are in
    let block = c.take_block-at.ensures.taken k b first in
    let low = block.small in let shape = c.requires.shape.1 in omega (arith, low, shape)

pub put_action-requires-clause-storable : goal.put_action-requires-clause-storable
put_action-requires-clause-storable g c = let old = c.args.writer.now in let h = seen_by old.place in let b = base_of (sheet_of old.place) in let y = g.E.EditName.edit in let lists = c.args.lists.now in
    let a : IsAccepted h b y (next h y) c.requires.accepted.0 = record { keeps = c.requires.kept.keeps.law; low = c.requires.kept.low; line = c.requires.edit.0; steps = c.requires.accepted.1 } in
    let k = seen_by c.loop-earlier.writer.place in let sheet = sheet_of c.loop-earlier.writer.place in let lp = c.loop-earlier.invariant.1 in let upto = c.loop-earlier.earlier in
    let end = c.made-earlier-end.ensures in let same = ap (λ r. r.made) c.actions.ensures.actions in let test = c.loop-earlier-test.true in let more : upto < lists.actions.made = omega (arith, end, same, test) in
    storable_next h b c.args.point c.args.made y c.requires.accepted.0 c.requires.kept a c.requires.edit.1 c.requires.made lists c.requires.spells c.args.store.now.shape (sheet_of old.place) c.args.pools.now k sheet c.loop-earlier.pools c.loop-earlier.places upto lp more c.record_of-action.result c.record_of-action.ensures.serial c.record_of-action.ensures.terms

pub put_action-requires-clause-free : goal.put_action-requires-clause-free
put_action-requires-clause-free g c = let old = c.args.writer.now in let h = seen_by old.place in let b = base_of (sheet_of old.place) in let y = g.E.EditName.edit in let lists = c.args.lists.now in
    let a : IsAccepted h b y (next h y) c.requires.accepted.0 = record { keeps = c.requires.kept.keeps.law; low = c.requires.kept.low; line = c.requires.edit.0; steps = c.requires.accepted.1 } in
    let k = seen_by c.loop-earlier.writer.place in let sheet = sheet_of c.loop-earlier.writer.place in let lp = c.loop-earlier.invariant.1 in let upto = c.loop-earlier.earlier in
    let mid = c.take_action-slot.new.self in let pools = c.take_block-at.new.self in let slot = c.take_action-slot.ensures.taken k b lp.up.pools_are in let first = c.take_action-slot.ensures.pools k b lp.up.pools_are in
    let block = c.take_block-at.ensures.taken k b first in
    subst (λ (n : ℕ). IsUnnamed n k c.take_block-at.result) (sym (same_base (sheet_of old.place) sheet lp.same)) block.free

pub put_action-requires-clause-lawful : goal.put_action-requires-clause-lawful
put_action-requires-clause-lawful g c = let old = c.args.writer.now in let h = seen_by old.place in let b = base_of (sheet_of old.place) in let y = g.E.EditName.edit in let lists = c.args.lists.now in
    let a : IsAccepted h b y (next h y) c.requires.accepted.0 = record { keeps = c.requires.kept.keeps.law; low = c.requires.kept.low; line = c.requires.edit.0; steps = c.requires.accepted.1 } in
    let k = seen_by c.loop-earlier.writer.place in let sheet = sheet_of c.loop-earlier.writer.place in let lp = c.loop-earlier.invariant.1 in let upto = c.loop-earlier.earlier in
    let end = c.made-earlier-end.ensures in let same = ap (λ r. r.made) c.actions.ensures.actions in let test = c.loop-earlier-test.true in let more : upto < lists.actions.made = omega (arith, end, same, test) in
    let mid = c.take_action-slot.new.self in let pools = c.take_block-at.new.self in let slot = c.take_action-slot.ensures.taken k b lp.up.pools_are in let first = c.take_action-slot.ensures.pools k b lp.up.pools_are in
    let block = c.take_block-at.ensures.taken k b first in
    subst (λ (n : ℕ). KeepsHook (k ++ commit h b c.args.point c.args.made y c.requires.accepted.0 c.requires.kept a c.requires.edit.1 c.requires.made lists c.requires.spells c.args.store.now.shape (sheet_of old.place) c.args.pools.now k sheet c.loop-earlier.pools c.loop-earlier.places upto lp more c.record_of-action.result c.record_of-action.ensures.serial c.record_of-action.ensures.terms mid pools c.take_action-slot.result c.take_block-at.result c.take_action-slot.ensures.free c.take_action-slot.ensures.left c.take_action-slot.ensures.size c.take_action-slot.ensures.others c.take_block-at.ensures.free c.take_block-at.ensures.left c.take_block-at.ensures.size c.take_block-at.ensures.others (c.take_block-at.ensures.pools k b first) slot block c.record_of-action.result ∷ []) n) (sym (same_base (sheet_of old.place) sheet lp.same))
    (lawful_next h b c.args.point c.args.made y c.requires.accepted.0 c.requires.kept a c.requires.edit.1 c.requires.made lists c.requires.spells c.args.store.now.shape (sheet_of old.place) c.args.pools.now k sheet c.loop-earlier.pools c.loop-earlier.places upto lp more c.record_of-action.result c.record_of-action.ensures.serial c.record_of-action.ensures.terms mid pools c.take_action-slot.result c.take_block-at.result c.take_action-slot.ensures.free c.take_action-slot.ensures.left c.take_action-slot.ensures.size c.take_action-slot.ensures.others c.take_block-at.ensures.free c.take_block-at.ensures.left c.take_block-at.ensures.size c.take_block-at.ensures.others (c.take_block-at.ensures.pools k b first) slot block)

pub put-requires-clause-slot : goal.put-requires-clause-slot
put-requires-clause-slot g c = let old = c.args.writer.now in let h = seen_by old.place in let b = base_of (sheet_of old.place) in let y = g.E.EditName.edit in let lists = c.args.lists.now in
    let a : IsAccepted h b y (next h y) c.requires.accepted.0 = record { keeps = c.requires.kept.keeps.law; low = c.requires.kept.low; line = c.requires.edit.0; steps = c.requires.accepted.1 } in
    let k = seen_by c.loop-earlier.writer.place in let sheet = sheet_of c.loop-earlier.writer.place in let lp = c.loop-earlier.invariant.1 in let upto = c.loop-earlier.earlier in
    let mid = c.take_action-slot.new.self in let pools = c.take_block-at.new.self in let slot = c.take_action-slot.ensures.taken k b lp.up.pools_are in let first = c.take_action-slot.ensures.pools k b lp.up.pools_are in
    let block = c.take_block-at.ensures.taken k b first in
    slot.small

pub loop-earlier-preserved : goal.loop-earlier-preserved
loop-earlier-preserved g c = let old = c.args.writer.now in let h = seen_by old.place in let b = base_of (sheet_of old.place) in let y = g.E.EditName.edit in let lists = c.args.lists.now in
    let a : IsAccepted h b y (next h y) c.requires.accepted.0 = record { keeps = c.requires.kept.keeps.law; low = c.requires.kept.low; line = c.requires.edit.0; steps = c.requires.accepted.1 } in
    let k = seen_by c.loop-earlier.writer.place in let sheet = sheet_of c.loop-earlier.writer.place in let lp = c.loop-earlier.invariant.1 in let upto = c.loop-earlier.earlier in
    let end = c.made-earlier-end.ensures in let same = ap (λ r. r.made) c.actions.ensures.actions in let test = c.loop-earlier-test.true in let more : upto < lists.actions.made = omega (arith, end, same, test) in
    let mid = c.take_action-slot.new.self in let pools = c.take_block-at.new.self in let slot = c.take_action-slot.ensures.taken k b lp.up.pools_are in let first = c.take_action-slot.ensures.pools k b lp.up.pools_are in
    let block = c.take_block-at.ensures.taken k b first in
    let wrote = sheet_of c.put_action.new.writer.place in
    let next_loop = loop_next h b c.args.point c.args.made y c.requires.accepted.0 c.requires.kept a c.requires.edit.1 c.requires.made lists c.requires.spells c.args.store.now.shape (sheet_of old.place) c.args.pools.now k sheet c.loop-earlier.pools c.loop-earlier.places upto lp more c.record_of-action.result c.record_of-action.ensures.serial c.record_of-action.ensures.terms mid pools c.take_action-slot.result c.take_block-at.result c.take_action-slot.ensures.free c.take_action-slot.ensures.left c.take_action-slot.ensures.size c.take_action-slot.ensures.others c.take_block-at.ensures.free c.take_block-at.ensures.left c.take_block-at.ensures.size c.take_block-at.ensures.others (c.take_block-at.ensures.pools k b first) slot block wrote c.put_action.ensures.sheet c.put_action.ensures.others in (
      c.put_action.ensures.store,
      subst (λ (p : Placed). PutLoop h b c.args.point c.args.made y c.args.store.now.shape (sheet_of old.place) c.args.pools.now (seen_by c.put_action.new.writer.place) wrote pools p (upto + 1)) (sym c.put.ensures)
          (subst (λ (z : List (Commit Edit)). PutLoop h b c.args.point c.args.made y c.args.store.now.shape (sheet_of old.place) c.args.pools.now z wrote pools (put_at c.loop-earlier.places c.record_of-action.result.serial c.take_action-slot.result c.take_block-at.result) (upto + 1))
          (sym c.put_action.ensures.seen) next_loop),
      omega (arith, more),
    )

pub returns-clause-put : goal.returns-clause-put
returns-clause-put g c = let old = c.args.writer.now in let h = seen_by old.place in let b = base_of (sheet_of old.place) in let y = g.E.EditName.edit in let lists = c.args.lists.now in
    let a : IsAccepted h b y (next h y) c.requires.accepted.0 = record { keeps = c.requires.kept.keeps.law; low = c.requires.kept.low; line = c.requires.edit.0; steps = c.requires.accepted.1 } in
    let k = seen_by c.loop-earlier.writer.place in let sheet = sheet_of c.loop-earlier.writer.place in let lp = c.loop-earlier.invariant.1 in let upto = c.loop-earlier.earlier in
    let end = c.made-earlier-end.ensures in let same = ap (λ r. r.made) c.actions.ensures.actions in let test = c.loop-earlier-test.false in let high = c.loop-earlier.invariant.2 in let given = c.requires.spells.actions_made in
    let all : upto ≡ lists.actions.made = omega (arith, end, same, test, high) in
    all_put h b c.args.point c.args.made y c.requires.accepted.0 c.requires.kept a c.requires.edit.1 c.requires.made k c.loop-earlier.pools c.loop-earlier.places upto lp.up (omega (arith, all, given))

pub returns-clause-count : goal.returns-clause-count
returns-clause-count g c = let old = c.args.writer.now in let h = seen_by old.place in let b = base_of (sheet_of old.place) in let y = g.E.EditName.edit in let lists = c.args.lists.now in
    let a : IsAccepted h b y (next h y) c.requires.accepted.0 = record { keeps = c.requires.kept.keeps.law; low = c.requires.kept.low; line = c.requires.edit.0; steps = c.requires.accepted.1 } in
    let k = seen_by c.loop-earlier.writer.place in let sheet = sheet_of c.loop-earlier.writer.place in let lp = c.loop-earlier.invariant.1 in let upto = c.loop-earlier.earlier in
    let end = c.made-earlier-end.ensures in let same = ap (λ r. r.made) c.actions.ensures.actions in let test = c.loop-earlier-test.false in let high = c.loop-earlier.invariant.2 in let given = c.requires.spells.actions_made in
    let all : upto ≡ lists.actions.made = omega (arith, end, same, test, high) in
    let count = put_count h b c.args.point c.args.made y c.requires.accepted.0 c.requires.kept a c.requires.edit.1 c.requires.made lists c.requires.spells c.args.store.now.shape (sheet_of old.place) c.args.pools.now k sheet c.loop-earlier.pools c.loop-earlier.places upto lp in omega (arith, count, all)

pub returns-clause-places : goal.returns-clause-places
returns-clause-places g c = let old = c.args.writer.now in let h = seen_by old.place in let b = base_of (sheet_of old.place) in let y = g.E.EditName.edit in let lists = c.args.lists.now in
    let a : IsAccepted h b y (next h y) c.requires.accepted.0 = record { keeps = c.requires.kept.keeps.law; low = c.requires.kept.low; line = c.requires.edit.0; steps = c.requires.accepted.1 } in
    let k = seen_by c.loop-earlier.writer.place in let sheet = sheet_of c.loop-earlier.writer.place in let lp = c.loop-earlier.invariant.1 in let upto = c.loop-earlier.earlier in
    let end = c.made-earlier-end.ensures in let same = ap (λ r. r.made) c.actions.ensures.actions in let test = c.loop-earlier-test.false in let high = c.loop-earlier.invariant.2 in let given = c.requires.spells.actions_made in
    let all : upto ≡ lists.actions.made = omega (arith, end, same, test, high) in
    all_here h b c.args.point c.args.made y c.requires.accepted.0 c.requires.kept a c.requires.edit.1 c.requires.made k c.loop-earlier.pools c.loop-earlier.places upto lp.up (omega (arith, all, given)) (omega (arith, all, given))

pub returns-clause-earlier : goal.returns-clause-earlier
returns-clause-earlier g c = let old = c.args.writer.now in let h = seen_by old.place in let b = base_of (sheet_of old.place) in let y = g.E.EditName.edit in let lists = c.args.lists.now in
    let a : IsAccepted h b y (next h y) c.requires.accepted.0 = record { keeps = c.requires.kept.keeps.law; low = c.requires.kept.low; line = c.requires.edit.0; steps = c.requires.accepted.1 } in
    let k = seen_by c.loop-earlier.writer.place in let sheet = sheet_of c.loop-earlier.writer.place in let lp = c.loop-earlier.invariant.1 in let upto = c.loop-earlier.earlier in
    earlier_there h b c.args.point c.args.made y c.requires.accepted.0 c.requires.kept a c.requires.edit.1 c.requires.made lists c.requires.spells c.args.store.now.shape (sheet_of old.place) c.args.pools.now k sheet c.loop-earlier.pools c.loop-earlier.places upto lp

pub returns-clause-apart : goal.returns-clause-apart
returns-clause-apart g c = let old = c.args.writer.now in let h = seen_by old.place in let b = base_of (sheet_of old.place) in let y = g.E.EditName.edit in let lists = c.args.lists.now in
    let a : IsAccepted h b y (next h y) c.requires.accepted.0 = record { keeps = c.requires.kept.keeps.law; low = c.requires.kept.low; line = c.requires.edit.0; steps = c.requires.accepted.1 } in
    let k = seen_by c.loop-earlier.writer.place in let sheet = sheet_of c.loop-earlier.writer.place in let lp = c.loop-earlier.invariant.1 in let upto = c.loop-earlier.earlier in
    let end = c.made-earlier-end.ensures in let same = ap (λ r. r.made) c.actions.ensures.actions in let test = c.loop-earlier-test.false in let high = c.loop-earlier.invariant.2 in let given = c.requires.spells.actions_made in
    let all : upto ≡ lists.actions.made = omega (arith, end, same, test, high) in
    all_apart h b c.args.point c.args.made y c.requires.accepted.0 c.requires.kept a c.requires.edit.1 c.requires.made lists c.requires.spells c.args.store.now.shape (sheet_of old.place) c.args.pools.now k sheet c.loop-earlier.pools c.loop-earlier.places upto lp (omega (arith, all, given))

pub returns-clause-blocks : goal.returns-clause-blocks
returns-clause-blocks g c = let old = c.args.writer.now in let h = seen_by old.place in let b = base_of (sheet_of old.place) in let y = g.E.EditName.edit in let lists = c.args.lists.now in
    let a : IsAccepted h b y (next h y) c.requires.accepted.0 = record { keeps = c.requires.kept.keeps.law; low = c.requires.kept.low; line = c.requires.edit.0; steps = c.requires.accepted.1 } in
    let k = seen_by c.loop-earlier.writer.place in let sheet = sheet_of c.loop-earlier.writer.place in let lp = c.loop-earlier.invariant.1 in let upto = c.loop-earlier.earlier in
    let end = c.made-earlier-end.ensures in let same = ap (λ r. r.made) c.actions.ensures.actions in let test = c.loop-earlier-test.false in let high = c.loop-earlier.invariant.2 in let given = c.requires.spells.actions_made in
    let all : upto ≡ lists.actions.made = omega (arith, end, same, test, high) in
    λ taken is. lp.blocks taken (is ∙ sym all)

pub returns-clause-actions : goal.returns-clause-actions
returns-clause-actions g c = let old = c.args.writer.now in let h = seen_by old.place in let b = base_of (sheet_of old.place) in let y = g.E.EditName.edit in let lists = c.args.lists.now in
    let a : IsAccepted h b y (next h y) c.requires.accepted.0 = record { keeps = c.requires.kept.keeps.law; low = c.requires.kept.low; line = c.requires.edit.0; steps = c.requires.accepted.1 } in
    let k = seen_by c.loop-earlier.writer.place in let sheet = sheet_of c.loop-earlier.writer.place in let lp = c.loop-earlier.invariant.1 in let upto = c.loop-earlier.earlier in
    let end = c.made-earlier-end.ensures in let same = ap (λ r. r.made) c.actions.ensures.actions in let test = c.loop-earlier-test.false in let high = c.loop-earlier.invariant.2 in let given = c.requires.spells.actions_made in
    let all : upto ≡ lists.actions.made = omega (arith, end, same, test, high) in
    λ taken is. lp.actions taken (is ∙ sym all)
