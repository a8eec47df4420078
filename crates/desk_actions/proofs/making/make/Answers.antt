use Rattle.std.proofs.Common.{◌∙◌, ℕ, ◌+◌, List, Some, refl, sym, ap, subst, arith}
use Rattle.store_history.specs.declared.history.Commit.{Commit}
use Rattle.store_history.specs.History.{edits_of}
use Rattle.hook_law.proofs.Growing.{edits_more}
use Rattle.desk_pools.specs.OfNumbers.Numbers.{PoolNumbers}
use Rattle.desk_actions.specs.OfRoots.Records.{action_commit}
use Rattle.desk_actions.specs.Effects.{IsCounted}
use Rattle.desk_actions.proofs.Counted.{took, blocks_kept}
use Rattle.pin_store.specs.Calls.{seen_by, sheet_of}
use Rattle.filter_state.specs.declared.edit.Edit.{Edit}
use Rattle.filter_state.specs.Steps.{step}
use Rattle.filter_lists.specs.Edits.{IsFinished}
use Rattle.hook_store_law.specs.OfEdits.Premises.{now}
use Rattle.desk_pools.specs.declared.pools.Pools.{Pools}
use Rattle.desk_pools.specs.Pools.{ArePools}
use Rattle.desk_pools.specs.Steps.{IsInPool}
use Rattle.desk_actions.specs.OfLedgers.Ledger.{IsLedger}
use Rattle.desk_actions.specs.OfLedgers.Kept.{commits, base}
use Rattle.desk_actions.specs.Places.{AreHere, put_at}
use Rattle.desk_actions.proofs.Stepping.{made_one, can, same_base, slot_unused, next_lawful, next_ledger, next_here, next_pools}
use Rattle.desk_actions.proofs.Said.{said}
use Rattle.desk_actions.proofs.making.make.Goals as goal

pub made-action-requires : goal.made-action-requires
made-action-requires g c = let old = c.args.ledger.now in let h = commits old in let l = c.requires.whole in let y = g.E.EditName.edit in
    let f = subst (λ (e : Edit). IsFinished c.finish-done.new.self c.finish-done.result (step (now h) e)) c.requires.edit.0 (c.finish-done.ensures (now h) l.spells) in
    made_one h (base old) old.lists c.finish-done.new.self old.point y c.args.line.now l c.requires.edit.1 c.requires.making c.finish-done.result f

pub put_action-requires-clause-slot : goal.put_action-requires-clause-slot
put_action-requires-clause-slot g c = let old = c.args.ledger.now in (c.take_action-slot.ensures.taken (commits old) (base old) c.requires.pools).small

pub put_action-requires-clause-within : goal.put_action-requires-clause-within
put_action-requires-clause-within g c = let old = c.args.ledger.now in
    let low = (c.take_block-at.ensures.taken (commits old) (base old) (c.take_action-slot.ensures.pools (commits old) (base old) c.requires.pools)).small in let shape = c.requires.shape.1 in omega (arith, low, shape)

pub put_action-requires-clause-storable : goal.put_action-requires-clause-storable
put_action-requires-clause-storable g c = let old = c.args.ledger.now in let h = commits old in let l = c.requires.whole in let y = g.E.EditName.edit in let x = c.made-action.result in
    let f = subst (λ (e : Edit). IsFinished c.finish-done.new.self c.finish-done.result (step (now h) e)) c.requires.edit.0 (c.finish-done.ensures (now h) l.spells) in
    (can h (base old) old.lists c.finish-done.new.self old.point y c.args.line.now l c.requires.edit.1 c.requires.making c.finish-done.result f x.index x.serial x.params c.made-action.ensures.done c.made-action.ensures.params c.args.places.now c.requires.places).storable

pub put_action-requires-clause-free : goal.put_action-requires-clause-free
put_action-requires-clause-free g c = let old = c.args.ledger.now in (c.take_block-at.ensures.taken (commits old) (base old) (c.take_action-slot.ensures.pools (commits old) (base old) c.requires.pools)).free

pub put_action-requires-clause-lawful : goal.put_action-requires-clause-lawful
put_action-requires-clause-lawful g c = let old = c.args.ledger.now in let h = commits old in let l = c.requires.whole in let y = g.E.EditName.edit in let x = c.made-action.result in
    let f = subst (λ (e : Edit). IsFinished c.finish-done.new.self c.finish-done.result (step (now h) e)) c.requires.edit.0 (c.finish-done.ensures (now h) l.spells) in
    let slot = c.take_action-slot.ensures.taken h (base old) c.requires.pools in
    next_lawful h (base old) old.lists c.finish-done.new.self old.point y c.args.line.now l c.requires.edit.1 c.requires.making c.finish-done.result f x.index x.serial x.params c.made-action.ensures.done c.made-action.ensures.params c.args.places.now c.requires.places
    c.take_action-slot.result c.take_block-at.result slot.small (slot_unused h (base old) c.take_action-slot.result slot.free)

pub put-requires-clause-serial : goal.put-requires-clause-serial
put-requires-clause-serial g c = let old = c.args.ledger.now in let h = commits old in let l = c.requires.whole in let y = g.E.EditName.edit in let x = c.made-action.result in
    let f = subst (λ (e : Edit). IsFinished c.finish-done.new.self c.finish-done.result (step (now h) e)) c.requires.edit.0 (c.finish-done.ensures (now h) l.spells) in
    (can h (base old) old.lists c.finish-done.new.self old.point y c.args.line.now l c.requires.edit.1 c.requires.making c.finish-done.result f x.index x.serial x.params c.made-action.ensures.done c.made-action.ensures.params c.args.places.now c.requires.places).most

pub put-requires-clause-slot : goal.put-requires-clause-slot
put-requires-clause-slot g c = let old = c.args.ledger.now in (c.take_action-slot.ensures.taken (commits old) (base old) c.requires.pools).small

-- all commits and the base afterwards
pub returns-clause-whole : goal.returns-clause-whole
returns-clause-whole g c = let old = c.args.ledger.now in let h = commits old in let l = c.requires.whole in let y = g.E.EditName.edit in let x = c.made-action.result in
    let f = subst (λ (e : Edit). IsFinished c.finish-done.new.self c.finish-done.result (step (now h) e)) c.requires.edit.0 (c.finish-done.ensures (now h) l.spells) in
    let slot = c.take_action-slot.ensures.taken h (base old) c.requires.pools in
    let ledger = next_ledger h (base old) old.lists c.finish-done.new.self old.point y c.args.line.now l c.requires.edit.1 c.requires.making c.finish-done.result f x.index x.serial x.params c.made-action.ensures.done c.made-action.ensures.params c.args.places.now c.requires.places
    c.take_action-slot.result c.take_block-at.result slot.small (slot_unused h (base old) c.take_action-slot.result slot.free) in
    subst (λ (n : ℕ). IsLedger (seen_by c.put_action.new.writer.place) n c.finish-done.new.self (old.point + 1)) (sym (same_base (sheet_of old.writer.place) (sheet_of c.put_action.new.writer.place) c.put_action.ensures.sheet))
    (subst (λ (k : List (Commit Edit)). IsLedger k (base old) c.finish-done.new.self (old.point + 1)) (sym c.put_action.ensures.seen) ledger)

pub returns-clause-pools : goal.returns-clause-pools
returns-clause-pools g c = let old = c.args.ledger.now in let h = commits old in let l = c.requires.whole in let y = g.E.EditName.edit in let x = c.made-action.result in
    let f = subst (λ (e : Edit). IsFinished c.finish-done.new.self c.finish-done.result (step (now h) e)) c.requires.edit.0 (c.finish-done.ensures (now h) l.spells) in
    let slot = c.take_action-slot.ensures.taken h (base old) c.requires.pools in let first = c.take_action-slot.ensures.pools h (base old) c.requires.pools in
    let block = c.take_block-at.ensures.taken h (base old) first in let pools = c.take_block-at.new.self in
    let apart : IsInPool c.take_action-slot.result pools.actions → ⊥ = subst (λ (q : Pools). IsInPool c.take_action-slot.result q.actions → ⊥) (sym c.take_block-at.ensures.others) slot.apart in
    let all = next_pools h (base old) old.lists c.finish-done.new.self old.point y c.args.line.now l c.requires.edit.1 c.requires.making c.finish-done.result f x.index x.serial x.params c.made-action.ensures.done c.made-action.ensures.params c.args.places.now c.requires.places
    c.take_action-slot.result c.take_block-at.result slot.small (slot_unused h (base old) c.take_action-slot.result slot.free) pools (c.take_block-at.ensures.pools h (base old) first) block apart in
    subst (ArePools pools (seen_by c.put_action.new.writer.place)) (sym (same_base (sheet_of old.writer.place) (sheet_of c.put_action.new.writer.place) c.put_action.ensures.sheet))
    (subst (λ (k : List (Commit Edit)). ArePools pools k (base old)) (sym c.put_action.ensures.seen) all)

pub returns-clause-places : goal.returns-clause-places
returns-clause-places g c = let old = c.args.ledger.now in let h = commits old in let l = c.requires.whole in let y = g.E.EditName.edit in let x = c.made-action.result in
    let f = subst (λ (e : Edit). IsFinished c.finish-done.new.self c.finish-done.result (step (now h) e)) c.requires.edit.0 (c.finish-done.ensures (now h) l.spells) in
    let slot = c.take_action-slot.ensures.taken h (base old) c.requires.pools in
    let here = next_here h (base old) old.lists c.finish-done.new.self old.point y c.args.line.now l c.requires.edit.1 c.requires.making c.finish-done.result f x.index x.serial x.params c.made-action.ensures.done c.made-action.ensures.params c.args.places.now c.requires.places
    c.take_action-slot.result c.take_block-at.result slot.small (slot_unused h (base old) c.take_action-slot.result slot.free)
    (c.take_block-at.ensures.taken h (base old) (c.take_action-slot.ensures.pools h (base old) c.requires.pools)).small in
    subst (λ p. AreHere p (seen_by c.put_action.new.writer.place)) (sym c.put.ensures)
    (subst (AreHere (put_at c.args.places.now x.serial c.take_action-slot.result c.take_block-at.result)) (sym c.put_action.ensures.seen) here)

pub returns-clause-seen : goal.returns-clause-seen
returns-clause-seen g c = let old = c.args.ledger.now in record {
  commit = action_commit c.take_action-slot.result c.take_block-at.result c.made-action.result (old.point + 1) (Some (old.point + 1)) g.E.EditName.edit;
  slot = c.take_action-slot.result;
  seen = c.put_action.ensures.seen;
  root = refl;
  small = (c.take_action-slot.ensures.taken (commits old) (base old) c.requires.pools).small;
  carries = refl;
}

pub returns-clause-journal : goal.returns-clause-journal
returns-clause-journal g c = let old = c.args.ledger.now in let y = g.E.EditName.edit in
    ap edits_of c.put_action.ensures.seen ∙ edits_more (commits old) (action_commit c.take_action-slot.result c.take_block-at.result c.made-action.result (old.point + 1) (Some (old.point + 1)) y) (old.point + 1) y refl

pub returns-clause-others : goal.returns-clause-others
returns-clause-others g c = let old = c.args.ledger.now in
    blocks_kept c.args.store.now.shape (commits old) (base old) c.take_block-at.result (sheet_of old.writer.place) (sheet_of c.put_action.new.writer.place) c.requires.whole.kept.low
    (c.take_block-at.ensures.taken (commits old) (base old) (c.take_action-slot.ensures.pools (commits old) (base old) c.requires.pools)).free c.put_action.ensures.others

pub returns-clause-blocks : goal.returns-clause-blocks
returns-clause-blocks g c = let pools = c.args.pools.now in let mid = c.take_action-slot.new.self in let new = c.take_block-at.new.self in
    subst (λ (q : PoolNumbers). IsCounted q new.blocks 1 0) (ap (λ (q : Pools). q.blocks) c.take_action-slot.ensures.others)
    (took mid.blocks new.blocks c.take_block-at.result c.take_block-at.ensures.free c.take_block-at.ensures.left c.take_block-at.ensures.size)

pub returns-clause-actions : goal.returns-clause-actions
returns-clause-actions g c = let pools = c.args.pools.now in let mid = c.take_action-slot.new.self in let new = c.take_block-at.new.self in
    subst (λ (q : PoolNumbers). IsCounted pools.actions q 1 0) (sym (ap (λ (q : Pools). q.actions) c.take_block-at.ensures.others))
    (took pools.actions mid.actions c.take_action-slot.result c.take_action-slot.ensures.free c.take_action-slot.ensures.left c.take_action-slot.ensures.size)

pub returns-clause-rest : goal.returns-clause-rest
returns-clause-rest g c = let new = c.take_block-at.new.self in
    c.take_block-at.ensures.others ∙ ap (λ (q : Pools). record q { blocks = new.blocks }) c.take_action-slot.ensures.others
    ∙ ap (λ q. record c.args.pools.now { blocks = new.blocks; actions = q }) (sym (ap (λ (q : Pools). q.actions) c.take_block-at.ensures.others))

pub returns-clause-done : goal.returns-clause-done
returns-clause-done g c = let h = commits c.args.ledger.now in
    said (now h) c.finish-done.new.self c.finish-done.result (step (now h) g.E.EditName.edit)
    (subst (λ (e : Edit). IsFinished c.finish-done.new.self c.finish-done.result (step (now h) e)) c.requires.edit.0 (c.finish-done.ensures (now h) c.requires.whole.spells))
