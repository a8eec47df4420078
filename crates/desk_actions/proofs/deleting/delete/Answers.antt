use Rattle.std.proofs.Common.{◌≡◌, ◌∙◌, ℕ, ◌+◌, ◌<◌, List, [], ◌∷◌, ◌++◌, true, Some, refl, sym, ap, subst}
use Rattle.store_history.specs.declared.history.Commit.{Commit}
use Rattle.filter_state.specs.declared.edit.Edit.{Edit}
use Rattle.store_history.specs.History.{edits_of}
use Rattle.store_history.specs.declared.places.TheConstants.{ACTION_SLOTS, ACTION_ROOTS, POOL_BLOCKS}
use Rattle.hook_law.proofs.Growing.{edits_more}
use Rattle.desk_pools.specs.OfNumbers.Numbers.{PoolNumbers}
use Rattle.desk_actions.specs.Effects.{IsCounted}
use Rattle.desk_actions.proofs.Counted.{gave}
use Rattle.filter_state.specs.States.{Action}
use Rattle.filter_state.specs.Actions.{is_live, is_named}
use Rattle.filter_state.specs.Tables.{first_where}
use Rattle.pin_store.specs.declared.view.Sheet.{Sheet}
use Rattle.pin_store.specs.Sheets.{base_of}
use Rattle.hook_store_law.specs.OfEdits.Premises.{now, IsAccepted}
use Rattle.hook_law.specs.Standing.{IsIn}
use Rattle.root_pool_laws.specs.Blocks.{IsLeft}
use Rattle.root_pool_laws.proofs.Apart.{in_right}
use Rattle.desk_pools.specs.declared.pools.Pools.{Pools}
use Rattle.desk_pools.specs.Pools.{gone_roots, IsLeftAt, ArePools}
use Rattle.desk_pools.specs.Steps.{IsInPool}
use Rattle.desk_actions.specs.OfLedgers.Ledger.{mark_at}
use Rattle.desk_actions.specs.OfLedgers.Kept.{commits, base}
use Rattle.desk_actions.specs.Places.{slot_of, block_of, AreHere}
use Rattle.desk_actions.proofs.Gone.{named_live, serial_small, delete_here, slot_small, slot_left, alone, delete_pools, slot_apart, block_apart, block_left}
use Rattle.desk_actions.proofs.deleting.delete.Goals as goal

pub serial_of-serial-requires : goal.serial_of-serial-requires
serial_of-serial-requires g c = subst (λ (xs : List Action). is_live c.args.kind c.args.index xs ≡ true) (sym c.requires.whole.spells.actions) c.requires.live

pub slot-slot-requires : goal.slot-slot-requires
slot-slot-requires g c = let old = c.args.ledger.now in let h = commits old in let b = base old in let l = c.requires.whole in let y = g.E.EditName.edit in let serial = c.serial_of-serial.result in
    let named : (action : Action) × (first_where (is_named c.args.kind c.args.index) (now h).actions ≡ Some action) × (action.serial ≡ serial) =
    subst (λ (xs : List Action). (action : Action) × (first_where (is_named c.args.kind c.args.index) xs ≡ Some action) × (action.serial ≡ serial)) l.spells.actions c.serial_of-serial.ensures in
    let accepted : IsAccepted h b y _ c.mark-done.result = record { keeps = l.kept.keeps.law; low = l.kept.low; line = c.requires.edit.1; steps = c.mark-done.ensures.done } in
    let live = named_live (now h) c.args.kind c.args.index serial named in
    serial_small h b y _ c.mark-done.result c.args.kind c.args.index serial accepted c.requires.edit.2 named live l.rest c.args.places.now c.requires.places (old.point + 1) (ap (λ (n : ℕ). n + 1) l.kept.point_is)

pub returns-clause-places : goal.returns-clause-places
returns-clause-places g c = let old = c.args.ledger.now in let h = commits old in let b = base old in let l = c.requires.whole in let y = g.E.EditName.edit in let serial = c.serial_of-serial.result in
    let named : (action : Action) × (first_where (is_named c.args.kind c.args.index) (now h).actions ≡ Some action) × (action.serial ≡ serial) =
    subst (λ (xs : List Action). (action : Action) × (first_where (is_named c.args.kind c.args.index) xs ≡ Some action) × (action.serial ≡ serial)) l.spells.actions c.serial_of-serial.ensures in
    let accepted : IsAccepted h b y _ c.mark-done.result = record { keeps = l.kept.keeps.law; low = l.kept.low; line = c.requires.edit.1; steps = c.mark-done.ensures.done } in
    let live = named_live (now h) c.args.kind c.args.index serial named in
    subst (AreHere c.args.places.now) (sym c.mark-done.ensures.seen) (delete_here h b y _ c.mark-done.result c.args.kind c.args.index serial accepted c.requires.edit.2 named live l.rest c.args.places.now c.requires.places (old.point + 1) (ap (λ (n : ℕ). n + 1) l.kept.point_is))

pub returns-clause-pools : goal.returns-clause-pools
returns-clause-pools g c = let old = c.args.ledger.now in let h = commits old in let b = base old in let l = c.requires.whole in let y = g.E.EditName.edit in let serial = c.serial_of-serial.result in
    let named : (action : Action) × (first_where (is_named c.args.kind c.args.index) (now h).actions ≡ Some action) × (action.serial ≡ serial) =
    subst (λ (xs : List Action). (action : Action) × (first_where (is_named c.args.kind c.args.index) xs ≡ Some action) × (action.serial ≡ serial)) l.spells.actions c.serial_of-serial.ensures in
    let accepted : IsAccepted h b y _ c.mark-done.result = record { keeps = l.kept.keeps.law; low = l.kept.low; line = c.requires.edit.1; steps = c.mark-done.ensures.done } in
    let live = named_live (now h) c.args.kind c.args.index serial named in
    let pools = c.args.pools.now in let k = h ++ mark_at (old.point + 1) y ∷ [] in let slot_is = c.slot-slot.ensures.slot in let left_one = c.leave_action.new.self in
    let first = c.leave_action.ensures.pools k b (delete_pools h b y _ c.mark-done.result c.args.kind c.args.index serial accepted c.requires.edit.2 named live l.rest c.args.places.now c.requires.places (old.point + 1) (ap (λ (n : ℕ). n + 1) l.kept.point_is) pools c.requires.pools)
    (subst (λ (s : ℕ). s < ACTION_SLOTS) (sym slot_is) (slot_small h b y _ c.mark-done.result c.args.kind c.args.index serial accepted c.requires.edit.2 named live l.rest c.args.places.now c.requires.places (old.point + 1) (ap (λ (n : ℕ). n + 1) l.kept.point_is)))
    (subst (IsLeftAt k ACTION_ROOTS 1) (sym slot_is) (slot_left h b y _ c.mark-done.result c.args.kind c.args.index serial accepted c.requires.edit.2 named live l.rest c.args.places.now c.requires.places (old.point + 1) (ap (λ (n : ℕ). n + 1) l.kept.point_is)))
    (subst (λ (s : ℕ). IsInPool s pools.actions → ⊥) (sym slot_is) (slot_apart h b y _ c.mark-done.result c.args.kind c.args.index serial accepted c.requires.edit.2 named live l.rest c.args.places.now c.requires.places (old.point + 1) (ap (λ (n : ℕ). n + 1) l.kept.point_is) pools c.requires.pools)) in
    let block_is : c.block.result ≡ block_of c.args.places.now (slot_of c.args.places.now serial) = c.block.ensures ∙ ap (block_of c.args.places.now) slot_is in
    let in_left : IsIn (slot_of c.args.places.now serial) left_one.actions.left = subst (λ (s : ℕ). IsIn s left_one.actions.left) slot_is
    (subst (IsIn c.slot-slot.result) (sym c.leave_action.ensures.left) (in_right pools.actions.left (c.slot-slot.result ∷ []) c.slot-slot.result (0, refl))) in
    let same_blocks : pools.blocks ≡ left_one.blocks = ap (λ (q : Pools). q.blocks) (sym c.leave_action.ensures.others) in
    let all = c.leave_block.ensures.pools k b first
    (subst (λ (n : ℕ). n < POOL_BLOCKS) (sym block_is) (alone h b y _ c.mark-done.result c.args.kind c.args.index serial accepted c.requires.edit.2 named live l.rest c.args.places.now c.requires.places (old.point + 1) (ap (λ (n : ℕ). n + 1) l.kept.point_is)).0)
    (subst (IsLeft (gone_roots left_one) k) (sym block_is) (block_left h b y _ c.mark-done.result c.args.kind c.args.index serial accepted c.requires.edit.2 named live l.rest c.args.places.now c.requires.places (old.point + 1) (ap (λ (n : ℕ). n + 1) l.kept.point_is) pools c.requires.pools left_one in_left))
    (subst (λ (n : ℕ). IsInPool n left_one.blocks → ⊥) (sym block_is) (subst (λ q. IsInPool (block_of c.args.places.now (slot_of c.args.places.now serial)) q → ⊥) same_blocks (block_apart h b y _ c.mark-done.result c.args.kind c.args.index serial accepted c.requires.edit.2 named live l.rest c.args.places.now c.requires.places (old.point + 1) (ap (λ (n : ℕ). n + 1) l.kept.point_is) pools c.requires.pools))) in
    subst (λ (d : Sheet). ArePools c.leave_block.new.self (commits c.mark-done.new.self) (base_of d)) (sym c.mark-done.ensures.sheet)
    (subst (λ (j : List (Commit Edit)). ArePools c.leave_block.new.self j b) (sym c.mark-done.ensures.seen) all)

pub returns-clause-journal : goal.returns-clause-journal
returns-clause-journal g c = let old = c.args.ledger.now in let y = g.E.EditName.edit in
    ap edits_of c.mark-done.ensures.seen ∙ edits_more (commits old) (mark_at (old.point + 1) y) (old.point + 1) y refl

pub returns-clause-left_blocks : goal.returns-clause-left_blocks
returns-clause-left_blocks g c = let pools = c.args.pools.now in let mid = c.leave_action.new.self in let new = c.leave_block.new.self in
    subst (λ (q : PoolNumbers). IsCounted q new.blocks 0 1) (ap (λ (q : Pools). q.blocks) c.leave_action.ensures.others)
    (gave mid.blocks new.blocks c.block.result c.leave_block.ensures.free c.leave_block.ensures.left c.leave_block.ensures.size)

pub returns-clause-left_slots : goal.returns-clause-left_slots
returns-clause-left_slots g c = let pools = c.args.pools.now in let mid = c.leave_action.new.self in let new = c.leave_block.new.self in
    subst (λ (q : PoolNumbers). IsCounted pools.actions q 0 1) (sym (ap (λ (q : Pools). q.actions) c.leave_block.ensures.others))
    (gave pools.actions mid.actions c.slot-slot.result c.leave_action.ensures.free c.leave_action.ensures.left c.leave_action.ensures.size)

pub returns-clause-rest : goal.returns-clause-rest
returns-clause-rest g c = let new = c.leave_block.new.self in
    c.leave_block.ensures.others ∙ ap (λ (q : Pools). record q { blocks = new.blocks }) c.leave_action.ensures.others
    ∙ ap (λ q. record c.args.pools.now { blocks = new.blocks; actions = q }) (sym (ap (λ (q : Pools). q.actions) c.leave_block.ensures.others))
