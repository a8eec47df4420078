use Rattle.std.proofs.Common.{◌≡◌, ◌∙◌, ℕ, ◌+◌, ◌<◌, List, [], ◌∷◌, ◌++◌, true, Some, refl, sym, ap, subst, arith}
use Rattle.std.specs.Option.{unwrap_or}
use Rattle.store_history.specs.declared.history.Commit.{Commit}
use Rattle.pin_store.specs.Calls.{seen_by, sheet_of}
use Rattle.filter_state.specs.declared.edit.Edit.{Edit}
use Rattle.store_history.specs.History.{edits_of}
use Rattle.store_history.specs.declared.places.TheConstants.{POOL_BLOCKS}
use Rattle.hook_law.proofs.Growing.{edits_more}
use Rattle.desk_actions.proofs.Counted.{took, gave, counted_then, blocks_kept}
use Rattle.filter_state.specs.States.{Action}
use Rattle.filter_state.specs.Actions.{is_live, is_named}
use Rattle.filter_state.specs.Tables.{first_where}
use Rattle.filter_state.specs.Steps.{step}
use Rattle.filter_lists.specs.Edits.{IsFinished}
use Rattle.hook_store_law.specs.OfEdits.Premises.{now}
use Rattle.desk_pools.specs.declared.pools.Pools.{Pools}
use Rattle.desk_pools.specs.Pools.{gone_roots, ArePools}
use Rattle.desk_actions.specs.OfLedgers.Ledger.{IsLedger}
use Rattle.desk_actions.specs.OfLedgers.Kept.{commits, base}
use Rattle.action_plan.specs.Entries.{actions_of}
use Rattle.block_codec.specs.declared.action.StoredAction.{StoredAction}
use Rattle.block_codec.specs.Actions.{IsStorableAction}
use Rattle.desk_actions.specs.OfRoots.Records.{action_commit}
use Rattle.hook_store_law.specs.Kept.{KeepsHook}
use Rattle.root_pool_laws.specs.Blocks.{IsLeft}
use Rattle.desk_pools.specs.Steps.{IsInPool}
use Rattle.desk_actions.specs.Places.{slot_of, block_of, AreHere, put_at}
use Rattle.desk_actions.proofs.Made.{stored_as}
use Rattle.desk_actions.proofs.Stepping.{same_base}
use Rattle.desk_actions.proofs.Turning.{has_params, can, alone, change_lawful, change_ledger, change_places, change_pools, old_apart, old_left}
use Rattle.desk_actions.proofs.Said.{said}
use Rattle.desk_actions.proofs.changing.change.Goals as goal

pub serial_of-serial-requires : goal.serial_of-serial-requires
serial_of-serial-requires g c = let l = c.requires.whole in let line = c.args.line.now in
    subst (λ (n : ℕ). is_live line.kind n (actions_of c.args.ledger.now.lists.actions.entries) ≡ true) (sym c.unwrap_or-index.ensures)
    (subst (λ (xs : List Action). is_live line.kind (unwrap_or line.index 0) xs ≡ true) (sym l.spells.actions) c.requires.changing.1)

pub changed-action-requires : goal.changed-action-requires
changed-action-requires g c = let old = c.args.ledger.now in let h = commits old in let b = base old in let l = c.requires.whole in let y = g.E.EditName.edit in let line = c.args.line.now in
    let f = subst (λ (e : Edit). IsFinished c.finish-done.new.self c.finish-done.result (step (now h) e)) c.requires.edit.0 (c.finish-done.ensures (now h) l.spells) in
    has_params h b old.lists c.finish-done.new.self old.point y line l c.requires.edit.1 c.requires.changing c.finish-done.result f

pub slot-slot-requires : goal.slot-slot-requires
slot-slot-requires g c = let old = c.args.ledger.now in let h = commits old in let b = base old in let l = c.requires.whole in let y = g.E.EditName.edit in let line = c.args.line.now in
    let f = subst (λ (e : Edit). IsFinished c.finish-done.new.self c.finish-done.result (step (now h) e)) c.requires.edit.0 (c.finish-done.ensures (now h) l.spells) in
    let named : (action : Action) × (first_where (is_named line.kind (unwrap_or line.index 0)) (now h).actions ≡ Some action) × (action.serial ≡ c.serial_of-serial.result) =
    subst (λ (n : ℕ). (action : Action) × (first_where (is_named line.kind n) (now h).actions ≡ Some action) × (action.serial ≡ c.serial_of-serial.result)) c.unwrap_or-index.ensures
    (subst (λ (xs : List Action). (action : Action) × (first_where (is_named line.kind c.unwrap_or-index.result) xs ≡ Some action) × (action.serial ≡ c.serial_of-serial.result)) l.spells.actions c.serial_of-serial.ensures) in
    (can h b old.lists c.finish-done.new.self old.point y line l c.requires.edit.1 c.requires.changing c.finish-done.result f c.serial_of-serial.result c.changed-action.result.params c.changed-action.ensures.params named c.args.places.now c.requires.places).most

pub put_action-requires-clause-within : goal.put_action-requires-clause-within
put_action-requires-clause-within g c = let old = c.args.ledger.now in let low = (c.take_block-at.ensures.taken (commits old) (base old) c.requires.pools).small in let shape = c.requires.shape.1 in omega (arith, low, shape)

pub put_action-requires-clause-storable : goal.put_action-requires-clause-storable
put_action-requires-clause-storable g c = let old = c.args.ledger.now in let h = commits old in let b = base old in let l = c.requires.whole in let y = g.E.EditName.edit in let line = c.args.line.now in
    let f = subst (λ (e : Edit). IsFinished c.finish-done.new.self c.finish-done.result (step (now h) e)) c.requires.edit.0 (c.finish-done.ensures (now h) l.spells) in
    let named : (action : Action) × (first_where (is_named line.kind (unwrap_or line.index 0)) (now h).actions ≡ Some action) × (action.serial ≡ c.serial_of-serial.result) =
    subst (λ (n : ℕ). (action : Action) × (first_where (is_named line.kind n) (now h).actions ≡ Some action) × (action.serial ≡ c.serial_of-serial.result)) c.unwrap_or-index.ensures
    (subst (λ (xs : List Action). (action : Action) × (first_where (is_named line.kind c.unwrap_or-index.result) xs ≡ Some action) × (action.serial ≡ c.serial_of-serial.result)) l.spells.actions c.serial_of-serial.ensures) in
    let x = c.changed-action.result in let same : ◌≡◌ {A = StoredAction} (stored_as c.serial_of-serial.result (unwrap_or line.index 0) x.params) x =
    λ t. record { serial = sym c.changed-action.ensures.name.0 t; index = sym (c.changed-action.ensures.name.1 ∙ c.unwrap_or-index.ensures) t; params = x.params } in
    subst IsStorableAction same (can h b old.lists c.finish-done.new.self old.point y line l c.requires.edit.1 c.requires.changing c.finish-done.result f c.serial_of-serial.result c.changed-action.result.params c.changed-action.ensures.params named c.args.places.now c.requires.places).storable

pub put_action-requires-clause-free : goal.put_action-requires-clause-free
put_action-requires-clause-free g c = let old = c.args.ledger.now in (c.take_block-at.ensures.taken (commits old) (base old) c.requires.pools).free

pub put_action-requires-clause-lawful : goal.put_action-requires-clause-lawful
put_action-requires-clause-lawful g c = let old = c.args.ledger.now in let h = commits old in let b = base old in let l = c.requires.whole in let y = g.E.EditName.edit in let line = c.args.line.now in
    let f = subst (λ (e : Edit). IsFinished c.finish-done.new.self c.finish-done.result (step (now h) e)) c.requires.edit.0 (c.finish-done.ensures (now h) l.spells) in
    let named : (action : Action) × (first_where (is_named line.kind (unwrap_or line.index 0)) (now h).actions ≡ Some action) × (action.serial ≡ c.serial_of-serial.result) =
    subst (λ (n : ℕ). (action : Action) × (first_where (is_named line.kind n) (now h).actions ≡ Some action) × (action.serial ≡ c.serial_of-serial.result)) c.unwrap_or-index.ensures
    (subst (λ (xs : List Action). (action : Action) × (first_where (is_named line.kind c.unwrap_or-index.result) xs ≡ Some action) × (action.serial ≡ c.serial_of-serial.result)) l.spells.actions c.serial_of-serial.ensures) in
    let x = c.changed-action.result in let same : ◌≡◌ {A = StoredAction} (stored_as c.serial_of-serial.result (unwrap_or line.index 0) x.params) x =
    λ t. record { serial = sym c.changed-action.ensures.name.0 t; index = sym (c.changed-action.ensures.name.1 ∙ c.unwrap_or-index.ensures) t; params = x.params } in
    let slot_is = c.slot-slot.ensures.slot in
    subst (λ (z : StoredAction). KeepsHook (h ++ action_commit c.slot-slot.result c.take_block-at.result z (old.point + 1) (Some (old.point + 1)) y ∷ []) b) same
    (subst (λ (s : ℕ). KeepsHook (h ++ action_commit s c.take_block-at.result (stored_as c.serial_of-serial.result (unwrap_or line.index 0) x.params) (old.point + 1) (Some (old.point + 1)) y ∷ []) b) (sym slot_is)
    (change_lawful h b old.lists c.finish-done.new.self old.point y line l c.requires.edit.1 c.requires.changing c.finish-done.result f c.serial_of-serial.result c.changed-action.result.params c.changed-action.ensures.params named c.args.places.now c.requires.places c.take_block-at.result))

pub put-requires-clause-serial : goal.put-requires-clause-serial
put-requires-clause-serial g c = let old = c.args.ledger.now in let h = commits old in let b = base old in let l = c.requires.whole in let y = g.E.EditName.edit in let line = c.args.line.now in
    let f = subst (λ (e : Edit). IsFinished c.finish-done.new.self c.finish-done.result (step (now h) e)) c.requires.edit.0 (c.finish-done.ensures (now h) l.spells) in
    let named : (action : Action) × (first_where (is_named line.kind (unwrap_or line.index 0)) (now h).actions ≡ Some action) × (action.serial ≡ c.serial_of-serial.result) =
    subst (λ (n : ℕ). (action : Action) × (first_where (is_named line.kind n) (now h).actions ≡ Some action) × (action.serial ≡ c.serial_of-serial.result)) c.unwrap_or-index.ensures
    (subst (λ (xs : List Action). (action : Action) × (first_where (is_named line.kind c.unwrap_or-index.result) xs ≡ Some action) × (action.serial ≡ c.serial_of-serial.result)) l.spells.actions c.serial_of-serial.ensures) in
    (can h b old.lists c.finish-done.new.self old.point y line l c.requires.edit.1 c.requires.changing c.finish-done.result f c.serial_of-serial.result c.changed-action.result.params c.changed-action.ensures.params named c.args.places.now c.requires.places).most

pub returns-clause-whole : goal.returns-clause-whole
returns-clause-whole g c = let old = c.args.ledger.now in let h = commits old in let b = base old in let l = c.requires.whole in let y = g.E.EditName.edit in let line = c.args.line.now in
    let f = subst (λ (e : Edit). IsFinished c.finish-done.new.self c.finish-done.result (step (now h) e)) c.requires.edit.0 (c.finish-done.ensures (now h) l.spells) in
    let named : (action : Action) × (first_where (is_named line.kind (unwrap_or line.index 0)) (now h).actions ≡ Some action) × (action.serial ≡ c.serial_of-serial.result) =
    subst (λ (n : ℕ). (action : Action) × (first_where (is_named line.kind n) (now h).actions ≡ Some action) × (action.serial ≡ c.serial_of-serial.result)) c.unwrap_or-index.ensures
    (subst (λ (xs : List Action). (action : Action) × (first_where (is_named line.kind c.unwrap_or-index.result) xs ≡ Some action) × (action.serial ≡ c.serial_of-serial.result)) l.spells.actions c.serial_of-serial.ensures) in
    let x = c.changed-action.result in let same : ◌≡◌ {A = StoredAction} (stored_as c.serial_of-serial.result (unwrap_or line.index 0) x.params) x =
    λ t. record { serial = sym c.changed-action.ensures.name.0 t; index = sym (c.changed-action.ensures.name.1 ∙ c.unwrap_or-index.ensures) t; params = x.params } in
    let slot_is = c.slot-slot.ensures.slot in
    let seen : seen_by c.put_action.new.writer.place ≡ h ++ action_commit (slot_of c.args.places.now c.serial_of-serial.result) c.take_block-at.result (stored_as c.serial_of-serial.result (unwrap_or line.index 0) x.params) (old.point + 1) (Some (old.point + 1)) y ∷ [] =
    c.put_action.ensures.seen ∙ (λ t. h ++ action_commit (slot_is t) c.take_block-at.result (sym same t) (old.point + 1) (Some (old.point + 1)) y ∷ []) in
    let based = sym (same_base (sheet_of old.writer.place) (sheet_of c.put_action.new.writer.place) c.put_action.ensures.sheet) in
    subst (λ (n : ℕ). IsLedger (seen_by c.put_action.new.writer.place) n c.finish-done.new.self (old.point + 1)) based
    (subst (λ (k : List (Commit Edit)). IsLedger k b c.finish-done.new.self (old.point + 1)) (sym seen) (change_ledger h b old.lists c.finish-done.new.self old.point y line l c.requires.edit.1 c.requires.changing c.finish-done.result f c.serial_of-serial.result c.changed-action.result.params c.changed-action.ensures.params named c.args.places.now c.requires.places c.take_block-at.result))

pub returns-clause-places : goal.returns-clause-places
returns-clause-places g c = let old = c.args.ledger.now in let h = commits old in let b = base old in let l = c.requires.whole in let y = g.E.EditName.edit in let line = c.args.line.now in
    let f = subst (λ (e : Edit). IsFinished c.finish-done.new.self c.finish-done.result (step (now h) e)) c.requires.edit.0 (c.finish-done.ensures (now h) l.spells) in
    let named : (action : Action) × (first_where (is_named line.kind (unwrap_or line.index 0)) (now h).actions ≡ Some action) × (action.serial ≡ c.serial_of-serial.result) =
    subst (λ (n : ℕ). (action : Action) × (first_where (is_named line.kind n) (now h).actions ≡ Some action) × (action.serial ≡ c.serial_of-serial.result)) c.unwrap_or-index.ensures
    (subst (λ (xs : List Action). (action : Action) × (first_where (is_named line.kind c.unwrap_or-index.result) xs ≡ Some action) × (action.serial ≡ c.serial_of-serial.result)) l.spells.actions c.serial_of-serial.ensures) in
    let x = c.changed-action.result in let same : ◌≡◌ {A = StoredAction} (stored_as c.serial_of-serial.result (unwrap_or line.index 0) x.params) x =
    λ t. record { serial = sym c.changed-action.ensures.name.0 t; index = sym (c.changed-action.ensures.name.1 ∙ c.unwrap_or-index.ensures) t; params = x.params } in
    let slot_is = c.slot-slot.ensures.slot in
    let seen : seen_by c.put_action.new.writer.place ≡ h ++ action_commit (slot_of c.args.places.now c.serial_of-serial.result) c.take_block-at.result (stored_as c.serial_of-serial.result (unwrap_or line.index 0) x.params) (old.point + 1) (Some (old.point + 1)) y ∷ [] =
    c.put_action.ensures.seen ∙ (λ t. h ++ action_commit (slot_is t) c.take_block-at.result (sym same t) (old.point + 1) (Some (old.point + 1)) y ∷ []) in
    let based = sym (same_base (sheet_of old.writer.place) (sheet_of c.put_action.new.writer.place) c.put_action.ensures.sheet) in
    let here = change_places h b old.lists c.finish-done.new.self old.point y line l c.requires.edit.1 c.requires.changing c.finish-done.result f c.serial_of-serial.result c.changed-action.result.params c.changed-action.ensures.params named c.args.places.now c.requires.places c.take_block-at.result (c.take_block-at.ensures.taken h b c.requires.pools).small in
    subst (λ p. AreHere p (seen_by c.put_action.new.writer.place)) (sym c.put.ensures)
    (subst (λ (s : ℕ). AreHere (put_at c.args.places.now c.serial_of-serial.result s c.take_block-at.result) (seen_by c.put_action.new.writer.place)) (sym slot_is)
    (subst (AreHere (put_at c.args.places.now c.serial_of-serial.result (slot_of c.args.places.now c.serial_of-serial.result) c.take_block-at.result)) (sym seen) here))

pub returns-clause-pools : goal.returns-clause-pools
returns-clause-pools g c = let old = c.args.ledger.now in let h = commits old in let b = base old in let l = c.requires.whole in let y = g.E.EditName.edit in let line = c.args.line.now in
    let f = subst (λ (e : Edit). IsFinished c.finish-done.new.self c.finish-done.result (step (now h) e)) c.requires.edit.0 (c.finish-done.ensures (now h) l.spells) in
    let named : (action : Action) × (first_where (is_named line.kind (unwrap_or line.index 0)) (now h).actions ≡ Some action) × (action.serial ≡ c.serial_of-serial.result) =
    subst (λ (n : ℕ). (action : Action) × (first_where (is_named line.kind n) (now h).actions ≡ Some action) × (action.serial ≡ c.serial_of-serial.result)) c.unwrap_or-index.ensures
    (subst (λ (xs : List Action). (action : Action) × (first_where (is_named line.kind c.unwrap_or-index.result) xs ≡ Some action) × (action.serial ≡ c.serial_of-serial.result)) l.spells.actions c.serial_of-serial.ensures) in
    let x = c.changed-action.result in let same : ◌≡◌ {A = StoredAction} (stored_as c.serial_of-serial.result (unwrap_or line.index 0) x.params) x =
    λ t. record { serial = sym c.changed-action.ensures.name.0 t; index = sym (c.changed-action.ensures.name.1 ∙ c.unwrap_or-index.ensures) t; params = x.params } in
    let slot_is = c.slot-slot.ensures.slot in
    let seen : seen_by c.put_action.new.writer.place ≡ h ++ action_commit (slot_of c.args.places.now c.serial_of-serial.result) c.take_block-at.result (stored_as c.serial_of-serial.result (unwrap_or line.index 0) x.params) (old.point + 1) (Some (old.point + 1)) y ∷ [] =
    c.put_action.ensures.seen ∙ (λ t. h ++ action_commit (slot_is t) c.take_block-at.result (sym same t) (old.point + 1) (Some (old.point + 1)) y ∷ []) in
    let based = sym (same_base (sheet_of old.writer.place) (sheet_of c.put_action.new.writer.place) c.put_action.ensures.sheet) in
    let taken = c.take_block-at.ensures.taken h b c.requires.pools in let pools = c.take_block-at.new.self in let p = c.take_block-at.ensures.pools h b c.requires.pools in
    let blk = c.take_block-at.result in let k = h ++ action_commit (slot_of c.args.places.now c.serial_of-serial.result) blk (stored_as c.serial_of-serial.result (unwrap_or line.index 0) x.params) (old.point + 1) (Some (old.point + 1)) y ∷ [] in
    let before_is : c.block-before.result ≡ block_of c.args.places.now (slot_of c.args.places.now c.serial_of-serial.result) = c.block-before.ensures ∙ ap (block_of c.args.places.now) slot_is in
    let low = (alone h b old.lists c.finish-done.new.self old.point y line l c.requires.edit.1 c.requires.changing c.finish-done.result f c.serial_of-serial.result c.changed-action.result.params c.changed-action.ensures.params named c.args.places.now c.requires.places).0 in
    let all = c.leave_block.ensures.pools k b (change_pools h b old.lists c.finish-done.new.self old.point y line l c.requires.edit.1 c.requires.changing c.finish-done.result f c.serial_of-serial.result c.changed-action.result.params c.changed-action.ensures.params named c.args.places.now c.requires.places blk pools p taken)
    (subst (λ (n : ℕ). n < POOL_BLOCKS) (sym before_is) low)
    (subst (IsLeft (gone_roots pools) k) (sym before_is) (old_left h b old.lists c.finish-done.new.self old.point y line l c.requires.edit.1 c.requires.changing c.finish-done.result f c.serial_of-serial.result c.changed-action.result.params c.changed-action.ensures.params named c.args.places.now c.requires.places blk pools p taken))
    (subst (λ (n : ℕ). IsInPool n pools.blocks → ⊥) (sym before_is) (old_apart h b old.lists c.finish-done.new.self old.point y line l c.requires.edit.1 c.requires.changing c.finish-done.result f c.serial_of-serial.result c.changed-action.result.params c.changed-action.ensures.params named c.args.places.now c.requires.places blk pools p taken)) in
    subst (ArePools c.leave_block.new.self (seen_by c.put_action.new.writer.place)) based
    (subst (λ (j : List (Commit Edit)). ArePools c.leave_block.new.self j b) (sym seen) all)

pub returns-clause-seen : goal.returns-clause-seen
returns-clause-seen g c = let old = c.args.ledger.now in record {
  commit = action_commit c.slot-slot.result c.take_block-at.result c.changed-action.result (old.point + 1) (Some (old.point + 1)) g.E.EditName.edit;
  slot = c.slot-slot.result;
  seen = c.put_action.ensures.seen;
  root = refl;
  small = c.slot-slot.ensures.small;
  carries = refl;
}

pub returns-clause-journal : goal.returns-clause-journal
returns-clause-journal g c = let old = c.args.ledger.now in let y = g.E.EditName.edit in
    ap edits_of c.put_action.ensures.seen ∙ edits_more (commits old) (action_commit c.slot-slot.result c.take_block-at.result c.changed-action.result (old.point + 1) (Some (old.point + 1)) y) (old.point + 1) y refl

pub returns-clause-others : goal.returns-clause-others
returns-clause-others g c = let old = c.args.ledger.now in
    blocks_kept c.args.store.now.shape (commits old) (base old) c.take_block-at.result (sheet_of old.writer.place) (sheet_of c.put_action.new.writer.place) c.requires.whole.kept.low
    (c.take_block-at.ensures.taken (commits old) (base old) c.requires.pools).free c.put_action.ensures.others

pub returns-clause-blocks : goal.returns-clause-blocks
returns-clause-blocks g c = let pools = c.args.pools.now in let mid = c.take_block-at.new.self in let new = c.leave_block.new.self in
    counted_then pools.blocks mid.blocks new.blocks 1 0 0 1 (took pools.blocks mid.blocks c.take_block-at.result c.take_block-at.ensures.free c.take_block-at.ensures.left c.take_block-at.ensures.size)
    (gave mid.blocks new.blocks c.block-before.result c.leave_block.ensures.free c.leave_block.ensures.left c.leave_block.ensures.size)

pub returns-clause-rest : goal.returns-clause-rest
returns-clause-rest g c = let new = c.leave_block.new.self in
    c.leave_block.ensures.others ∙ ap (λ (q : Pools). record q { blocks = new.blocks }) c.take_block-at.ensures.others

pub returns-clause-done : goal.returns-clause-done
returns-clause-done g c = let h = commits c.args.ledger.now in
    said (now h) c.finish-done.new.self c.finish-done.result (step (now h) g.E.EditName.edit)
    (subst (λ (e : Edit). IsFinished c.finish-done.new.self c.finish-done.result (step (now h) e)) c.requires.edit.0 (c.finish-done.ensures (now h) c.requires.whole.spells))
