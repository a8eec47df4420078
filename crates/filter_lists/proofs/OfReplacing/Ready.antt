-- A replacement that is ready leads where the step does.
use Rattle.std.proofs.Common.{◌≡◌, ℕ, ◌+◌, ◌<◌, Bool, List, Some, None, Ok, sym, ◌∙◌, ap, subst}
use Rattle.std.proofs.lemmas.Option.{same_Some}
use Rattle.act_kinds.specs.declared.params.Params.{Params}
use Rattle.act_registry.specs.declared.entry.Entry.{Entry}
use Rattle.filter_state.specs.declared.edit.FilterLine.{FilterLine}
use Rattle.filter_state.specs.declared.refusal.Done.TheVariants as dones
use Rattle.filter_state.specs.States.{Row, State}
use Rattle.filter_state.specs.Actions.{Made}
use Rattle.filter_state.specs.Refusals.{or_else, exists_but, actions_full, counters_full}
use Rattle.filter_state.specs.Steps.{with_actions, with_replaced, filter_replaced, replace_at}
use Rattle.filter_index.specs.declared.filter.Filter.{Filter}
use Rattle.filter_tables.specs.Plain.{PlainMask, PlainTable}
use Rattle.filter_tables.specs.Places.{item_at}
use Rattle.filter_tables.specs.Rows.{all_rows, row_of}
use Rattle.action_plan.specs.declared.planned.PlannedAction.{PlannedAction}
use Rattle.action_plan.specs.Entries.{actions_of}
use Rattle.action_plan.specs.Plans.{made_of, carried, serials_of, AreFit}
use Rattle.hook_lists.specs.declared.kept.Kept.{Kept}
use Rattle.hook_lists.specs.States.{state_of}
use Rattle.hook_lists.specs.Steps.{IsRoomier, PlanFits}
use Rattle.filter_lists.proofs.OfAdding.Later.{made_same}
use Rattle.filter_lists.specs.declared.replacing.replacement.Change.{Change}
use Rattle.filter_lists.specs.declared.replacing.replacement.Old.{Old}
use Rattle.filter_lists.specs.declared.replacing.replacement.Replacement.{Replacement}
use Rattle.filter_lists.specs.OfReplacing.Replacements.{old_row, changed, exchanged, state_after, replacement_of, IsOld, IsPlanned}
use Rattle.filter_lists.specs.OfReplacing.Planning.{resolved_to, IsChange, IsLooked, HasChange}
use Rattle.filter_lists.proofs.OfReplacing.Going.{same_tables}
use Rattle.filter_lists.proofs.OfReplacing.Looking.{its_handle}

-- ---- more room changes no state
abbrev state_with : Bool → List PlainTable → List PlainTable → List (Entry Params) → ℕ → ℕ → ℕ → State
state_with hooked ingress egress entries tables_made masks_made made = record {
  hooked = hooked;
  rows = all_rows (record { ingress = ingress; egress = egress });
  actions = actions_of entries;
  tables_made = tables_made;
  masks_made = masks_made;
  actions_made = made;
}

pub same_state : (old new : Kept) → IsRoomier old new → state_of new ≡ state_of old
same_state old new roomier =
    ap (λ x. state_with x new.ingress.tables new.egress.tables new.actions.entries new.tables_made new.masks_made new.actions.made) roomier.hooked
    ∙ ap (λ x. state_with old.hooked x new.egress.tables new.actions.entries new.tables_made new.masks_made new.actions.made) roomier.ingress
    ∙ ap (λ x. state_with old.hooked old.ingress.tables x new.actions.entries new.tables_made new.masks_made new.actions.made) roomier.egress
    ∙ ap (λ x. state_with old.hooked old.ingress.tables old.egress.tables x new.tables_made new.masks_made new.actions.made) roomier.entries
    ∙ ap (λ x. state_with old.hooked old.ingress.tables old.egress.tables old.actions.entries x new.masks_made new.actions.made) roomier.tables_made
    ∙ ap (λ x. state_with old.hooked old.ingress.tables old.egress.tables old.actions.entries old.tables_made x new.actions.made) roomier.masks_made
    ∙ ap (λ x. state_with old.hooked old.ingress.tables old.egress.tables old.actions.entries old.tables_made old.masks_made x) roomier.made

same_old : (kept now : Kept) (old : Old) (t : PlainTable) (m : PlainMask) (f : Filter) → IsRoomier kept now → IsOld kept old t m f → IsOld now old t m f
same_old kept now old t m f roomier is = record {
  table_stands = subst (λ tables. item_at tables old.table ≡ Some t) (sym (same_tables kept now old.hook roomier)) is.table_stands;
  chain = is.chain;
  pref = is.pref;
  mask_place = is.mask_place;
  mask_stands = is.mask_stands;
  filter_stands = is.filter_stands;
}

-- what was looked at stays so
pub looked_later : (kept now : Kept) (line : FilterLine) (old : Old) (plan : List PlannedAction) → IsRoomier kept now → IsLooked kept line old (Ok plan) → IsLooked now line old (Ok plan)
looked_later kept now line old plan roomier (t, m, f, allowed, within, step) =
    let same : state_of now ≡ state_of kept = same_state kept now roomier in
    let made : made_of now.actions ≡ made_of kept.actions = made_same kept now roomier in
    let row : Row = row_of old.hook t m f in (
      t,
      m,
      f,
      record {
        stands = same_old kept now old t m f roomier allowed.stands;
        row = subst (λ s. old_row s line ≡ Some row) (sym same) allowed.row;
        hook = allowed.hook;
        chain = allowed.chain;
        protocol = allowed.protocol;
        alone = subst (λ s. exists_but s old.hook old.chain old.pref (Some old.handle) line.mask.words line.key.words ≡ None) (sym same) allowed.alone;
      },
      record {
        fit = subst (λ (next : Made). AreFit next plan) (sym made) within.fit;
        full = subst (λ (next : Made). or_else (actions_full (carried next plan)) (counters_full (carried next plan)) ≡ None) (sym made) within.full;
      },
      subst (λ s. replace_at s line row ≡ filter_replaced s line row (resolved_to now plan)) (sym same)
          (subst (λ (next : Made). replace_at (state_of kept) line row ≡ filter_replaced (state_of kept) line row (record { so_far = carried next plan; serials = serials_of plan })) (sym made) step),
    )

-- ---- the plan
abbrev pub ready : Old → Change → List PlannedAction → Replacement
ready old change plan = replacement_of old change plan (serials_of plan)

module _ (kept now : Kept) (line : FilterLine) (old : Old) (plan : List PlannedAction) (roomier : IsRoomier kept now) where
  leads : (change : Change) (row : Row) → changed (state_of kept) row change ≡ with_replaced (state_of kept) line row (serials_of plan) →
      state_after (state_of now) row (ready old change plan)
      ≡ with_actions (with_replaced (state_of kept) line row (serials_of plan)) (exchanged (carried (made_of kept.actions) plan) row.actions)
  leads change row rows =
      ap (λ (s : State). state_after s row (ready old change plan)) (same_state kept now roomier)
      ∙ ap (λ (s : State). with_actions s (exchanged (carried (made_of kept.actions) plan) row.actions)) rows

  answers : (t : PlainTable) (m : PlainMask) (f : Filter) → IsOld kept old t m f → dones.Filter old.pref old.handle (serials_of plan) ≡ dones.Filter t.pref f.handle (serials_of plan)
  answers t m f is =
      ap (λ n. dones.Filter n old.handle (serials_of plan)) (sym is.pref) ∙ ap (λ n. dones.Filter t.pref n (serials_of plan)) (sym (its_handle kept old t m f is))

  ready_by : (change : Change) (t : PlainTable) (m : PlainMask) (f : Filter) → IsChange kept now line old (serials_of plan) t m f change → PlanFits now plan → kept.masks_made + 1 < 4294967296 →
      IsPlanned now (Ok (ready old change plan)) (filter_replaced (state_of kept) line (row_of old.hook t m f) (resolved_to kept plan))
  ready_by change t m f is fits masks = (
    t,
    m,
    f,
    record {
      old = same_old kept now old t m f roomier is.allowed.stands;
      place = is.place;
      actions = fits;
      masks = subst (λ n. n + 1 < 4294967296) (sym roomier.masks_made) masks;
    },
    leads change (row_of old.hook t m f) is.rows,
    answers t m f is.allowed.stands,
  )

  step_is : (row : Row) → IsLooked kept line old (Ok plan) → old_row (state_of kept) line ≡ Some row →
      replace_at (state_of kept) line row ≡ filter_replaced (state_of kept) line row (resolved_to kept plan)
  step_is row (t, m, f, allowed, within, step) at =
      subst (λ r. replace_at (state_of kept) line r ≡ filter_replaced (state_of kept) line r (resolved_to kept plan)) (same_Some (row_of old.hook t m f) row (sym allowed.row ∙ at)) step

  planned_by : (change : Change) (row : Row) → HasChange kept now line old (serials_of plan) change → PlanFits now plan → kept.masks_made + 1 < 4294967296 → old_row (state_of kept) line ≡ Some row →
      IsPlanned now (Ok (ready old change plan)) (filter_replaced (state_of kept) line row (resolved_to kept plan))
  planned_by change row (t, m, f, is) fits masks at =
      subst (λ r. IsPlanned now (Ok (ready old change plan)) (filter_replaced (state_of kept) line r (resolved_to kept plan)))
      (same_Some (row_of old.hook t m f) row (sym is.allowed.row ∙ at)) (ready_by change t m f is fits masks)

  same_parts : (r : Replacement) → (r.old ≡ old) × (r.actions ≡ plan) × (r.serials ≡ serials_of plan) → ready old r.change plan ≡ r
  same_parts r (its_old, its_actions, its_serials) =
      sym (ap (λ (o : Old). replacement_of o r.change r.actions r.serials) its_old
      ∙ ap (λ (ps : List PlannedAction). replacement_of old r.change ps r.serials) its_actions
      ∙ ap (λ (ns : List ℕ). replacement_of old r.change plan ns) its_serials)

  pub replacement_planned : (r : Replacement) (row : Row) → IsLooked kept line old (Ok plan) → (r.old ≡ old) × (r.actions ≡ plan) × (r.serials ≡ serials_of plan) → PlanFits now plan →
      HasChange kept now line old (serials_of plan) r.change → kept.masks_made + 1 < 4294967296 → old_row (state_of kept) line ≡ Some row →
      IsPlanned now (Ok r) (replace_at (state_of kept) line row)
  replacement_planned r row looks parts fits change masks at =
      subst (λ q. IsPlanned now (Ok q) (replace_at (state_of kept) line row)) (same_parts r parts)
      (subst (IsPlanned now (Ok (ready old r.change plan))) (sym (step_is row looks at))
      (planned_by r.change row change fits masks at))
