-- What is shown of a state reads no more of the order of its rows than the lists keep.
use Rattle.std.proofs.Common.{◌≡◌, ◌∙◌, ℕ, List, ◌++◌, append_assoc, sym, ap}
use Rattle.std.specs.List.{flat_map}
use Rattle.std.proofs.lemmas.Grind.{flat_map-append}
use Rattle.tc_base.specs.declared.hook.Hook.TheVariants as hooks
use Rattle.filter_state.specs.States.{State}
use Rattle.filter_state.specs.Order.{SameState}
use Rattle.filter_tables.specs.Rows.{rows_of}
use Rattle.state_laws.proofs.OfOrder.States.{is_with_rows}
use Rattle.hook_lists.specs.declared.kept.Kept.{Kept}
use Rattle.hook_lists.specs.States.{both_of, state_of, AreKept}
use Rattle.action_plan.specs.Entries.{actions_of}
use Rattle.std.specs.Prelude.{[], ◌∷◌, codes}
use Rattle.row_laws.specs.OfOrder.Sorted.{sorted}
use Rattle.tc_report.specs.Show.{text_line, hook_shown, action_before, action_shown, filter_shown, show_of}
use Rattle.tc_report.specs.Steps.{naming}
use Rattle.row_laws.proofs.OfOrder.OrderedRows.{sorted_same, rows_stay}

-- all but the filters
abbrev around : State → List ℕ → List ℕ
around s filters = hook_shown s ++ (flat_map action_shown (sorted action_before s.actions) ++ (filters ++ text_line (codes "end" ∷ [])))

shown_same : (s t : State) → SameState s t → show_of s ≡ show_of t
shown_same s t same =
    ap (λ rows. around s (flat_map (filter_shown s) rows)) (sorted_same same.rows) ∙ ap show_of (is_with_rows s t same)

-- the texts that were put one behind the other
pub shown_kept : (kept : Kept) (s : State) → AreKept kept → SameState (state_of kept) s → (start hooked actions ingress egress text : List ℕ) → start ≡ [] →
    hooked ≡ start ++ hook_shown (state_of kept) →
    actions ≡ hooked ++ flat_map action_shown (sorted action_before (actions_of kept.actions.entries)) →
    ingress ≡ actions ++ flat_map (filter_shown (naming kept.actions.entries)) (rows_of hooks.Ingress kept.ingress.tables) →
    egress ≡ ingress ++ flat_map (filter_shown (naming kept.actions.entries)) (rows_of hooks.Egress kept.egress.tables) →
    text ≡ egress ++ text_line (codes "end" ∷ []) → text ≡ show_of s
shown_kept kept s is same start hooked actions ingress egress text is_start is_hooked is_actions is_ingress is_egress is_text =
    let head : List ℕ = hook_shown (state_of kept) in
    let middle : List ℕ = flat_map action_shown (sorted action_before (actions_of kept.actions.entries)) in
    let first : List ℕ = flat_map (filter_shown (naming kept.actions.entries)) (rows_of hooks.Ingress kept.ingress.tables) in
    let second : List ℕ = flat_map (filter_shown (naming kept.actions.entries)) (rows_of hooks.Egress kept.egress.tables) in
    let last : List ℕ = text_line (codes "end" ∷ []) in
    is_text
    ∙ ap (λ (t : List ℕ). t ++ last) (is_egress ∙ ap (λ (t : List ℕ). t ++ second) (is_ingress ∙ ap (λ (t : List ℕ). t ++ first) (is_actions ∙ ap (λ (t : List ℕ). t ++ middle) (is_hooked ∙ ap (λ (t : List ℕ). t ++ head) is_start))))
    ∙ append_assoc ((head ++ middle) ++ first) second last
    ∙ append_assoc (head ++ middle) first (second ++ last)
    ∙ append_assoc head middle (first ++ (second ++ last))
    ∙ ap (λ (t : List ℕ). head ++ (middle ++ t)) (sym (append_assoc first second last))
    ∙ ap (around (state_of kept)) (sym (flat_map-append (filter_shown (state_of kept)) (rows_of hooks.Ingress kept.ingress.tables) (rows_of hooks.Egress kept.egress.tables)))
    ∙ ap (λ rows. around (state_of kept) (flat_map (filter_shown (state_of kept)) rows)) (sym (rows_stay (both_of kept) is.whole))
    ∙ shown_same (state_of kept) s same
