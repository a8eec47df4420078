-- The tables of a hook are known of a journal, and of one edit more.
use Rattle.std.proofs.Common.{◌≡◌, ◌∙◌, inl, inr, ℕ, ◌+◌, ◌<◌, ◌≤◌, Bool, true, false, List, [], ◌∷◌, ◌++◌, length}
use Rattle.std.proofs.Common.{Some, None, sym, ap, arith}
use Rattle.std.specs.Prelude.{nat_le, if◌then◌else◌}
use Rattle.std.proofs.lemmas.Bool.{cases_lt}
use Rattle.std.proofs.lemmas.Bool.Decides.{nat_tests}
use Rattle.std.proofs.lemmas.List.{length-append, take-append-le, take_all}
use Rattle.tc_base.specs.declared.hook.Hook.{Hook}
use Rattle.filter_state.specs.declared.edit.Edit.{Edit}
use Rattle.filter_state.specs.States.{State, no_state}
use Rattle.filter_state.specs.Journals.{state_from, state_at}
use Rattle.slot_pasts.specs.declared.past.Change.{Change}
use Rattle.slot_pasts.specs.Pasts.{value_at}
use Rattle.walk_rules.specs.Questions.{Head}
use Rattle.walk_rules.specs.Heads.{heads_on}
use Rattle.change_points.specs.Heads.{heads_since, KnowsHeads}

reached : (from point : ℕ) → from ≤ point → nat_le from point ≡ true
reached from point least = grind (arith, nat_tests, least)

unreached : (from point : ℕ) → point < from → nat_le from point ≡ false
unreached from point less = grind (arith, nat_tests, less)

module _ (hook : Hook) (before : ℕ) where
  pub known_from : (journal : List Edit) (at : ℕ) (s : State) → before ≤ at → state_at at journal ≡ s
      → heads_since hook before journal at ≡ Some (heads_on hook s)
  known_from journal at s least is =
      ap (λ (b : Bool). if b then Some (heads_on hook (state_at at journal)) else None) (reached before at least)
      ∙ ap (λ (t : State). Some (heads_on hook t)) is

  pub unknown_below : (journal : List Edit) (at : ℕ) → at < before → heads_since hook before journal at ≡ None
  unknown_below journal at less =
      ap (λ (b : Bool). if b then Some (heads_on hook (state_at at journal)) else None) (unreached before at less)

  -- ---- at the point before the change
  pub first_known : (past : List (Change (List Head))) (heads : List Head) (journal : List Edit)
      → length journal ≡ before → heads ≡ heads_on hook (state_from no_state journal)
      → ((at : ℕ) → at < before → value_at at past ≡ None)
      → ((at : ℕ) → before ≤ at → value_at at past ≡ Some heads)
      → KnowsHeads (record { hook = hook; before = before; point = before; past = past }) journal
  first_known past heads journal count are below from = record {
    point = sym count;
    told = λ at. elim (cases_lt at before) [
      | inl less ↦ below at less ∙ sym (unknown_below journal at less)
      | inr least ↦ from at least ∙ ap Some are ∙ sym (known_from journal at (state_from no_state journal) least
          (ap (state_from no_state) (take_all at journal (omega (arith, count, least)))))
    ];
  }

  -- ---- behind one edit more
  pub more_known : (point : ℕ) (past now : List (Change (List Head))) (journal : List Edit) (edit : Edit)
      → before ≤ point → KnowsHeads (record { hook = hook; before = before; point = point; past = past }) journal
      → ((at : ℕ) → at < point + 1 → value_at at now ≡ value_at at past)
      → ((at : ℕ) → point + 1 ≤ at
      → value_at at now ≡ Some (heads_on hook (state_from no_state (journal ++ (edit ∷ [])))))
      → KnowsHeads (record { hook = hook; before = before; point = point + 1; past = now })
      (journal ++ (edit ∷ []))
  more_known point past now journal edit since knows before_it from_it =
      let here = knows.point in
      let count : length (journal ++ (edit ∷ [])) ≡ length journal + 1 = length-append journal (edit ∷ []) in
      record {
        point = omega (arith, here, count);
        told = λ at. elim (cases_lt at (point + 1)) [
          | inl less ↦ before_it at less ∙ knows.told at
              ∙ ap (λ (js : List Edit).
              if nat_le before at then Some (heads_on hook (state_from no_state js)) else None)
              (sym (take-append-le at journal (edit ∷ []) (omega (arith, less, here))))
          | inr least ↦ from_it at least
              ∙ sym (known_from (journal ++ (edit ∷ [])) at (state_from no_state (journal ++ (edit ∷ [])))
              (omega (arith, since, least)) (ap (state_from no_state)
              (take_all at (journal ++ (edit ∷ [])) (omega (arith, count, least, here)))))
        ];
      }
