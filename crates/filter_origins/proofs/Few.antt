-- A journal makes one table and one mask an edit at most, so that the next serials fit their numbers.
use Rattle.std.proofs.Common.{◌≡◌, ℕ, zero, suc, ◌+◌, ◌≤◌, ◌^◌, List, [], ◌∷◌, length, take, Ok, Err, subst, refl, arith}
use Rattle.filter_state.specs.declared.edit.Edit.{Edit}
use Rattle.filter_state.specs.States.{State, no_state}
use Rattle.filter_state.specs.Steps.{Stepped, step}
use Rattle.filter_state.specs.Journals.{state_after, state_from, state_at}
use Rattle.hook_lists.specs.declared.kept.Kept.{Kept}
use Rattle.filter_lists.specs.Spells.{Spells}
use Rattle.filter_lists.specs.Edits.{MayStep}
use Rattle.batch_run.proofs.Counts.{IsNear, StepsNear, step_near}

near_after : (s : State) (edit : Edit) (it : Stepped) → step s edit ≡ it → IsNear s (state_after s it)
near_after s edit (Ok (next, done)) is = subst (StepsNear s) is (step_near s edit)
near_after s edit (Err refusal) is = record { tables = omega arith; masks = omega arith }

record AreFew (s next : State) (edits : List Edit) : Type 0 where
  pub tables : next.tables_made ≤ s.tables_made + length edits
  pub masks : next.masks_made ≤ s.masks_made + length edits

few_from : (s : State) (edits : List Edit) → AreFew s (state_from s edits) edits
few_from s [] = record { tables = omega arith; masks = omega arith }
few_from s (edit ∷ edits) =
    let near = near_after s edit (step s edit) refl in
    let rest = few_from (state_after s (step s edit)) edits in
    let a = near.tables in
    let b = near.masks in
    let c = rest.tables in
    let d = rest.masks in
    record { tables = omega (arith, a, c); masks = omega (arith, b, d) }

take_short : (journal : List Edit) (count : ℕ) → length (take count journal) ≤ length journal
take_short [] zero = omega arith
take_short [] (suc count) = omega arith
take_short (edit ∷ journal) zero = omega arith
take_short (edit ∷ journal) (suc count) = let rest = take_short journal count in omega (arith, rest)

pub may_step : (journal : List Edit) (count : ℕ) (lists : Kept) → Spells lists (state_at count journal) → length journal ≤ 2 ^ 31 → MayStep lists
may_step journal count lists spells short =
    let few = few_from no_state (take count journal) in
    let least = take_short journal count in
    let tables = spells.tables_made in
    let masks = spells.masks_made in
    let a = few.tables in
    let b = few.masks in
    record { tables = omega (arith, a, tables, short, least); masks = omega (arith, b, masks, short, least) }
