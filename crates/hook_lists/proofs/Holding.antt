-- What the actions that are kept hold: as many binds as there are places, and few references.
use Rattle.std.proofs.Common.{◌≡◌, ℕ, ◌+◌, ◌*◌, ◌<◌, ◌≤◌, ◌==◌, ◌⊎◌, inl, inr, Bool, true, List, [], ◌∷◌, length, ◌∙◌, ap, arith, eqb-true}
use Rattle.std.specs.Prelude.{filter}
use Rattle.std.specs.List.{list_any}
use Rattle.std.proofs.lemmas.List.{length-append}
use Rattle.std.proofs.lemmas.List.Sums.{count_by-le-length}
use Rattle.filter_state.specs.States.{Row, Action, State}
use Rattle.filter_state.specs.Actions.{has_serial}
use Rattle.filter_state.specs.Tables.{first_where}
use Rattle.filter_state.specs.Sound.{Each, IsRow, IsAction, Sound, places}
use Rattle.filter_state.proofs.Pairs.{each_weaker}
use Rattle.hook_lists.proofs.First.{one_weaker, first_passes, first_there}
use Rattle.filter_state.proofs.Times.{times}
use Rattle.hook_lists.proofs.Times.{each_place, part_places}
use Rattle.hook_lists.proofs.Covered.{HasFor, AreCovered}

pub at_least : (references binds : ℕ) → (references ≡ binds) ⊎ (references ≡ binds + 1) → binds ≤ references
at_least references binds (inl e) = omega (arith, e)
at_least references binds (inr e) = omega (arith, e)

at_most : (references binds : ℕ) → (references ≡ binds) ⊎ (references ≡ binds + 1) → references ≤ binds + 1
at_most references binds (inl e) = omega (arith, e)
at_most references binds (inr e) = omega (arith, e)

-- ---- places that go
has_for : (s : State) (gone : Row → Bool) (n : ℕ) (action : Action) → IsAction s action → has_serial n action ≡ true → HasFor (times n (places (filter gone s.rows))) action
has_for s gone n action is at =
    let bound : action.binds ≡ times n (places s.rows) = is.binds ∙ ap (λ k. times k (places s.rows)) (eqb-true action.serial n at) in
    let part = part_places n gone s.rows in
    (omega (arith, bound, part), omega (arith, bound, part, at_least action.references action.binds is.references))

pub covered_gone : (s : State) (gone : Row → Bool) → Sound s → AreCovered (places (filter gone s.rows)) s.actions
covered_gone s gone sound n some =
    let live : list_any (has_serial n) s.actions ≡ true =
    each_place (λ k. list_any (has_serial k) s.actions ≡ true) s.rows
    (each_weaker (IsRow s) (λ row. Each (λ k. list_any (has_serial k) s.actions ≡ true) row.actions) (λ row is. is.live) s.rows sound.rows) n
    (omega (arith, some, part_places n gone s.rows)) in
    one_weaker (λ action. IsAction s action × (has_serial n action ≡ true)) (HasFor (times n (places (filter gone s.rows))))
    (λ action is. has_for s gone n action is.0 is.1) (first_where (has_serial n) s.actions)
    (first_passes (has_serial n) (IsAction s) s.actions (first_there (has_serial n) (IsAction s) s.actions sound.actions live))

-- ---- few references
few_places : (s : State) (rows : List Row) → Each (IsRow s) rows → length (places rows) ≤ 16 * length rows
few_places s [] all = omega arith
few_places s (row ∷ rows) all = omega (arith, length-append row.actions (places rows), all.0.most, few_places s rows all.1)

pub few_references : (s : State) (more : ℕ) → Sound s → more ≤ 16 → Each (λ (action : Action). action.references + more < 4294967295) s.actions
few_references s more sound short =
    each_weaker (IsAction s) (λ (action : Action). action.references + more < 4294967295)
    (λ action is. omega (
      arith,
      short,
      at_most action.references action.binds is.references,
      is.binds,
      count_by-le-length (λ serial. serial == action.serial) (places s.rows),
      few_places s s.rows sound.rows,
      sound.filters,
    ))
    s.actions sound.actions
