-- The workers' lists.
use Rattle.std.proofs.Common.{◌≡◌, ◌∙◌, ℕ, zero, suc, ◌≤◌, List, [], ◌∷◌, ◌++◌, length, refl, sym, ap, subst, arith}
use Rattle.std.specs.Prelude.{slice_get, slice_set, Result, Ok, Err, Some, OnOk}
use Rattle.filter_state.specs.declared.edit.Edit.{Edit}
use Rattle.filter_state.specs.States.{no_state}
use Rattle.filter_state.specs.Journals.{state_at}
use Rattle.filter_state.specs.Sound.{Each}
use Rattle.filter_state.proofs.Pairs.{each_append}
use Rattle.filter_state.proofs.Places.{each_at}
use Rattle.filter_lists.specs.Spells.{Spells}
use Rattle.report_check.specs.declared.walker.Walker.{Walker}
use Rattle.report_check.specs.Walks.{StandsIn}

-- lists before the first edit
pub fresh_stands : (journal : List Edit) (walker : Walker) → Spells walker.lists no_state → walker.at ≡ 0 → StandsIn journal walker
fresh_stands journal walker spells at = record {
  within = omega (arith, at);
  spells = subst (λ (n : ℕ). Spells walker.lists (state_at n journal)) (sym at) spells;
}

pub one_more : (journal : List Edit) (walkers new : List Walker) (walker : Walker) → new ≡ walkers ++ (walker ∷ []) → Each (StandsIn journal) walkers → Spells walker.lists no_state → walker.at ≡ 0 → Each (StandsIn journal) new
one_more journal walkers new walker is each spells at =
    subst (Each (StandsIn journal)) (sym is) (each_append (StandsIn journal) walkers (walker ∷ []) each (fresh_stands journal walker spells at, tt))

-- one of them in place of another
pub each_set : {X : Type 0} (P : X → Type 0) (xs : List X) (place : ℕ) (x : X) → Each P xs → P x → Each P (slice_set xs place x)
each_set P [] place x each is = tt
each_set P (first ∷ xs) zero x each is = (is, each.1)
each_set P (first ∷ xs) (suc place) x each is = (each.0, each_set P xs place x each.1 is)

pub long_set : {X : Type 0} (xs : List X) (place : ℕ) (x : X) → length (slice_set xs place x) ≡ length xs
long_set [] place x = refl
long_set (first ∷ xs) zero x = refl
long_set (first ∷ xs) (suc place) x = ap suc (long_set xs place x)

set_there : {X : Type 0} (xs : List X) (place : ℕ) (x y : X) → slice_get (slice_set xs place x) place ≡ Some y → y ≡ x
set_there [] place x y is = absurd (cc is)
set_there (first ∷ xs) zero x y is = cc is
set_there (first ∷ xs) (suc place) x y is = set_there xs place x y is

pub stands_set : {T E : Type 0} (result : Result T E) (journal : List Edit) (walkers : List Walker) (place : ℕ) (walker : Walker) → Each (StandsIn journal) walkers → OnOk result (StandsIn journal walker)
    → OnOk result (Each (StandsIn journal) (slice_set walkers place walker))
stands_set (Ok done) journal walkers place walker each is = each_set (StandsIn journal) walkers place walker each is
stands_set (Err refused) journal walkers place walker each is = tt

pub at_set : {T E : Type 0} (result : Result T E) (walkers : List Walker) (place point : ℕ) (walker : Walker) → OnOk result (walker.at ≡ point)
    → OnOk result ((other : Walker) → slice_get (slice_set walkers place walker) place ≡ Some other → other.at ≡ point)
at_set (Ok done) walkers place point walker is = λ other there. ap (λ (w : Walker). w.at) (set_there walkers place walker other there) ∙ is
at_set (Err refused) walkers place point walker is = tt

-- the lists of the one at a place spell the state at its point
pub spells_there : (journal : List Edit) (walkers : List Walker) (place point : ℕ) (walker : Walker) → Each (StandsIn journal) walkers → slice_get walkers place ≡ Some walker
    → ((other : Walker) → slice_get walkers place ≡ Some other → other.at ≡ point) → Spells walker.lists (state_at point journal)
spells_there journal walkers place point walker each there at =
    subst (λ (n : ℕ). Spells walker.lists (state_at n journal)) (at walker there) (each_at (StandsIn journal) walkers place walker each there).spells

-- lists that were taken to a point
pub stands_at : {T E : Type 0} (result : Result T E) (journal edits : List Edit) (walker : Walker) (point : ℕ) → journal ≡ edits → point ≤ length edits → OnOk result (Spells walker.lists (state_at point journal)) → OnOk result (walker.at ≡ point)
    → OnOk result (StandsIn edits walker)
stands_at (Ok done) journal edits walker point same within spells at = record {
  within = omega (arith, within, at);
  spells = subst (λ (n : ℕ). Spells walker.lists (state_at n edits)) (sym at) (subst (λ (es : List Edit). Spells walker.lists (state_at point es)) same spells);
}
stands_at (Err refused) journal edits walker point same within spells at = tt
