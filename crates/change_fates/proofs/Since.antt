-- The first point of a fate's walk isn't before the change.
use Rattle.std.proofs.Common.{◌≡◌, ◌∙◌, ℕ, zero, suc, ◌≤◌, List, [], ◌∷◌, ◌++◌, length, Option, Some, None, refl, sym, ap, subst, inl, inr}
use Rattle.std.specs.Prelude.{get_or, map}
use Rattle.std.specs.List.{slice_get}
use Rattle.tc_base.specs.declared.hook.Hook.{Hook}
use Rattle.filter_state.specs.States.{State}
use Rattle.walk_rules.specs.Steps.{Standing, begun, after}
use Rattle.walk_rules.specs.Walks.{Outcome, IsWalk}
use Rattle.walk_rules.specs.OfPoints.Points.{Visit, IsVisited, AreLawfulPoints}
use Rattle.walk_fate_laws.specs.Firsts.{IsAmong}
use Rattle.walk_fate_laws.specs.Told.{Told}
use Rattle.walk_fate_laws.proofs.Telling.{told_is_witness}
use Rattle.fate_search.specs.Found.{Found, found_of, all_found}
use Rattle.filter_state.specs.Journals.{state_at}
use Rattle.filter_origins.specs.Entries.{edits_of}
use Rattle.change_fates.specs.Told.{ChangeAt, told_in}

still_first : (before more : List Visit) (first : Visit) → slice_get before 0 ≡ Some first → slice_get (before ++ more) 0 ≡ Some first
still_first [] more first is = absurd (cc is)
still_first (visit ∷ before) more first is = is

keeps_first : (states : ℕ → State) (before : List Visit) (st : Standing) (points : List ℕ) (visits : List Visit) (outcome : Outcome) (first : Visit) → slice_get before 0 ≡ Some first
    → IsWalk (IsVisited states) before st points visits outcome → slice_get visits 0 ≡ Some first
keeps_first states before st [] visits outcome first is (same, ends) = ap (λ (vs : List Visit). slice_get vs 0) same ∙ is
keeps_first states before st (point ∷ points) visits outcome first is (question, answer, between, asks, (told, grown), more) =
    keeps_first states between (after st answer) points visits outcome first
    (ap (λ (vs : List Visit). slice_get vs 0) grown ∙ still_first before (record { question = question; point = point } ∷ []) first is) more

first_least : (states : ℕ → State) (floor ceiling : ℕ) (hook : Hook) (bytes points : List ℕ) (visits : List Visit) (outcome : Outcome) → IsWalk (IsVisited states) [] (begun hook bytes) points visits outcome
    → AreLawfulPoints floor ceiling visits → floor ≤ get_or points 0 0
first_least states floor ceiling hook bytes [] visits outcome (same, ends) lawful = absurd (cc ends)
first_least states floor ceiling hook bytes (point ∷ points) visits outcome (question, answer, between, asks, (told, grown), more) lawful =
    let first : Visit = record { question = question; point = point } in
    lawful.head first (keeps_first states between (after (begun hook bytes) answer) points visits outcome first (ap (λ (vs : List Visit). slice_get vs 0) grown) more)

abbrev IsSince : ChangeAt → List ℕ → Type 0
IsSince change points = change.before ≤ get_or points 0 0

told_since : (change : ChangeAt) (bytes : List ℕ) (told : Told) → IsAmong told (told_in change bytes) → IsSince change told.item.points
told_since change bytes told there =
    let states : ℕ → State = λ point. state_at point (edits_of change.entries) in
    let it = told_is_witness states change.before (length change.entries) change.hook bytes told there in
    first_least states change.before (length change.entries) change.hook bytes told.item.points it.1.met.visits it.0 it.1.met.walks it.1.met.lawful

found_at : (P : List ℕ → Type 0) (fates : List Told) → ((told : Told) → IsAmong told fates → P told.item.points) → (place : ℕ) (found : Found) → slice_get (all_found fates) place ≡ Some found → P found.points
found_at P [] each place found is = absurd (cc is)
found_at P (told ∷ fates) each zero found is = let same : found_of told ≡ found = cc is in subst (λ (f : Found). P f.points) same (each told (inl refl))
found_at P (told ∷ fates) each (suc place) found is = found_at P fates (λ other there. each other (inr there)) place found is

pub since : (change : ChangeAt) (bytes : List ℕ) (place : ℕ) (found : Found) → slice_get (all_found (told_in change bytes)) place ≡ Some found → change.before ≤ get_or found.points 0 0
since change bytes place found is = found_at (IsSince change) (told_in change bytes) (told_since change bytes) place found is
