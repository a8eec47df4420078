-- What stands in a slot, found among the filters of its mask.
use Rattle.std.proofs.Common.{◌≡◌, ◌∙◌, ℕ, zero, suc, ◌==◌, ◌&&◌, Bool, true, false, List, [], ◌∷◌, map, filter, Option, Some, None, refl, sym, ap, subst}
use Rattle.std.specs.Prelude.{◌≢◌, if◌then◌else◌}
use Rattle.std.specs.List.{slice_get}
use Rattle.std.specs.Str.{bytes_eq}
use Rattle.std.proofs.lemmas.Slice.Eq.{bytes_eq-Decides}
use Rattle.filter_state.specs.States.{Row, State}
use Rattle.filter_state.specs.Tables.{first_where}
use Rattle.filter_state.specs.Order.{of_mask}
use Rattle.edit_effects.specs.OfEffects.Parts.{Filter, filter_of, filters_of}
use Rattle.edit_effects.specs.OfEffects.Effects.{KeepsFilters}
use Rattle.edit_effects.specs.OfMaskAnswers.Searched.{IsSearched}
use Rattle.state_past_laws.specs.Slots.{is_slot, actions_or, slot_in, slot_among, is_taken, actions_in}

-- row by row
among_rows : (rows : List Row) (mask : ℕ) (key : List ℕ) → slot_in rows mask key ≡ slot_among (map filter_of (filter (of_mask mask) rows)) key
among_rows [] mask key = refl
among_rows (x ∷ rows) mask key = by_mask (x.mask_serial == mask) (among_rows rows mask key)
  where
    by_key : (b : Bool) (rest : Option Row) (others : Option (List ℕ)) → actions_or rest ≡ others → actions_or (if b then Some x else rest) ≡ (if b then Some x.actions else others)
    by_key true rest others is = refl
    by_key false rest others is = is

    by_mask : (b : Bool) → slot_in rows mask key ≡ slot_among (map filter_of (filter (of_mask mask) rows)) key
        → actions_or (if b && bytes_eq x.key key then Some x else first_where (is_slot mask key) rows)
        ≡ slot_among (map filter_of (if b then x ∷ filter (of_mask mask) rows else filter (of_mask mask) rows)) key
    by_mask true rest = by_key (bytes_eq x.key key) (first_where (is_slot mask key) rows) (slot_among (map filter_of (filter (of_mask mask) rows)) key) rest
    by_mask false rest = rest

pub kept : (s t : State) → KeepsFilters s t → (mask : ℕ) (key : List ℕ) → slot_in t.rows mask key ≡ slot_in s.rows mask key
kept s t keeps mask key =
    among_rows t.rows mask key ∙ ap (λ (fs : List Filter). slot_among fs key) (keeps.filters mask) ∙ sym (among_rows s.rows mask key)

-- ---- a search of the filters
same_key : (a b : List ℕ) → bytes_eq a b ≡ true → a ≡ b
same_key a b is = (bytes_eq-Decides a b).0 is

other_key : (a b : List ℕ) → bytes_eq a b ≡ false → a ≢ b
other_key a b differs is = cc (sym differs ∙ (bytes_eq-Decides a b).1 is)

deeper : (f : Filter) (filters : List Filter) (key : List ℕ) (o : Option (List ℕ)) → bytes_eq f.key key ≡ false → IsSearched filters key (is_taken o) (actions_in o)
    → IsSearched (f ∷ filters) key (is_taken o) (actions_in o)
deeper f filters key (Some actions) differs (found, there, its, same) = (found, (suc there.0, there.1), its, same)
deeper f filters key None differs none = λ other place is. at place other is
  where
    at : (place : ℕ) (other : Filter) → slice_get (f ∷ filters) place ≡ Some other → other.key ≢ key
    at zero other is = let first : f ≡ other = cc is in subst (λ (g : Filter). g.key ≢ key) first (other_key f.key key differs)
    at (suc place) other is = none other place is

searched : (filters : List Filter) (key : List ℕ) → IsSearched filters key (is_taken (slot_among filters key)) (actions_in (slot_among filters key))
searched [] key = λ other place is. cc is
searched (f ∷ filters) key = by_test (bytes_eq f.key key) refl (searched filters key)
  where
    by_test : (b : Bool) → bytes_eq f.key key ≡ b → IsSearched filters key (is_taken (slot_among filters key)) (actions_in (slot_among filters key))
        → IsSearched (f ∷ filters) key (is_taken (if b then Some f.actions else slot_among filters key)) (actions_in (if b then Some f.actions else slot_among filters key))
    by_test true is rest = (f, (0, refl), same_key f.key key is, refl)
    by_test false is rest = deeper f filters key (slot_among filters key) is rest

pub slot_searched : (s : State) (mask : ℕ) (key : List ℕ) → IsSearched (filters_of s mask) key (is_taken (slot_in s.rows mask key)) (actions_in (slot_in s.rows mask key))
slot_searched s mask key =
    subst (λ (o : Option (List ℕ)). IsSearched (filters_of s mask) key (is_taken o) (actions_in o)) (sym (among_rows s.rows mask key)) (searched (filters_of s mask) key)
