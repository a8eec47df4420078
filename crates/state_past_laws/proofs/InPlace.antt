-- A filter that gets other actions in its place.
use Rattle.std.proofs.Common.{◌≡◌, ◌∙◌, ℕ, Bool, true, false, cond, List, [], ◌∷◌, filter, Option, Some, refl, sym, ap, subst}
use Rattle.std.specs.Prelude.{if◌then◌else◌}
use Rattle.filter_state.specs.States.{Row}
use Rattle.filter_state.specs.Actions.{change_where}
use Rattle.filter_state.specs.Sound.{Each, EachPair, GoTogether}
use Rattle.filter_state.specs.Tables.{first_where}
use Rattle.filter_state.proofs.Pairs.{each_filter}
use Rattle.state_past_laws.specs.Slots.{is_slot, actions_or, slot_in, after_changes, Overrides, changed_there}
use Rattle.state_past_laws.proofs.Rows.{NotSlot, others_not}

abbrev pub acting : List ℕ → Row → Row
acting serials row = record row { actions = serials }

none_changed : (test : Row → Bool) (serials : List ℕ) (rows : List Row) → filter test rows ≡ [] → change_where test (acting serials) rows ≡ rows
none_changed test serials [] none = refl
none_changed test serials (x ∷ rows) none = by_test (test x) none (λ is. none_changed test serials rows is)
  where
    by_test : (b : Bool) → cond b (x ∷ filter test rows) (filter test rows) ≡ [] → (filter test rows ≡ [] → change_where test (acting serials) rows ≡ rows)
        → (if b then acting serials x else x) ∷ change_where test (acting serials) rows ≡ x ∷ rows
    by_test true is rest = absurd (cc is)
    by_test false is rest = ap (λ (rs : List Row). x ∷ rs) (rest is)

at_old : (s : Bool) (x : Row) (serials : List ℕ) (rest : Option Row) → actions_or (if s then Some (acting serials x) else rest) ≡ (if s then Some serials else actions_or (if s then Some x else rest))
at_old true x serials rest = refl
at_old false x serials rest = refl

before_old : (s c : Bool) (x : Row) (serials : List ℕ) (now was : Option Row) → (s ≡ true → c ≡ false) → actions_or now ≡ (if c then Some serials else actions_or was)
    → actions_or (if s then Some x else now) ≡ (if c then Some serials else actions_or (if s then Some x else was))
before_old true c x serials now was apart rest = ap (λ (b : Bool). if b then Some serials else Some x.actions) (sym (apart refl))
before_old false c x serials now was apart rest = rest

one_of : (P : Row → Type 0) (test : Row → Bool) (rows : List Row) (old : Row) → filter test rows ≡ old ∷ [] → Each P rows → P old
one_of P test rows old is each = (subst (Each P) is (each_filter P test rows each)).0

head_is : (x old : Row) (xs : List Row) → x ∷ xs ≡ old ∷ [] → x ≡ old
head_is x old xs is = cc is

tail_is : (x old : Row) (xs : List Row) → x ∷ xs ≡ old ∷ [] → xs ≡ []
tail_is x old xs is = cc is

pub in_place : (test : Row → Bool) (old : Row) (serials : List ℕ) (rows : List Row) → filter test rows ≡ old ∷ [] → EachPair GoTogether rows → Overrides rows (change_where test (acting serials) rows) (changed_there old serials ∷ [])
in_place test old serials [] only pairs mask key = absurd (cc only)
in_place test old serials (x ∷ rows) only pairs mask key = by_test (test x) only (λ is. in_place test old serials rows is pairs.1 mask key)
  where
    by_test : (b : Bool) → cond b (x ∷ filter test rows) (filter test rows) ≡ old ∷ []
        → (filter test rows ≡ old ∷ [] → slot_in (change_where test (acting serials) rows) mask key ≡ after_changes (changed_there old serials ∷ []) mask key (slot_in rows mask key))
        → slot_in ((if b then acting serials x else x) ∷ change_where test (acting serials) rows) mask key ≡ after_changes (changed_there old serials ∷ []) mask key (slot_in (x ∷ rows) mask key)
    by_test true is rest =
        ap (λ (rs : List Row). slot_in (acting serials x ∷ rs) mask key) (none_changed test serials rows (tail_is x old (filter test rows) is))
        ∙ at_old (is_slot mask key x) x serials (first_where (is_slot mask key) rows)
        ∙ ap (λ (r : Row). if is_slot mask key r then Some serials else slot_in (x ∷ rows) mask key) (head_is x old (filter test rows) is)
    by_test false is rest =
        before_old (is_slot mask key x) (is_slot mask key old) x serials (first_where (is_slot mask key) (change_where test (acting serials) rows)) (first_where (is_slot mask key) rows)
        (λ at. one_of (NotSlot mask key) test rows old is (others_not mask key x rows pairs.0 at)) (rest is)
