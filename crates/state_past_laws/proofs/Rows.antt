-- What rows that come and go change of the slots.
use Rattle.std.proofs.Common.{◌≡◌, ◌∙◌, ℕ, ◌==◌, ◌&&◌, Bool, true, false, not, cond, List, [], ◌∷◌, ◌++◌, map, filter, Option, Some, None, refl, sym, ap, arith}
use Rattle.std.specs.Prelude.{if◌then◌else◌}
use Rattle.std.specs.Str.{bytes_eq}
use Rattle.std.proofs.lemmas.Bool.Decides.{nat_tests}
use Rattle.std.proofs.lemmas.Slice.Eq.{bytes_eq-Decides}
use Rattle.filter_state.specs.States.{Row}
use Rattle.filter_state.specs.Sound.{Each, EachPair, GoTogether}
use Rattle.filter_state.specs.Tables.{first_where}
use Rattle.filter_state.proofs.Pairs.{each_weaker, each_back}
use Rattle.state_past_laws.specs.Slots.{is_slot, actions_or, slot_in, SlotChange, concerns, after_changes, Overrides, put_there, taken_there}

-- ---- slots of rows
both : (a b : Bool) → (a && b) ≡ true → (a ≡ true) × (b ≡ true)
both true b is = (refl, is)
both false b is = absurd (cc is)

same_number : (a b : ℕ) → (a == b) ≡ true → a ≡ b
same_number a b is = grind (arith, nat_tests, is)

slot_is : (mask : ℕ) (key : List ℕ) (row : Row) → is_slot mask key row ≡ true → (row.mask_serial ≡ mask) × (row.key ≡ key)
slot_is mask key row is =
    let parts = both (row.mask_serial == mask) (bytes_eq row.key key) is in
    (same_number row.mask_serial mask parts.0, (bytes_eq-Decides row.key key).0 parts.1)

-- two rows that go together are never in one slot
not_both : (mask : ℕ) (key : List ℕ) (x y : Row) → GoTogether x y → is_slot mask key x ≡ true → is_slot mask key y ≡ true → ⊥
not_both mask key x y together first second =
    let one = slot_is mask key x first in
    let other = slot_is mask key y second in
    let alike = together.same_mask (one.0 ∙ sym other.0) in
    together.matches alike.0 alike.1 (one.1 ∙ sym other.1)

by_slot : (b : Bool) → (b ≡ true → ⊥) → b ≡ false
by_slot true never = absurd (never refl)
by_slot false never = refl

abbrev pub NotSlot : ℕ → List ℕ → Row → Type 0
NotSlot mask key row = is_slot mask key row ≡ false

pub others_not : (mask : ℕ) (key : List ℕ) (x : Row) (rows : List Row) → Each (GoTogether x) rows → is_slot mask key x ≡ true → Each (NotSlot mask key) rows
others_not mask key x rows together is =
    each_weaker (GoTogether x) (NotSlot mask key) (λ y go. by_slot (is_slot mask key y) (λ other. not_both mask key x y go is other)) rows together

-- ---- a row more
first_push : (b c : Bool) (x row : Row) (rows : List Row) (mask : ℕ) (key : List ℕ) → (b ≡ true → c ≡ false)
    → actions_or (first_where (is_slot mask key) (rows ++ (row ∷ []))) ≡ (if c then Some row.actions else actions_or (first_where (is_slot mask key) rows))
    → actions_or (if b then Some x else first_where (is_slot mask key) (rows ++ (row ∷ []))) ≡ (if c then Some row.actions else actions_or (if b then Some x else first_where (is_slot mask key) rows))
first_push true c x row rows mask key apart rest = let none : c ≡ false = apart refl in ap (λ (b : Bool). if b then Some row.actions else Some x.actions) (sym none)
first_push false c x row rows mask key apart rest = rest

last_one : (b : Bool) (row : Row) → actions_or (if b then Some row else None) ≡ (if b then Some row.actions else None)
last_one true row = refl
last_one false row = refl

pub added : (rows : List Row) (row : Row) → EachPair GoTogether (rows ++ (row ∷ [])) → Overrides rows (rows ++ (row ∷ [])) (put_there row ∷ [])
added [] row pairs mask key = last_one (is_slot mask key row) row
added (x ∷ rows) row pairs mask key =
    first_push (is_slot mask key x) (is_slot mask key row) x row rows mask key
    (λ is. (each_back (NotSlot mask key) rows (row ∷ []) (others_not mask key x (rows ++ (row ∷ [])) pairs.0 is)).0)
    (added rows row pairs.1 mask key)

-- ---- rows that go
none_after : (mask : ℕ) (key : List ℕ) (keep : Row → Bool) (rows : List Row) → Each (NotSlot mask key) rows → slot_in (filter keep rows) mask key ≡ None
none_after mask key keep [] each = refl
none_after mask key keep (x ∷ rows) each = by_test (keep x) (none_after mask key keep rows each.1)
  where
    skip : (b : Bool) (rest : Option Row) → b ≡ false → actions_or rest ≡ None → actions_or (if b then Some x else rest) ≡ None
    skip true rest is none = absurd (cc is)
    skip false rest is none = none

    by_test : (b : Bool) → slot_in (filter keep rows) mask key ≡ None → slot_in (cond b (x ∷ filter keep rows) (filter keep rows)) mask key ≡ None
    by_test true rest = skip (is_slot mask key x) (first_where (is_slot mask key) (filter keep rows)) each.0 rest
    by_test false rest = rest

passed_over : (mask : ℕ) (key : List ℕ) (gone : Row → Bool) (rows : List Row) (o : Option (List ℕ)) → Each (NotSlot mask key) rows → after_changes (map taken_there (filter gone rows)) mask key o ≡ o
passed_over mask key gone [] o each = refl
passed_over mask key gone (x ∷ rows) o each = by_test (gone x) (passed_over mask key gone rows o each.1)
  where
    by_test : (b : Bool) → after_changes (map taken_there (filter gone rows)) mask key o ≡ o → after_changes (map taken_there (cond b (x ∷ filter gone rows) (filter gone rows))) mask key o ≡ o
    by_test true rest = ap (λ (b : Bool). after_changes (map taken_there (filter gone rows)) mask key (if b then None else o)) each.0 ∙ rest
    by_test false rest = rest

abbrev Gone : (Row → Bool) → List Row → ℕ → List ℕ → Option (List ℕ) → Option (List ℕ)
Gone gone rows mask key o = after_changes (map taken_there (filter gone rows)) mask key o

one_more : (gone : Row → Bool) (x : Row) (rows : List Row) (mask : ℕ) (key : List ℕ) (g s : Bool) → is_slot mask key x ≡ s → (s ≡ true → Each (NotSlot mask key) rows)
    → slot_in (filter (λ r. not (gone r)) rows) mask key ≡ Gone gone rows mask key (slot_in rows mask key)
    → slot_in (cond (not g) (x ∷ filter (λ r. not (gone r)) rows) (filter (λ r. not (gone r)) rows)) mask key
    ≡ after_changes (map taken_there (cond g (x ∷ filter gone rows) (filter gone rows))) mask key (actions_or (if s then Some x else first_where (is_slot mask key) rows))
one_more gone x rows mask key true true is others rest =
    none_after mask key (λ r. not (gone r)) rows (others refl)
    ∙ sym (passed_over mask key gone rows None (others refl))
    ∙ ap (λ (b : Bool). Gone gone rows mask key (if b then None else Some x.actions)) (sym is)
one_more gone x rows mask key true false is others rest =
    rest ∙ ap (λ (b : Bool). Gone gone rows mask key (if b then None else slot_in rows mask key)) (sym is)
one_more gone x rows mask key false true is others rest =
    ap (λ (b : Bool). actions_or (if b then Some x else first_where (is_slot mask key) (filter (λ r. not (gone r)) rows))) is
    ∙ sym (passed_over mask key gone rows (Some x.actions) (others refl))
one_more gone x rows mask key false false is others rest =
    ap (λ (b : Bool). actions_or (if b then Some x else first_where (is_slot mask key) (filter (λ r. not (gone r)) rows))) is ∙ rest

pub removed : (gone : Row → Bool) (rows : List Row) → EachPair GoTogether rows → Overrides rows (filter (λ r. not (gone r)) rows) (map taken_there (filter gone rows))
removed gone [] pairs mask key = refl
removed gone (x ∷ rows) pairs mask key =
    one_more gone x rows mask key (gone x) (is_slot mask key x) refl (λ is. others_not mask key x rows pairs.0 is) (removed gone rows pairs.1 mask key)

-- ---- one after the other
pub changes_append : (xs ys : List SlotChange) (mask : ℕ) (key : List ℕ) (o : Option (List ℕ)) → after_changes (xs ++ ys) mask key o ≡ after_changes ys mask key (after_changes xs mask key o)
changes_append [] ys mask key o = refl
changes_append (x ∷ xs) ys mask key o = changes_append xs ys mask key (if concerns mask key x then x.actions else o)

pub overrides_then : (a b c : List Row) (xs ys : List SlotChange) → Overrides a b xs → Overrides b c ys → Overrides a c (xs ++ ys)
overrides_then a b c xs ys first second mask key =
    second mask key ∙ ap (after_changes ys mask key) (first mask key) ∙ sym (changes_append xs ys mask key (slot_in a mask key))
