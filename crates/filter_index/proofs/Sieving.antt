-- A sieve: keys that it holds back, of which no filter of its mask has one, and a mark more.
use Rattle.std.proofs.Common.{◌≡◌, ℕ, zero, suc, ◌+◌, ◌*◌, ◌/◌, ◌%◌, ◌^◌, ◌<◌, ◌==◌, ◌||◌, Bool, true, false, List, [], ◌∷◌, get_or, bit_and, bit_or, w64, None, refl, sym, ap, ap₂, ◌∙◌, inl, inr, arith}
use Rattle.std.specs.Prelude.{find}
use Rattle.std.specs.Int.{bit_at}
use Rattle.std.specs.Int.Bits.{and_self}
use Rattle.std.proofs.lemmas.Nat.{and_assoc}
use Rattle.std.proofs.lemmas.Nat.Bits.{bit_at_set_same, bit_at_set_other}
use Rattle.std.proofs.lemmas.Bool.{cases_Bool, false≢true, eqb-true, eqb-false}
use Rattle.flow_mask.specs.Masks.{each_and}
use Rattle.flow_mask.proofs.Ands.{get_or-each_and}
use Rattle.filter_index.specs.declared.filter.Filter.{Filter}
use Rattle.filter_index.specs.declared.digests.TheConstants.{FACTORS}
use Rattle.filter_index.specs.Listed.{has_key}
use Rattle.filter_index.specs.Sieves.{MarkedPlaces, weighed_at, mark_of, lets_through, LooksAt, LetsAll}
use Rattle.filter_index.proofs.Apart.{same_key}

-- ---- keys that agree in the bits that are looked at have the same mark
weighed_same : (places words a b : List ℕ) (count : ℕ) →
    ((j : ℕ) → j < count → bit_and (get_or a (get_or places j 0) 0) (get_or words j 0) ≡ bit_and (get_or b (get_or places j 0) 0) (get_or words j 0)) →
    weighed_at places words a count ≡ weighed_at places words b count
weighed_same places words a b zero same = refl
weighed_same places words a b (suc n) same =
    ap₂ ◌+◌ (weighed_same places words a b n (λ j here. same j (omega arith)))
    (ap (λ word. word * get_or FACTORS (get_or places n 0) 0) (same n (omega arith)))

under_twice : (frame mask : List ℕ) (place word : ℕ) → word ≡ get_or mask place 0 → bit_and (get_or (each_and frame mask) place 0) word ≡ bit_and (get_or frame place 0) word
under_twice frame mask place word own =
    ap (λ w. bit_and w word) (get_or-each_and frame mask place)
    ∙ and_assoc word (get_or frame place 0) (get_or mask place 0)
    ∙ ap (bit_and (get_or frame place 0)) (ap (λ w. bit_and w word) (sym own) ∙ and_self word)

pub through_under : (s : MarkedPlaces) (frame mask : List ℕ) → LooksAt mask s → lets_through s (each_and frame mask) ≡ lets_through s frame
through_under s frame mask looks =
    ap (λ sum. bit_at s.marks (sum % 2 ^ 64 / 2 ^ 58) == 1)
    (weighed_same s.places s.words (each_and frame mask) frame s.count (λ j here. under_twice frame mask (get_or s.places j 0) (get_or s.words j 0) (looks.chosen j here).1))

-- ---- no filter has a key that is held back
key_differs : (s : MarkedPlaces) (key : List ℕ) (f : Filter) → lets_through s f.key.words ≡ true → lets_through s key ≡ false → has_key key f ≡ false
key_differs s key f own held = elim (cases_Bool (has_key key f)) [
  | inl same ↦ absurd (false≢true (sym held ∙ ap (lets_through s) (sym (same_key f.key.words key same)) ∙ own))
  | inr differs ↦ differs
]

none_has : (s : MarkedPlaces) (key : List ℕ) (filters : List Filter) → LetsAll s filters → lets_through s key ≡ false → find (has_key key) filters ≡ None
none_has s key [] all held = refl
none_has s key (f ∷ filters) all held =
    rw (key_differs s key f (all 0 f (omega arith)) held) (none_has s key filters (λ k d within. all (suc k) d (omega arith)) held)

pub none_met : (s : MarkedPlaces) (frame mask : List ℕ) (filters : List Filter) → LooksAt mask s → LetsAll s filters → lets_through s frame ≡ false →
    None ≡ find (has_key (each_and frame mask)) filters
none_met s frame mask filters looks all held = sym (none_has s (each_and frame mask) filters all (through_under s frame mask looks ∙ held))

-- ---- a mark more
or_true : (b : Bool) → (b || true) ≡ true
or_true true = refl
or_true false = refl

or_false : (b : Bool) → (b || false) ≡ b
or_false true = refl
or_false false = refl

marks_more : (marks at other : ℕ) → at < 64 → (bit_at (bit_or marks (1 * 2 ^ at % 2 ^ 64)) other == 1) ≡ (bit_at marks other == 1 || other == at)
marks_more marks at other within = elim (cases_Bool (other == at)) [
  | inl same ↦
      ap (λ o. bit_at (bit_or marks (1 * 2 ^ at % 2 ^ 64)) o == 1) (eqb-true other at same) ∙ ap (λ b. b == 1) (bit_at_set_same w64 marks at within)
      ∙ sym (ap (λ b. bit_at marks other == 1 || b) same ∙ or_true (bit_at marks other == 1))
  | inr differs ↦
      ap (λ b. b == 1) (bit_at_set_other w64 marks at within other (eqb-false other at differs))
      ∙ sym (ap (λ b. bit_at marks other == 1 || b) differs ∙ or_false (bit_at marks other == 1))
]

pub mark_added : (s t : MarkedPlaces) (key other : List ℕ) (mark : ℕ) → mark ≡ mark_of s key → mark < 64 →
    t ≡ record s { marks = bit_or s.marks (1 * 2 ^ mark % 2 ^ 64) } → lets_through t other ≡ (lets_through s other || mark_of s other == mark_of s key)
mark_added s t key other mark is below now =
    ap (λ v. lets_through v other) now ∙ marks_more s.marks mark (mark_of s other) below ∙ ap (λ m. lets_through s other || mark_of s other == m) is
