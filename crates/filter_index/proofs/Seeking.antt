-- A filter that is sought by the digest of its key.
use Rattle.std.proofs.Common.{◌≡◌, ℕ, zero, suc, ◌<◌, ◌≤◌, ◌⊎◌, ◌==◌, Bool, true, false, List, [], ◌∷◌, ◌++◌, length, get_or, Option, Some, None, map, refl, sym, ap, ◌∙◌, subst, inl, inr, arith}
use Rattle.std.specs.Prelude.{find}
use Rattle.std.specs.List.{list_any}
use Rattle.std.proofs.lemmas.Bool.{cases_Bool, false≢true, eqb-true, eqb-false, eq-eqb, or_parts}
use Rattle.std.proofs.lemmas.List.{length-map}
use Rattle.filter_index.specs.declared.filter.Filter.{Filter}
use Rattle.filter_index.specs.Listed.{has_key, those_there, AreApart}
use Rattle.filter_index.specs.Places.{digest_in}
use Rattle.filter_index.specs.Digests.{digest_of}
use Rattle.filter_index.specs.Chains.{passes, last_of, is_digest}
use Rattle.filter_index.proofs.Apart.{same_key, key_before}
use Rattle.filter_index.proofs.LastOf.{none_from, at_last}
use Rattle.filter_index.proofs.Slots.{there_append}

-- ---- slots and their digests
digest_at : (slots : List (Option Filter)) (k : ℕ) → get_or (map digest_in slots) k None ≡ digest_in (get_or slots k None)
digest_at [] k = refl
digest_at (o ∷ slots) zero = refl
digest_at (o ∷ slots) (suc k) = digest_at slots k

some_within : (slots : List (Option Filter)) (k : ℕ) (f : Filter) → get_or slots k None ≡ Some f → k < length slots
some_within [] k f e = cc
some_within (o ∷ slots) zero f e = omega arith
some_within (o ∷ slots) (suc k) f e = let rest = some_within slots k f e in omega arith

before_or : (a b : ℕ) → (a ≡ b → ⊥) → (a < b) ⊎ (b < a)
before_or a b other = grind arith

-- ---- one of some filters
find_behind : (test : Filter → Bool) (front back : List Filter) (f : Filter) → list_any test front ≡ false → test f ≡ true → find test (front ++ f ∷ back) ≡ Some f
find_behind test [] back f none is = rw is refl
find_behind test (g ∷ front) back f none is =
    let parts = or_parts (test g) (list_any test front) none in
    rw parts.0 (find_behind test front back f parts.1 is)

pub record Around (slots : List (Option Filter)) (f : Filter) : Type 0 where
  pub front : List (Option Filter)
  pub back : List (Option Filter)
  pub is : slots ≡ front ++ Some f ∷ back

around : (slots : List (Option Filter)) (k : ℕ) (f : Filter) → get_or slots k None ≡ Some f → Around slots f
around [] k f e = cc
around (o ∷ slots) zero f e = record { front = []; back = slots; is = ap (λ p. p ∷ slots) e }
around (o ∷ slots) (suc k) f e =
    let rest = around slots k f e in
    record { front = o ∷ rest.front; back = rest.back; is = ap (λ os. o ∷ os) rest.is }

pub found_at : (slots : List (Option Filter)) (key : List ℕ) (k : ℕ) (f : Filter) → AreApart (those_there slots) → get_or slots k None ≡ Some f → has_key key f ≡ true →
    Some f ≡ find (has_key key) (those_there slots)
found_at slots key k f apart there is =
    let a = around slots k f there in
    let list : those_there slots ≡ those_there a.front ++ f ∷ those_there a.back = ap those_there a.is ∙ there_append a.front (Some f ∷ a.back) in
    let before = key_before (those_there a.front) f (those_there a.back) (subst AreApart list apart) in
    sym (ap (find (has_key key)) list
    ∙ find_behind (has_key key) (those_there a.front) (those_there a.back) f
    (subst (λ words. list_any (has_key words) (those_there a.front) ≡ false) (same_key f.key.words key is) before) is)

-- ---- no slot has the key
abbrev pub NoneFrom : List ℕ → List (Option Filter) → ℕ → Type 0
NoneFrom key slots at = (k : ℕ) (f : Filter) → at ≤ k → get_or slots k None ≡ Some f → has_key key f ≡ false

pub none_at_all : (key : List ℕ) (slots : List (Option Filter)) → NoneFrom key slots 0 → None ≡ find (has_key key) (those_there slots)
none_at_all key [] none = refl
none_at_all key (None ∷ slots) none = none_at_all key slots (λ k f from there. none (suc k) f (omega arith) there)
none_at_all key (Some g ∷ slots) none =
    rw (none 0 g (omega arith) refl) (none_at_all key slots (λ k f from there. none (suc k) f (omega arith) there))

pub has_digest : (ds : List (Option ℕ)) (slots : List (Option Filter)) → ds ≡ map digest_in slots → (k : ℕ) (f : Filter) → get_or slots k None ≡ Some f →
    get_or ds k None ≡ Some (digest_of f.key.words)
has_digest ds slots are k f there = ap (λ (os : List (Option ℕ)). get_or os k None) are ∙ digest_at slots k ∙ ap digest_in there

module _ (key : List ℕ) (slots : List (Option Filter)) (ds : List (Option ℕ)) (are : ds ≡ map digest_in slots) (sought : ℕ) (digest : sought ≡ digest_of key) where
  none_between : (at n : ℕ) → at ≡ last_of (is_digest sought) ds n → (k : ℕ) (f : Filter) → at ≤ k → k < n → get_or slots k None ≡ Some f → has_key key f ≡ false
  none_between at n is k f from within there = elim (cases_Bool (has_key key f)) [
    | inl same ↦
        let own : digest_of f.key.words ≡ sought = ap digest_of (same_key f.key.words key same) ∙ sym digest in
        let on : passes (is_digest sought) (get_or ds k None) ≡ true = ap (passes (is_digest sought)) (has_digest ds slots are k f there) ∙ eq-eqb (digest_of f.key.words) sought own in
        let off = none_from (is_digest sought) ds k n (omega (arith, is)) within in
        absurd (false≢true (sym off ∙ on))
    | inr differs ↦ differs
  ]

  pub none_from_last : (at : ℕ) → at ≡ last_of (is_digest sought) ds (length ds) → NoneFrom key slots at
  none_from_last at is = λ k f from there.
      none_between at (length ds) is k f from
      (let even : length ds ≡ length slots = ap length are ∙ length-map slots digest_in in omega (arith, even, some_within slots k f there)) there

  pub none_from_before : (at slot next : ℕ) → at ≡ suc slot → next ≡ last_of (is_digest sought) ds slot → NoneFrom key slots at →
      ((f : Filter) → get_or slots slot None ≡ Some f → has_key key f ≡ false) → NoneFrom key slots next
  none_from_before at slot next number is none here = λ k f from there. elim (cases_Bool (k == slot)) [
    | inl same ↦ here f (ap (λ j. get_or slots j None) (sym (eqb-true k slot same)) ∙ there)
    | inr differs ↦
        let other = eqb-false k slot differs in
        elim (before_or k slot other) [
          | inl before ↦ none_between next slot is k f from before there
          | inr behind ↦ none k f (omega (arith, number, behind)) there
        ]
  ]

  pub has_sought : (at slot : ℕ) → at ≡ suc slot → at ≡ last_of (is_digest sought) ds at → get_or ds slot None ≡ Some sought
  has_sought at slot number own = sought_there (get_or ds slot None) (at_last (is_digest sought) ds at slot (sym own ∙ number))
    where
      sought_there : (o : Option ℕ) → passes (is_digest sought) o ≡ true → o ≡ Some sought
      sought_there None e = absurd (false≢true e)
      sought_there (Some d) e = ap Some (eqb-true d sought e)

-- ---- one slot
pub if_found : (key : List ℕ) (slot : Option Filter) (f : Filter) → Some f ≡ find (has_key key) (those_there (slot ∷ [])) → (slot ≡ Some f) × (has_key key f ≡ true)
if_found key None f e = cc
if_found key (Some g) f e = elim (cases_Bool (has_key key g)) [
  | inl is ↦
      let one : Some f ≡ Some g = e ∙ rw is refl in
      let same : g ≡ f = cc in
      (ap Some same, ap (has_key key) (sym same) ∙ is)
  | inr not ↦
      let none : Some f ≡ None = e ∙ rw not refl in
      cc
]

pub if_not_found : (key : List ℕ) (slot : Option Filter) (f : Filter) → None ≡ find (has_key key) (those_there (slot ∷ [])) → slot ≡ Some f → has_key key f ≡ false
if_not_found key slot f e there = elim (cases_Bool (has_key key f)) [
  | inl is ↦
      let one : None ≡ Some f = e ∙ ap (λ o. find (has_key key) (those_there (o ∷ []))) there ∙ rw is refl in
      cc
  | inr not ↦ not
]
