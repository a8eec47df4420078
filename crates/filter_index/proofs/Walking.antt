-- Steps along a chain of slots.
use Rattle.std.proofs.Common.{◌≡◌, ℕ, zero, suc, ◌+◌, ◌<◌, ◌≤◌, ◌==◌, Bool, true, false, nat_eq, List, [], ◌∷◌, length, get_or, Option, Some, None, refl, sym, ap, ◌∙◌, inl, inr, arith}
use Rattle.std.specs.Option.{option_eq}
use Rattle.std.proofs.lemmas.Bool.{cases_Bool, false≢true, eqb-true, eq-eqb}
use Rattle.filter_index.specs.Chains.{passes, last_of, is_digest, chain_of, is_on, AreLinked, IsBehind}
use Rattle.filter_index.proofs.LastOf.{last_here, last_not_here, last_le, reaches, at_last, last_again, last_narrow}
use Rattle.filter_index.proofs.Linked.{own_of}

some_digest : (test : ℕ → Bool) (o : Option ℕ) → passes test o ≡ true → (d : ℕ) × (o ≡ Some d)
some_digest test None e = absurd (false≢true e)
some_digest test (Some d) e = (d, refl)

same_chain : (size digest d : ℕ) → is_digest digest d ≡ true → is_on size (chain_of size digest) d ≡ true
same_chain size digest d same = eq-eqb (chain_of size d) (chain_of size digest) (ap (chain_of size) (eqb-true d digest same))

is_other : (digest : ℕ) (o : Option ℕ) → (o ≡ Some digest → ⊥) → passes (is_digest digest) o ≡ false
is_other digest None other = refl
is_other digest (Some d) other = elim (cases_Bool (d == digest)) [
  | inl same ↦ absurd (other (ap Some (eqb-true d digest same)))
  | inr differs ↦ differs
]

-- what is known at a slot of a chain
pub record AtSlot (size chain : ℕ) (ds : List (Option ℕ)) (at : ℕ) : Type 0 where
  pub own : at ≡ last_of (is_on size chain) ds at
  pub below : at ≤ length ds

module _ (size : ℕ) (heads : List ℕ) (ds : List (Option ℕ)) (nexts : List ℕ) (linked : AreLinked size heads ds nexts) where
  pub at_head : (chain at : ℕ) → chain < size → at ≡ get_or heads chain 0 → AtSlot size chain ds at
  at_head chain at within is = record {
    own = is ∙ linked.last chain within ∙ sym (last_again (is_on size chain) ds (length ds)) ∙ ap (last_of (is_on size chain) ds) (sym (is ∙ linked.last chain within));
    below = let e = is ∙ linked.last chain within in omega (arith, e, last_le (is_on size chain) ds (length ds));
  }

  pub before_is : (chain digest slot next : ℕ) → slot < length ds → get_or ds slot None ≡ Some digest → chain_of size digest ≡ chain → next ≡ get_or nexts slot 0 →
      next ≡ last_of (is_on size chain) ds slot
  before_is chain digest slot next within there own is = is ∙ linked.before slot digest within there ∙ ap (λ c. last_of (is_on size c) ds slot) own

  pub at_before : (chain slot next : ℕ) → slot < length ds → next ≡ last_of (is_on size chain) ds slot → AtSlot size chain ds next
  at_before chain slot next within is = record {
    own = is ∙ sym (last_again (is_on size chain) ds slot) ∙ ap (last_of (is_on size chain) ds) (sym is);
    below = omega (arith, is, last_le (is_on size chain) ds slot);
  }

  module _ (chain at slot next : ℕ) (here : AtSlot size chain ds at) (number : at ≡ suc slot) (is : next ≡ get_or nexts slot 0) where
    pub on_it : passes (is_on size chain) (get_or ds slot None) ≡ true
    on_it = at_last (is_on size chain) ds at slot (sym here.own ∙ number)

    pub slot_within : slot < length ds
    slot_within = omega (arith, here.below, number)

    pub next_is : next ≡ last_of (is_on size chain) ds slot
    next_is =
        let d = some_digest (is_on size chain) (get_or ds slot None) on_it in
        before_is chain d.0 slot next slot_within d.1 (own_of size chain d.0 _ d.1 on_it) is

    pub at_next : AtSlot size chain ds next
    at_next = at_before chain slot next slot_within next_is

    pub next_falls : next < at
    next_falls = omega (arith, next_is, last_le (is_on size chain) ds slot, number)

  -- ---- the last slot of a digest stands where it is sought
  pub same_last : (digest slot next : ℕ) → next ≡ last_of (is_on size (chain_of size digest)) ds slot → last_of (is_digest digest) ds next ≡ last_of (is_digest digest) ds slot
  same_last digest slot next is =
      ap (last_of (is_digest digest) ds) is ∙ sym (last_narrow (is_on size (chain_of size digest)) (is_digest digest) ds slot (same_chain size digest))

  pub same_behind : (digest at slot : ℕ) → at ≡ suc slot → (get_or ds slot None ≡ Some digest → ⊥) → last_of (is_digest digest) ds slot ≡ last_of (is_digest digest) ds at
  same_behind digest at slot number other =
      sym (last_not_here (is_digest digest) ds slot (is_other digest _ other)) ∙ ap (last_of (is_digest digest) ds) (sym number)

  pub found_here : (digest at slot : ℕ) → at ≡ suc slot → get_or ds slot None ≡ Some digest → at ≡ last_of (is_digest digest) ds at
  found_here digest at slot number is =
      number ∙ sym (last_here (is_digest digest) ds slot (ap (passes (is_digest digest)) is ∙ eq-eqb digest digest refl)) ∙ ap (last_of (is_digest digest) ds) (sym number)

  -- ---- the slot behind another
  pub still_above : (chain at k next slot : ℕ) → AtSlot size chain ds at → at ≡ suc k → next ≡ get_or nexts k 0 → slot + 1 < at →
      passes (is_on size chain) (get_or ds slot None) ≡ true → (next ≡ slot + 1 → ⊥) → slot + 1 < next
  still_above chain at k next slot here number is above on other =
      let before : slot < k = omega (arith, number, above) in
      omega (arith, reaches (is_on size chain) ds slot k before on, next_is chain at k next here number is, other)

  pub is_behind : (chain at k next slot : ℕ) → AtSlot size chain ds at → at ≡ suc k → next ≡ get_or nexts k 0 → next ≡ slot + 1 → IsBehind (is_on size chain) ds slot k
  is_behind chain at k next slot here number is found = record {
    there = slot_within chain at k next here number is;
    on = on_it chain at k next here number is;
    before = sym (next_is chain at k next here number is) ∙ found;
  }

-- ---- what code compares and reads
pub digest_same : (digest : ℕ) (o : Option ℕ) → option_eq nat_eq o (Some digest) ≡ true → o ≡ Some digest
digest_same digest None e = absurd (false≢true e)
digest_same digest (Some d) e = ap Some (eqb-true d digest e)

pub digest_differs : (digest : ℕ) (o : Option ℕ) → option_eq nat_eq o (Some digest) ≡ false → o ≡ Some digest → ⊥
digest_differs digest o e same = false≢true (sym e ∙ ap (λ p. option_eq nat_eq p (Some digest)) same ∙ eq-eqb digest digest refl)

pub there_within : (ds : List (Option ℕ)) (k d : ℕ) → get_or ds k None ≡ Some d → k < length ds
there_within [] k d e = cc
there_within (o ∷ ds) zero d e = omega arith
there_within (o ∷ ds) (suc k) d e = let rest = there_within ds k d e in omega arith
