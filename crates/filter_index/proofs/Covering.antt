-- A key that is looked up by the words of a mask alone.
use Rattle.std.proofs.Common.{◌≡◌, ℕ, zero, suc, ◌+◌, ◌*◌, ◌%◌, ◌^◌, ◌<◌, ◌≤◌, ◌⊎◌, ◌==◌, true, false, List, [], ◌∷◌, length, get_or, bit_and, Option, Some, None, refl, sym, ap, ap₂, ◌∙◌, subst, inl, inr, ne_eqb, arith}
use Rattle.std.proofs.Math.Numerals.{add-one}
use Rattle.std.specs.Str.{bytes_eq}
use Rattle.std.specs.List.{All}
use Rattle.std.specs.Int.Bits.{and_zero_r}
use Rattle.std.proofs.lemmas.Bool.{cases_Bool, eqb-true, eqb-false, leb-true}
use Rattle.std.proofs.Math.Dec.{leb}
use Rattle.std.proofs.lemmas.List.{get_or_past}
use Rattle.flow_mask.specs.Masks.{each_and}
use Rattle.flow_mask.specs.Places.{used_before, HasPlaces}
use Rattle.flow_mask.proofs.Ands.{get_or-each_and, length-each_and, each_and_is}
use Rattle.filter_index.specs.declared.filter.Filter.{Filter}
use Rattle.filter_index.specs.declared.digests.TheConstants.{FACTORS}
use Rattle.filter_index.specs.Digests.{weighed, digest_of}
use Rattle.filter_index.specs.Listed.{those_there}
use Rattle.filter_index.specs.Sieves.{MarkedPlaces, weighed_at, sum_of, AreChosen, LooksAt, FitsSieve, IsWithin}
use Rattle.filter_index.proofs.Apart.{same_key, key_is}

-- ---- a word more of a mask
pub unused_next : (mask : List ℕ) (k : ℕ) → get_or mask k 0 ≡ 0 → used_before mask (suc k) ≡ used_before mask k
unused_next mask k unused = rw unused refl

pub used_next : (mask : List ℕ) (k : ℕ) → (get_or mask k 0 == 0) ≡ false → used_before mask (suc k) ≡ suc (used_before mask k)
used_next mask k used = rw used refl

-- as many words are used up to the next place, or one more
pub used_same : (mask : List ℕ) (k used : ℕ) → get_or mask k 0 ≡ 0 → used ≡ used_before mask k → used ≡ used_before mask (k + 1)
used_same mask k used unused is = rw (add-one, unused_next mask k unused) is

pub used_more : (mask : List ℕ) (k used : ℕ) → (get_or mask k 0 ≡ 0 → ⊥) → used ≡ used_before mask k → used + 1 ≡ used_before mask (k + 1)
used_more mask k used some is = rw (add-one k, used_next mask k (ne_eqb (get_or mask k 0) 0 some)) (omega arith)

-- a mask fits a sieve if all its words that are used are few
pub fits_counted : (mask : List ℕ) (n used : ℕ) → length mask ≡ n → used ≡ used_before mask n → leb used 4 ≡ true → FitsSieve mask
fits_counted mask n used long is few = let low : used ≤ 4 = omega (arith, leb-true used 4 few) in rw long (omega arith)

-- ---- the sum over the places of a mask is the digest of the key under it
weighed_next : (words : List ℕ) (k word : ℕ) → get_or words k 0 ≡ word → weighed words (suc k) ≡ weighed words k + word * get_or FACTORS k 0
weighed_next words k word is = ap (λ w. weighed words k + w * get_or FACTORS k 0) is

weighed_at_next : (places words key : List ℕ) (n k word : ℕ) → get_or places n 0 ≡ k → get_or words n 0 ≡ word →
    weighed_at places words key (suc n) ≡ weighed_at places words key n + bit_and (get_or key k 0) word * get_or FACTORS k 0
weighed_at_next places words key n k word place is =
    ap₂ (λ p w. weighed_at places words key n + bit_and (get_or key p 0) w * get_or FACTORS p 0) place is

module _ (places words mask frame : List ℕ) (count n : ℕ) (listed : HasPlaces mask n places count) (chosen : AreChosen mask places words count) where
  weigh_same : (k : ℕ) → k ≤ n → weighed_at places words frame (used_before mask k) ≡ weighed (each_and frame mask) k
  weigh_same zero within = refl
  weigh_same (suc k) within = elim (cases_Bool (get_or mask k 0 == 0)) [
    | inl unused ↦
        let none = eqb-true (get_or mask k 0) 0 unused in
        ap (weighed_at places words frame) (unused_next mask k none) ∙ weigh_same k (omega arith)
        ∙ sym (weighed_next (each_and frame mask) k 0 (get_or-each_and frame mask k ∙ ap (bit_and (get_or frame k 0)) none ∙ and_zero_r (get_or frame k 0)) ∙ omega arith)
    | inr used ↦
        let at = listed.listed k (omega arith) (eqb-false (get_or mask k 0) 0 used) in
        let word = (chosen (used_before mask k) at.0).1 ∙ ap (λ p. get_or mask p 0) at.1 in
        ap (weighed_at places words frame) (used_next mask k used)
        ∙ weighed_at_next places words frame (used_before mask k) k (get_or mask k 0) at.1 word
        ∙ ap (λ sum. sum + bit_and (get_or frame k 0) (get_or mask k 0) * get_or FACTORS k 0) (weigh_same k (omega arith))
        ∙ sym (weighed_next (each_and frame mask) k (bit_and (get_or frame k 0) (get_or mask k 0)) (get_or-each_and frame mask k))
  ]

pub sum_is_digest : (s : MarkedPlaces) (mask frame : List ℕ) → LooksAt mask s → FitsSieve mask → length frame ≡ length mask → sum_of s frame ≡ digest_of (each_and frame mask)
sum_is_digest s mask frame looks fits even =
    let places = looks.listed fits in
    let long : length (each_and frame mask) ≡ length mask = omega (arith, length-each_and frame mask) in
    ap (λ sum. sum % 2 ^ 64)
    (ap (weighed_at s.places s.words frame) places.counted
    ∙ weigh_same s.places s.words mask frame s.count (length mask) places looks.chosen (length mask) (omega arith)
    ∙ ap (weighed (each_and frame mask)) (sym long))

-- ---- keys that are equal at the places of a mask
abbrev pub IsSameAt : List ℕ → List ℕ → List ℕ → ℕ → Type 0
IsSameAt frame mask key k = bit_and (get_or frame k 0) (get_or mask k 0) ≡ get_or key k 0

same_by_word : (frame mask key places : List ℕ) (count n k word : ℕ) → IsWithin mask key → HasPlaces mask n places count →
    ((j : ℕ) → j < count → IsSameAt frame mask key (get_or places j 0)) → k < n → get_or mask k 0 ≡ word → IsSameAt frame mask key k
same_by_word frame mask key places count n k zero within listed same here unused =
    ap (bit_and (get_or frame k 0)) unused ∙ and_zero_r (get_or frame k 0) ∙ sym (within k unused)
same_by_word frame mask key places count n k (suc word) within listed same here used =
    let at = listed.listed k here (λ unused. omega arith) in
    subst (IsSameAt frame mask key) at.1 (same _ at.0)

pub agree_all : (frame mask key places : List ℕ) (count n : ℕ) → length frame ≡ n → length mask ≡ n → length key ≡ n → IsWithin mask key → HasPlaces mask n places count →
    ((j : ℕ) → j < count → IsSameAt frame mask key (get_or places j 0)) → true ≡ bytes_eq key (each_and frame mask)
agree_all frame mask key places count n frame_length mask_length key_length within listed same =
    sym (key_is key (each_and frame mask) (sym (each_and_is frame mask key (omega arith) (omega arith)
    (λ k here. same_by_word frame mask key places count n k _ within listed same (omega arith) refl))))

pub agree_not : (frame mask key : List ℕ) (k : ℕ) → (IsSameAt frame mask key k → ⊥) → false ≡ bytes_eq key (each_and frame mask)
agree_not frame mask key k differs = elim (cases_Bool (bytes_eq key (each_and frame mask))) [
  | inl is ↦ absurd (differs (sym (get_or-each_and frame mask k) ∙ sym (ap (λ (words : List ℕ). get_or words k 0) (same_key key (each_and frame mask) is))))
  | inr not ↦ sym not
]

-- ---- a key within a mask
pub within_all : (mask key : List ℕ) (n : ℕ) → length key ≤ n → ((j : ℕ) → j < n → get_or mask j 0 ≡ 0 → get_or key j 0 ≡ 0) → IsWithin mask key
within_all mask key n short below = λ k unused. within_at k unused (before_or k n)
  where
    before_or : (k m : ℕ) → (k < m) ⊎ (m ≤ k)
    before_or k m = grind arith

    within_at : (k : ℕ) → get_or mask k 0 ≡ 0 → ((k < n) ⊎ (n ≤ k)) → get_or key k 0 ≡ 0
    within_at k unused (inl before) = below k before unused
    within_at k unused (inr behind) = get_or_past key k 0 (omega arith)

-- ---- what holds of each filter holds of the one in a slot
pub holds_there : (P : Filter → Type 0) (slots : List (Option Filter)) (k : ℕ) (f : Filter) → All P (those_there slots) → get_or slots k None ≡ Some f → P f
holds_there P [] k f all e = cc
holds_there P (None ∷ slots) zero f all e = cc
holds_there P (None ∷ slots) (suc k) f all e = holds_there P slots k f all e
holds_there P (Some g ∷ slots) zero f all e =
    let same : g ≡ f = cc in
    subst P same (all 0 g (omega arith))
holds_there P (Some g ∷ slots) (suc k) f all e = holds_there P slots k f (λ j d here. all (suc j) d (omega arith)) e
