-- Comparing at the places of a mask alone.
use Rattle.std.proofs.Common.{◌≡◌, ℕ, zero, suc, ◌<◌, List, length, get_or, bit_and, sym, ap, ◌∙◌, refl, subst, arith}
use Rattle.std.specs.Int.Bits.{and_zero_r}
use Rattle.flow_mask.specs.Masks.{each_and}
use Rattle.flow_mask.specs.Places.{HasPlaces}
use Rattle.flow_mask.proofs.Ands.{get_or-each_and, each_and_is}

-- the words at place `k` are equal under the mask
abbrev pub IsSameAt : List ℕ → List ℕ → List ℕ → ℕ → Type 0
IsSameAt frame mask key k = bit_and (get_or frame k 0) (get_or mask k 0) ≡ get_or key k 0

pub is_same_at : (frame mask key : List ℕ) (k : ℕ) → each_and frame mask ≡ key → IsSameAt frame mask key k
is_same_at frame mask key k same = sym (get_or-each_and frame mask k) ∙ ap (λ (words : List ℕ). get_or words k 0) same

same_by_word : (frame mask key places : List ℕ) (count k word : ℕ) → each_and key mask ≡ key → HasPlaces mask 14 places count →
    ((j : ℕ) → j < count → IsSameAt frame mask key (get_or places j 0)) → k < 14 → get_or mask k 0 ≡ word → IsSameAt frame mask key k
same_by_word frame mask key places count k zero under listed same here unused =
    ap (bit_and (get_or frame k 0)) unused ∙ and_zero_r (get_or frame k 0)
    ∙ sym (and_zero_r (get_or key k 0)) ∙ sym (ap (bit_and (get_or key k 0)) unused) ∙ is_same_at key mask key k under
same_by_word frame mask key places count k (suc word) under listed same here used =
    let at = listed.listed k here (λ unused. omega arith) in
    subst (IsSameAt frame mask key) at.1 (same _ at.0)

-- words that are equal at each place are equal everywhere
pub same_everywhere : (frame mask key places : List ℕ) (count : ℕ) → length frame ≡ 14 → length mask ≡ 14 → length key ≡ 14 →
    each_and key mask ≡ key → HasPlaces mask 14 places count →
    ((j : ℕ) → j < count → IsSameAt frame mask key (get_or places j 0)) → each_and frame mask ≡ key
same_everywhere frame mask key places count frame_length mask_length key_length under listed same =
    each_and_is frame mask key (omega arith) (omega arith)
    (λ k here. same_by_word frame mask key places count k _ under listed same (omega arith) refl)
