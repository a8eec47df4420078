-- The end of a word among the first bytes of a text, by lanes.
use Rattle.std.proofs.Common.{◌≡◌, ℕ, zero, suc, ◌+◌, ◌%◌, ◌^◌, ◌<◌, ◌≤◌, ◌||◌, not, Bool, true, false, cond, eqb, List, [], ◌∷◌, map, length, take, replicate, bit_or, refl, ◌∙◌, ap, arith}
use Rattle.std.specs.List.{position_or_len, prefix_len}
use Rattle.std.proofs.lemmas.List.{length-map}
use Rattle.std.proofs.lemmas.Simd.{map-map, mask_l-mod, length-chunk, zip2_splat, zip2_of_maps, first_set_mask_l}
use lib.Lanes.{chunk, zip2, mask_l, top}
use lib.Count.{count_trailing_zeros}
use Rattle.tc_words.specs.Lines.{ends_word}

-- ---- the end near the front is the end of the whole
near_by : (t : Bool) (n near whole : ℕ) → (near < n → whole ≡ near) → cond (not t) (1 + near) 0 < suc n → cond (not t) (1 + whole) 0 ≡ cond (not t) (1 + near) 0
near_by true n near whole same less = refl
near_by false n near whole same less = ap (λ k. 1 + k) (same (omega (arith, less)))

pub near_is : (test : ℕ → Bool) (n : ℕ) (text : List ℕ) → n ≤ length text → position_or_len test (take n text) < n → position_or_len test text ≡ position_or_len test (take n text)
near_is test zero text within less = absurd (omega (arith, less))
near_is test (suc n) [] within less = absurd (omega (arith, within))
near_is test (suc n) (b ∷ text) within less =
    near_by (test b) n (position_or_len test (take n text)) (position_or_len test text) (near_is test n text (omega (arith, within))) less

-- ---- lanes
either_of : (a b c : Bool) → top 7 (bit_or (bit_or (cond a 255 0) (cond b 255 0)) (cond c 255 0)) ≡ ((a || b) || c)
either_of true true true = refl
either_of true true false = refl
either_of true false true = refl
either_of true false false = refl
either_of false true true = refl
either_of false true false = refl
either_of false false true = refl
either_of false false false = refl

abbrev is_byte : ℕ → ℕ → ℕ
is_byte x b = cond (eqb x b) 255 0

abbrev lane : ℕ → ℕ
lane x = bit_or (bit_or (is_byte x 32) (is_byte x 9)) (is_byte x 35)

abbrev stops : ℕ → Bool
stops x = top 7 (lane x)

prefix_same : (p q : ℕ → Bool) (xs : List ℕ) → ((x : ℕ) → p x ≡ q x) → prefix_len (λ x. not (p x)) xs ≡ prefix_len (λ x. not (q x)) xs
prefix_same p q [] same = refl
prefix_same p q (x ∷ xs) same = ap (λ t. cond (not t) (1 + prefix_len (λ y. not (p y)) xs) 0) (same x) ∙ ap (λ n. cond (not (q x)) (1 + n) 0) (prefix_same p q xs same)

abbrev lanes_of : List ℕ → List ℕ
lanes_of v = zip2 bit_or (zip2 bit_or (zip2 is_byte v (replicate 16 32)) (zip2 is_byte v (replicate 16 9))) (zip2 is_byte v (replicate 16 35))

its_lanes : (v : List ℕ) → length v ≡ 16 → lanes_of v ≡ map lane v
its_lanes v long =
    zip2_of_maps bit_or (λ x. bit_or (is_byte x 32) (is_byte x 9)) (λ x. is_byte x 35) v
    (zip2_of_maps bit_or (λ x. is_byte x 32) (λ x. is_byte x 9) v (zip2_splat is_byte v 16 32 long) (zip2_splat is_byte v 16 9 long))
    (zip2_splat is_byte v 16 35 long)

pub near_end : (text : List ℕ) (found : ℕ) → 16 ≤ length text →
    found ≡ cond (eqb (mask_l (map (top 7) (lanes_of (chunk 0 16 text))) % 2 ^ 64) 0) 16 (count_trailing_zeros 64 (mask_l (map (top 7) (lanes_of (chunk 0 16 text))) % 2 ^ 64)) →
    found ≡ position_or_len ends_word (take 16 text)
near_end text found room is =
    let v = chunk 0 16 text in
    let long = length-chunk 0 16 text room in
    let mask = ap (λ l. mask_l (map (top 7) l) % 2 ^ 64) (its_lanes v long) ∙ ap (λ l. mask_l l % 2 ^ 64) (map-map (top 7) lane v) ∙ mask_l-mod (map stops v) 64 (omega (arith, length-map v stops, long)) in
    is
    ∙ ap (λ m. cond (eqb m 0) 16 (count_trailing_zeros 64 m)) mask
    ∙ first_set_mask_l stops v 16 long (omega arith)
    ∙ prefix_same stops ends_word v (λ x. either_of (eqb x 32) (eqb x 9) (eqb x 35))
