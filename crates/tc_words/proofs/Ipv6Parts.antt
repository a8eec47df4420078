-- IPv6 addresses, by their cuts.
use Rattle.std.proofs.Common.{◌≡◌, ◌∙◌, ℕ, ◌+◌, ◌-◌, ◌*◌, ◌^◌, ◌<◌, ◌≤◌, Bool, true, false, cond, List, [], ◌∷◌, length, drop, get_or, refl, sym, ap, arith, eqb, Some, None, length-drop, pow-add}
use Rattle.std.specs.Prelude.{nat_lt, ◌&&◌}
use Rattle.std.specs.List.{slice_split, zip, position_or_len}
use Rattle.std.proofs.lemmas.Bool.Decides.{nat_tests}
use Rattle.std.proofs.lemmas.List.Sums.{position_or_len_is}
use Rattle.std.proofs.lemmas.Slice.Zip.{get_or-zip, length-zip}
use Rattle.std.proofs.lemmas.Grind.{common_steps, pow_more}
use Rattle.std.proofs.Math.Nat.{pow-le-pow_right, mul-le-mul_right, mul_assoc}
use Rattle.tc_words.specs.Lines.{cut_once}
use Rattle.tc_words.specs.Numbers.{decimal_of}
use Rattle.tc_words.specs.Groups.{of_just}
use Rattle.tc_words.specs.Ipv6Addresses.{are_colons, gap_place, cut_at_gap, ipv6_groups, groups_beside, joined_around_gap, address_by_gap, ipv6_address_of, ipv6_length_behind, ipv6_prefix, ipv6_of, ipv6_of_parts}
use Rattle.tc_words.proofs.Parts.{parts_uncut_at, parts_cut_at, some_part}

-- two colons stand at a place of the text
abbrev pub colons_at : List ℕ → ℕ → Bool
colons_at text k = eqb (get_or text k 0) 58 && eqb (get_or text (k + 1) 0) 58

pair_at : (text : List ℕ) (k : ℕ) → k + 1 < length text → are_colons (get_or (zip text (drop 1 text)) k (0, 0)) ≡ colons_at text k
pair_at text k lt =
    let rest : k < length (drop 1 text) = omega (arith, length-drop 1 text, lt) in
    let next : get_or (drop 1 text) k 0 ≡ get_or text (k + 1) 0 = grind (arith, common_steps) in
    ap are_colons (get_or-zip text (drop 1 text) k (0, 0) (omega (arith, lt)) rest) ∙ ap (λ b. eqb (get_or text k 0) 58 && eqb b 58) next

pairs : (text : List ℕ) → length (zip text (drop 1 text)) ≡ length text - 1
pairs text = omega (arith, length-zip text (drop 1 text), length-drop 1 text)

before_all : (text : List ℕ) (at : ℕ) → at ≤ length text - 1 → ((k : ℕ) → k < at → colons_at text k ≡ false) → (k : ℕ) → k < at → are_colons (get_or (zip text (drop 1 text)) k (0, 0)) ≡ false
before_all text at le before k lt = pair_at text k (omega (arith, le, lt)) ∙ before k lt

pub gap_found : (text : List ℕ) (at : ℕ) → at + 1 < length text → ((k : ℕ) → k < at → colons_at text k ≡ false) → colons_at text at ≡ true → gap_place text ≡ Some at
gap_found text at lt before here =
    let is : position_or_len are_colons (zip text (drop 1 text)) ≡ at =
    position_or_len_is are_colons (zip text (drop 1 text)) at (0, 0) (omega (arith, pairs text, lt)) (before_all text at (omega (arith, lt)) before) (λ _. pair_at text at lt ∙ here) in
    let inside : nat_lt at (length (zip text (drop 1 text))) ≡ true = grind (arith, nat_tests, pairs text, lt) in
    ap (λ n. cond (nat_lt n (length (zip text (drop 1 text)))) (Some n) None) is ∙ ap (λ b. cond b (Some at) None) inside

pub no_gap : (text : List ℕ) (at : ℕ) → length text ≤ at + 1 → ((k : ℕ) → k < at → colons_at text k ≡ false) → gap_place text ≡ None
no_gap text at le before =
    let n = length text - 1 in
    let is : position_or_len are_colons (zip text (drop 1 text)) ≡ n =
    position_or_len_is are_colons (zip text (drop 1 text)) n (0, 0) (omega (arith, pairs text)) (before_all text n (omega arith) (λ k lt. before k (omega (arith, lt, le)))) (λ lt. absurd (omega (arith, lt, pairs text))) in
    let outside : nat_lt n (length (zip text (drop 1 text))) ≡ false = grind (arith, nat_tests, pairs text) in
    ap (λ m. cond (nat_lt m (length (zip text (drop 1 text)))) (Some m) None) is ∙ ap (λ b. cond b (Some n) None) outside

-- a length with a slash in it is none
more_lengths : (bits : List ℕ) (parts : List (List ℕ)) → 0 < length parts → ipv6_length_behind (bits ∷ parts) ≡ None
more_lengths bits [] lt = absurd (omega arith)
more_lengths bits (next ∷ more) lt = refl

pub slashed_length : (text front back : List ℕ) → cut_once 47 text ≡ Some (front, back) → ipv6_length_behind (slice_split (λ b. eqb b 47) text) ≡ None
slashed_length text front back e =
    ap ipv6_length_behind (parts_cut_at 47 text front back e).1 ∙ more_lengths front (slice_split (λ b. eqb b 47) back) (some_part (λ b. eqb b 47) back)

pub whole_length : (text : List ℕ) → cut_once 47 text ≡ None → ipv6_length_behind (slice_split (λ b. eqb b 47) text) ≡ decimal_of text 128
whole_length text e = ap ipv6_length_behind (parts_uncut_at 47 text e)

-- the word without a slash, and with one
pub no_slash : (word : List ℕ) → cut_once 47 word ≡ None → ipv6_of word ≡ ipv6_prefix (ipv6_address_of word) (Some 128)
unfolding ipv6_of
no_slash word e = ap ipv6_of_parts (parts_uncut_at 47 word e)

pub a_slash : (word address last : List ℕ) → cut_once 47 word ≡ Some (address, last) → ipv6_of word ≡ ipv6_prefix (ipv6_address_of address) (ipv6_length_behind (slice_split (λ b. eqb b 47) last))
unfolding ipv6_of
a_slash word address last e = ap ipv6_of_parts (parts_cut_at 47 word address last e).1

-- the text without a `::`, and with one
pub gapless : (text : List ℕ) → cut_at_gap text ≡ None → ipv6_address_of text ≡ of_just 8 (ipv6_groups text)
unfolding ipv6_address_of
gapless text e = ap (address_by_gap text) e

pub with_gap : (text front back : List ℕ) → cut_at_gap text ≡ Some (front, back) → ipv6_address_of text ≡ joined_around_gap (groups_beside front) (groups_beside back)
unfolding ipv6_address_of
with_gap text front back e = ap (address_by_gap text) e

-- the places that are left behind so many groups
places_left : (front : ℕ) → front ≤ 7 → 65536 ^ (8 - front) ≡ 65536 ^ (7 - front) * 65536
places_left front le =
    let e : 8 - front ≡ 7 - front + 1 = omega (arith, le) in
    ap (λ n. 65536 ^ n) e ∙ pow_more 65536 (7 - front)

pub few_places : (front : ℕ) → 65536 ^ (7 - front) ≤ 65536 ^ 7
few_places front = pow-le-pow_right {n = 65536} (omega arith) {i = 7 - front} {j = 7} (omega arith)

-- what is spread leaves room for the groups behind the gap
pub spread_room : (front number : ℕ) → front ≤ 7 → number < 65536 ^ front → number * 65536 ^ (8 - front) + 65536 ^ (8 - front) ≤ 65536 ^ 8
spread_room front number le below =
    let e : front + (8 - front) ≡ 8 = omega (arith, le) in
    let all : 65536 ^ 8 ≡ 65536 ^ front * 65536 ^ (8 - front) = ap (λ n. 65536 ^ n) (sym e) ∙ pow-add 65536 front (8 - front) in
    let more : (number + 1) * 65536 ^ (8 - front) ≤ 65536 ^ front * 65536 ^ (8 - front) = mul-le-mul_right {m = number + 1} {n = 65536 ^ front} (65536 ^ (8 - front)) (omega (arith, below)) in
    omega (arith, all, more)

pub spread_is : (front number places : ℕ) → front ≤ 7 → places ≡ 65536 ^ (7 - front) → number * places * 65536 ≡ number * 65536 ^ (8 - front)
spread_is front number places le is_places =
    ap (λ n. number * n * 65536) is_places ∙ mul_assoc number (65536 ^ (7 - front)) 65536 ∙ ap (λ n. number * n) (sym (places_left front le))

pub back_room : (front back number : ℕ) → front + back < 8 → number < 65536 ^ back → number < 65536 ^ (8 - front)
back_room front back number lt below = omega (arith, below, pow-le-pow_right {n = 65536} (omega arith) {i = back} {j = 8 - front} (omega (arith, lt)))
