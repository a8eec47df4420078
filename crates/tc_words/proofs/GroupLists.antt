-- Groups, read one by one.
use Rattle.std.proofs.Common.{◌≡◌, ◌∙◌, ℕ, ◌+◌, ◌*◌, ◌^◌, ◌<◌, ◌≤◌, Bool, true, false, cond, List, [], ◌∷◌, length, refl, sym, ap, arith, eqb, Option, Some, None}
use Rattle.std.specs.Prelude.{nat_lt, fold}
use Rattle.std.specs.List.{slice_split}
use Rattle.std.specs.Option.{option_map}
use Rattle.std.proofs.Math.Nat.{pow-le-pow_right, mul-le-mul_right}
use Rattle.std.proofs.lemmas.Grind.{pow_more}
use Rattle.std.proofs.lemmas.Bool.Decides.{nat_tests}
use Rattle.tc_words.specs.Lines.{cut_once}
use Rattle.tc_words.specs.Groups.{group_of, followed_by, groups_value, groups_of}
use Rattle.tc_words.proofs.Parts.{parts_uncut_at, parts_cut_at, some_part}

-- the number so far, and the groups that are still to come
abbrev pub value_after : ℕ → ℕ → Option ℕ → List (List ℕ) → Option ℕ
value_after least most number groups = fold (λ n group. followed_by most n (group_of least most group)) number groups

-- behind what is no group there is no number
no_value : (least most : ℕ) (groups : List (List ℕ)) → value_after least most None groups ≡ None
no_value least most [] = refl
no_value least most (group ∷ groups) = no_value least most groups

-- one group more
pub value_cut : (least most number : ℕ) (next : Option ℕ) (rest group more : List ℕ) (total : Option ℕ) → cut_once 58 rest ≡ Some (group, more)
    → next ≡ followed_by most (Some number) (group_of least most group) → value_after least most (Some number) (slice_split (λ b. eqb b 58) rest) ≡ total
    → value_after least most next (slice_split (λ b. eqb b 58) more) ≡ total
value_cut least most number next rest group more total e is_next so_far =
    ap (λ (n : Option ℕ). value_after least most n (slice_split (λ b. eqb b 58) more)) is_next
    ∙ sym (ap (value_after least most (Some number)) (parts_cut_at 58 rest group more e).1)
    ∙ so_far

-- a group that is none
pub value_cut_bad : (least most number : ℕ) (rest group more : List ℕ) (total : Option ℕ) → cut_once 58 rest ≡ Some (group, more)
    → None ≡ followed_by most (Some number) (group_of least most group) → value_after least most (Some number) (slice_split (λ b. eqb b 58) rest) ≡ total → total ≡ None
value_cut_bad least most number rest group more total e bad so_far =
    sym (value_cut least most number None rest group more total e bad so_far) ∙ no_value least most (slice_split (λ b. eqb b 58) more)

-- the last group
pub value_last : (least most number : ℕ) (last : Option ℕ) (rest : List ℕ) (total : Option ℕ) → cut_once 58 rest ≡ None
    → last ≡ followed_by most (Some number) (group_of least most rest) → value_after least most (Some number) (slice_split (λ b. eqb b 58) rest) ≡ total → total ≡ last
value_last least most number last rest total e is_last so_far =
    sym so_far ∙ ap (value_after least most (Some number)) (parts_uncut_at 58 rest e) ∙ sym is_last

-- how many groups are still to come
pub count_cut : (count : ℕ) (rest group more : List ℕ) (total : ℕ) → cut_once 58 rest ≡ Some (group, more) → count + length (slice_split (λ b. eqb b 58) rest) ≡ total
    → (count + 1) + length (slice_split (λ b. eqb b 58) more) ≡ total
count_cut count rest group more total e so_far =
    let cut = ap length (parts_cut_at 58 rest group more e).1 in
    omega (arith, cut, so_far)

pub count_above : (count : ℕ) (rest group more : List ℕ) (total : ℕ) → cut_once 58 rest ≡ Some (group, more) → count + length (slice_split (λ b. eqb b 58) rest) ≡ total → count + 1 < total
count_above count rest group more total e so_far =
    let cut = count_cut count rest group more total e so_far in
    omega (arith, cut, some_part (λ b. eqb b 58) more)

pub count_last : (count : ℕ) (rest : List ℕ) (total : ℕ) → cut_once 58 rest ≡ None → count + length (slice_split (λ b. eqb b 58) rest) ≡ total → total ≡ count + 1
count_last count rest total e so_far =
    let cut = ap length (parts_uncut_at 58 rest e) in
    omega (arith, cut, so_far)

-- what the count and the number say of the groups
either_None : {A : Type 0} (b : Bool) (o : Option A) → o ≡ None → cond b None o ≡ None
either_None true o e = refl
either_None false o e = e

pub groups_of-no_value : (least most greatest : ℕ) (groups : List (List ℕ)) → groups_value least most groups ≡ None → groups_of least most greatest groups ≡ None
groups_of-no_value least most greatest groups e =
    either_None (nat_lt greatest (length groups)) (option_map (λ number. (length groups, number)) (groups_value least most groups)) (ap (option_map (λ number. (length groups, number))) e)

pub groups_of-many : (least most greatest : ℕ) (groups : List (List ℕ)) → greatest < length groups → groups_of least most greatest groups ≡ None
groups_of-many least most greatest groups lt =
    let many : nat_lt greatest (length groups) ≡ true = grind (arith, nat_tests, lt) in
    ap (λ b. cond b None (option_map (λ number. (length groups, number)) (groups_value least most groups))) many

pub groups_of-all : (least most greatest count number : ℕ) (groups : List (List ℕ)) → length groups ≡ count → count ≤ greatest → groups_value least most groups ≡ Some number
    → groups_of least most greatest groups ≡ Some (count, number)
groups_of-all least most greatest count number groups is_count le e =
    let few : nat_lt greatest (length groups) ≡ false = grind (arith, nat_tests, is_count, le) in
    ap (λ b. cond b None (option_map (λ number. (length groups, number)) (groups_value least most groups))) few
    ∙ ap (option_map (λ number. (length groups, number))) e
    ∙ ap (λ (n : ℕ). Some (n, number)) is_count

-- one group more stays below the next power
pub room : (radix number i : ℕ) → number < radix ^ i → number * radix + radix ≤ radix ^ (i + 1)
room radix number i below =
    let more : (number + 1) * radix ≤ radix ^ i * radix = mul-le-mul_right {m = number + 1} {n = radix ^ i} radix (omega (arith, below)) in
    omega (arith, more, pow_more radix i)

pub room_within : (radix number i greatest top : ℕ) → number < radix ^ i → i < greatest → radix ^ greatest ≤ top → 0 < radix → number * radix + radix ≤ top
room_within radix number i greatest top below lt le some =
    omega (arith, le, room radix number i below, pow-le-pow_right {n = radix} some {i = i + 1} {j = greatest} (omega (arith, lt)))

-- sixteen to some power is above 0
pub some_radix : (most : ℕ) → 0 < 16 ^ most
some_radix most = omega (arith, pow-le-pow_right {n = 16} (omega arith) {i = 0} {j = most} (omega arith))
