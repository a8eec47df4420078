-- The parts of a list, by the first place at which it is cut.
use Rattle.std.proofs.Common.{◌≡◌, ◌∙◌, ℕ, ◌+◌, ◌<◌, ◌≤◌, Bool, true, false, cond, List, [], ◌∷◌, length, take, drop, refl, ap, subst, arith, eqb, length-drop, Option, Some, None}
use Rattle.std.specs.Prelude.{position, nat_lt}
use Rattle.std.specs.List.{slice_split, position_or_len}
use Rattle.std.proofs.lemmas.List.Sums.{fails_before_first}
use Rattle.std.proofs.lemmas.List.Splits.{slice_split_none, slice_split_first, length-slice_split}
use Rattle.std.specs.Option.{option_map}
use Rattle.std.proofs.lemmas.Bool.Decides.{nat_tests}
use Rattle.tc_words.specs.Lines.{cut_once}

-- what a choice of `Some` or `None` says of its test
from_None : (b : Bool) (n : ℕ) → cond b (Some n) None ≡ None → b ≡ false
from_None true n e = cc
from_None false n e = refl

from_Some : (b : Bool) (m n : ℕ) → cond b (Some m) None ≡ Some n → (b ≡ true) × (m ≡ n)
from_Some true m n e = (refl, cc)
from_Some false m n e = cc

-- a list that is cut nowhere is the one part
pub parts_uncut : (p : ℕ → Bool) (xs : List ℕ) → position p xs ≡ None → slice_split p xs ≡ xs ∷ []
parts_uncut p xs e =
    let never = from_None (nat_lt (position_or_len p xs) (length xs)) (position_or_len p xs) e in
    let long : length xs ≤ position_or_len p xs = grind (arith, nat_tests, never) in
    slice_split_none p xs (λ k d lt. fails_before_first p xs k d (omega (arith, long, lt)))

-- the first part ends at the first place
pub parts_cut : (p : ℕ → Bool) (xs : List ℕ) (n : ℕ) → position p xs ≡ Some n → (n < length xs) × (slice_split p xs ≡ take n xs ∷ slice_split p (drop (n + 1) xs))
parts_cut p xs n e =
    let found = from_Some (nat_lt (position_or_len p xs) (length xs)) (position_or_len p xs) n e in
    let lt : position_or_len p xs < length xs = grind (arith, nat_tests, found.0) in
    (omega (arith, lt, found.1), subst (λ m. slice_split p xs ≡ take m xs ∷ slice_split p (drop (m + 1) xs)) found.1 (slice_split_first p xs 0 lt))

-- there is always a part
pub some_part : (p : ℕ → Bool) (xs : List ℕ) → 0 < length (slice_split p xs)
some_part p xs = omega (arith, length-slice_split p xs)

-- what a mapped option says of the option
from_mapped_None : {A : Type 0} (f : ℕ → A) (o : Option ℕ) → option_map f o ≡ None → o ≡ None
from_mapped_None f None e = refl
from_mapped_None f (Some n) e = cc

pub from_mapped_Some : {A : Type 0} (f : ℕ → A) (o : Option ℕ) (x : A) → option_map f o ≡ Some x → (n : ℕ) × (o ≡ Some n) × (f n ≡ x)
from_mapped_Some f None x e = cc
from_mapped_Some f (Some n) x e = (n, refl, cc)

-- the same two, where a list is cut at a byte
pub parts_uncut_at : (byte : ℕ) (xs : List ℕ) → cut_once byte xs ≡ None → slice_split (λ b. eqb b byte) xs ≡ xs ∷ []
parts_uncut_at byte xs e = parts_uncut (λ b. eqb b byte) xs (from_mapped_None (λ at. (take at xs, drop (at + 1) xs)) (position (λ b. eqb b byte) xs) e)

pub parts_cut_at : (byte : ℕ) (xs front back : List ℕ) → cut_once byte xs ≡ Some (front, back) → (length back < length xs) × (slice_split (λ b. eqb b byte) xs ≡ front ∷ slice_split (λ b. eqb b byte) back)
parts_cut_at byte xs front back e =
    let found = from_mapped_Some (λ at. (take at xs, drop (at + 1) xs)) (position (λ b. eqb b byte) xs) (front, back) e in
    let cut = parts_cut (λ b. eqb b byte) xs found.0 found.1 in
    let is_front : take found.0 xs ≡ front = ap (λ (p : List ℕ × List ℕ). p.0) found.2 in
    let is_back : drop (found.0 + 1) xs ≡ back = ap (λ (p : List ℕ × List ℕ). p.1) found.2 in (
      omega (arith, cut.0, ap length is_back, length-drop (found.0 + 1) xs),
      cut.1 ∙ ap (λ (f : List ℕ). f ∷ slice_split (λ b. eqb b byte) (drop (found.0 + 1) xs)) is_front ∙ ap (λ (b : List ℕ). front ∷ slice_split (λ b. eqb b byte) b) is_back,
    )
