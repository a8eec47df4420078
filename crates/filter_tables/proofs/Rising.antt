-- Numbers that rise: where one stands, one more and one fewer, and the lowest that is missing.
use Rattle.std.proofs.Common.{◌≡◌, ℕ, ◌+◌, ◌-◌, ◌⊎◌, zero, suc, ◌<◌, ◌≤◌, ◌==◌, Bool, true, false, cond, ltb, List, [], ◌∷◌, length, get_or, refl, sym, ap, ◌∙◌, inl, inr, subst, arith}
use Rattle.std.specs.List.{All, count_by, insert, remove}
use Rattle.std.specs.List.Sorted.{IsPartitionedBy}
use Rattle.std.proofs.lemmas.Bool.{cases_lt, cases_Bool, eqb-true, eq-eqb}
use Rattle.std.proofs.lemmas.Bool.Decides.{nat_tests}
use Rattle.std.proofs.lemmas.List.Edits.{length-insert, get_or-insert_below, get_or-insert_at, get_or-insert_above}
use Rattle.std.proofs.lemmas.List.Sums.{sum_by-remove}
use Rattle.filter_tables.specs.Handles.{IsRising, IsPlaceFor, times}
use Rattle.filter_tables.proofs.Counts.{count_cons, none_count, count_some, some_count}

below : (a b number : ℕ) → a ≤ b → ltb b number ≡ true → ltb a number ≡ true
below a b number le less = grind (arith, nat_tests)

pub rising_parts : (number : ℕ) (ns : List ℕ) → IsRising ns → IsPartitionedBy (λ n. ltb n number) ns
rising_parts number ns rising = λ i j d le within less.
    elim (cases_lt i j) [
      | inl first ↦ (let step = rising i j d first within in below (get_or ns i d) (get_or ns j d) number (omega arith) less)
      | inr same ↦
          let e : j ≡ i = omega (arith, le, same) in
          let P : ℕ → Type 0 = λ k. ltb (get_or ns k d) number ≡ true in
          subst P e less
    ]

-- ---- the place of a number that is there
is_low : (n number : ℕ) → ltb n number ≡ true → n < number
is_low n number e = grind (arith, nat_tests)

is_high : (n number : ℕ) → ltb n number ≡ false → number ≤ n
is_high n number e = grind (arith, nat_tests)

pub there_at : (number : ℕ) (ns : List ℕ) (at : ℕ) → IsRising ns → IsPlaceFor number ns at → 0 < times number ns →
    (at < length ns) × ((d : ℕ) → get_or ns at d ≡ number)
there_at number ns at rising place some =
    let k = some_count (λ n. n == number) ns some in
    let is : (d : ℕ) → get_or ns k.0 d ≡ number = λ d. eqb-true (get_or ns k.0 d) number (k.2 d) in
    elim (cases_lt k.0 at) [
      | inl less ↦ (let low = is_low (get_or ns k.0 0) number (place.1.0 k.0 0 (omega arith) less) in let e = is 0 in absurd (omega arith))
      | inr up ↦ elim (cases_lt at k.0) [
        | inl more ↦
            let step = rising at k.0 0 more k.1 in
            let high = is_high (get_or ns at 0) number (place.1.1 at 0 (omega arith) (omega (arith, more, k.1))) in
            let e = is 0 in
            absurd (omega arith)
        | inr le ↦
            let same : k.0 ≡ at = omega (arith, up, le) in
            let P : ℕ → Type 0 = λ i. (i < length ns) × ((d : ℕ) → get_or ns i d ≡ number) in
            subst P same (k.1, is)
      ]
    ]

pub fewer_counts : (number : ℕ) (ns : List ℕ) (at : ℕ) → at < length ns → ((d : ℕ) → get_or ns at d ≡ number) → (test : ℕ → Bool) →
    count_by test (remove ns at) + cond (test number) 1 0 ≡ count_by test ns
fewer_counts number ns at within is test =
    let part = sum_by-remove (λ n. cond (test n) 1 0) ns at 0 within in
    let one = ap (λ n. cond {A = ℕ} (test n) 1 0) (is 0) in
    omega (arith, part, one)

-- ---- no number stands twice
rising_tail : (n : ℕ) (ns : List ℕ) → IsRising (n ∷ ns) → IsRising ns
rising_tail n ns rising = λ i j d less within. rising (suc i) (suc j) d (omega arith) (omega arith)

all_none : (test : ℕ → Bool) (ns : List ℕ) → All (λ n. test n ≡ false) ns → count_by test ns ≡ 0
all_none test [] none = refl
all_none test (n ∷ ns) none =
    let first : test n ≡ false = none 0 n (omega arith) in
    let rest = all_none test ns (λ k d within. none (suc k) d (omega arith)) in
    count_cons test n ns ∙ rw first (omega (arith, rest))

higher_other : (n m number : ℕ) → n < m → (n == number) ≡ true → (m == number) ≡ false
higher_other n m number less is = grind (arith, nat_tests)

pub few_times : (number : ℕ) (ns : List ℕ) → IsRising ns → times number ns ≤ 1
few_times number [] rising = omega arith
few_times number (n ∷ ns) rising = elim (cases_Bool (n == number)) [
  | inl is ↦
      let rest = all_none (λ m. m == number) ns (λ k d within. higher_other n (get_or ns k d) number (rising 0 (suc k) d (omega arith) (omega arith)) is) in
      let e : times number (n ∷ ns) ≡ 1 = count_cons (λ m. m == number) n ns ∙ rw is (omega (arith, rest)) in
      omega (arith, e)
  | inr other ↦
      let rest = few_times number ns (rising_tail n ns rising) in
      let e : times number (n ∷ ns) ≡ times number ns = count_cons (λ m. m == number) n ns ∙ rw other (omega arith) in
      omega (arith, e, rest)
]

-- ---- one number more
other_than : (n number : ℕ) → (n == number) ≡ false → ltb n number ≡ false → number < n
other_than n number other high = grind (arith, nat_tests)

-- where an element of the longer list came from
abbrev Spot : List ℕ → ℕ → ℕ → ℕ → ℕ → Type 0
Spot ns at number i d =
    ((i < at) × (get_or (insert ns at number) i d ≡ get_or ns i d))
    ⊎ (((i ≡ at) × (get_or (insert ns at number) i d ≡ number))
    ⊎ ((k : ℕ) × (i ≡ k + 1) × (at ≤ k) × (get_or (insert ns at number) i d ≡ get_or ns k d)))

spot : (ns : List ℕ) (at number i d : ℕ) → at ≤ length ns → Spot ns at number i d
spot ns at number i d within = elim (cases_lt i at) [
  | inl low ↦ inl (low, get_or-insert_below ns at number d i low within)
  | inr up ↦ elim (cases_lt at i) [
    | inl more ↦
        let e : i ≡ (i - 1) + 1 = omega arith in
        let above : at ≤ i - 1 = omega arith in
        inr (inr (i - 1, e, above, ap (λ n. get_or (insert ns at number) n d) e ∙ get_or-insert_above ns at number d (i - 1) above within))
    | inr le ↦
        let e : i ≡ at = omega (arith, up, le) in
        inr (inl (e, ap (λ n. get_or (insert ns at number) n d) e ∙ get_or-insert_at ns at number d within))
  ]
]

pub more_rising : (number : ℕ) (ns : List ℕ) (at : ℕ) → IsRising ns → IsPlaceFor number ns at → times number ns ≡ 0 → IsRising (insert ns at number)
more_rising number ns at rising place new = λ i j d less within.
    let long = length-insert ns at number place.0 in
    let none = none_count (λ n. n == number) ns new in
    let low : (k : ℕ) → k < at → get_or ns k d < number = λ k first. is_low (get_or ns k d) number (place.1.0 k d (omega arith) first) in
    let high : (k : ℕ) → at ≤ k → k < length ns → number < get_or ns k d =
    λ k up inside. other_than (get_or ns k d) number (none k d inside) (place.1.1 k d up inside) in
    elim (spot ns at number j d place.0) [
      | inl b ↦ elim (spot ns at number i d place.0) [
        | inl a ↦ (let step = rising i j d less (omega (arith, b.0, place.0)) in omega (arith, a.1, b.1, step))
        | inr rest ↦ elim rest [ inl a ↦ absurd (omega (arith, a.0, b.0, less)) | inr a ↦ absurd (omega (arith, a.1, a.2, b.0, less)) ]
      ]
      | inr others ↦ elim others [
        | inl b ↦ elim (spot ns at number i d place.0) [
          | inl a ↦ (let step = low i a.0 in omega (arith, a.1, b.1, step))
          | inr rest ↦ elim rest [ inl a ↦ absurd (omega (arith, a.0, b.0, less)) | inr a ↦ absurd (omega (arith, a.1, a.2, b.0, less)) ]
        ]
        | inr b ↦
            let inside : b.0 < length ns = omega (arith, b.1, within, long) in
            let up = high b.0 b.2 inside in
            elim (spot ns at number i d place.0) [
              | inl a ↦ (let step = rising i b.0 d (omega (arith, a.0, b.2)) inside in omega (arith, a.1, b.3, step))
              | inr rest ↦ elim rest [
                | inl a ↦ omega (arith, a.1, b.3, up)
                | inr a ↦ (let step = rising a.0 b.0 d (omega (arith, a.1, b.1, less)) inside in omega (arith, a.3, b.3, step))
              ]
            ]
      ]
    ]

-- ---- the lowest number from 1 that is missing
zero_other : (n : ℕ) → (n == 0) ≡ false → 1 ≤ n
zero_other n other = grind (arith, nat_tests)

at_least : (ns : List ℕ) (k d : ℕ) → IsRising ns → times 0 ns ≡ 0 → k < length ns → k + 1 ≤ get_or ns k d
at_least ns zero d rising none within = zero_other (get_or ns 0 d) (none_count (λ n. n == 0) ns none 0 d within)
at_least ns (suc k) d rising none within =
    let rest = at_least ns k d rising none (omega arith) in
    let step = rising k (suc k) d (omega arith) within in
    omega (arith, rest, step)

gap : (ns : List ℕ) (i n d : ℕ) → IsRising ns → i + n < length ns → get_or ns i d + n ≤ get_or ns (i + n) d
gap ns i zero d rising within =
    let e : i + 0 ≡ i = omega arith in
    let P : ℕ → Type 0 = λ k. get_or ns i d + 0 ≤ get_or ns k d in
    subst P (sym e) (omega arith)
gap ns i (suc n) d rising within =
    let rest = gap ns i n d rising (omega arith) in
    let step = rising (i + n) (i + suc n) d (omega arith) within in
    omega (arith, rest, step)

gap_to : (ns : List ℕ) (i j d : ℕ) → IsRising ns → i ≤ j → j < length ns → get_or ns i d + (j - i) ≤ get_or ns j d
gap_to ns i j d rising le within =
    let e : i + (j - i) ≡ j = omega arith in
    let P : ℕ → Type 0 = λ k. get_or ns i d + (j - i) ≤ get_or ns k d in
    subst P e (gap ns i (j - i) d rising (omega arith))

-- all numbers before one that is as high as its place are so too
pub full_before : (ns : List ℕ) (middle : ℕ) → IsRising ns → times 0 ns ≡ 0 → middle < length ns → ((d : ℕ) → get_or ns middle d ≡ middle + 1) →
    (k d : ℕ) → k < middle + 1 → get_or ns k d ≡ k + 1
full_before ns middle rising none within is k d less =
    let low = at_least ns k d rising none (omega arith) in
    let step = gap_to ns k middle d rising (omega arith) within in
    let e = is d in
    omega (arith, low, step, e)

-- and all behind one that is higher are higher
pub high_behind : (ns : List ℕ) (middle : ℕ) → IsRising ns → times 0 ns ≡ 0 → middle < length ns → ((d : ℕ) → get_or ns middle d ≡ middle + 1 → ⊥) →
    (k d : ℕ) → middle ≤ k → k < length ns → k + 1 < get_or ns k d
high_behind ns middle rising none within other k d up inside =
    let low = at_least ns middle d rising none within in
    let step = gap_to ns middle k d rising up inside in
    let higher : middle + 1 < get_or ns middle d =
    elim (cases_lt (middle + 1) (get_or ns middle d)) [ inl more ↦ more | inr le ↦ absurd (other d (omega (arith, low, le))) ] in
    omega (arith, low, step, higher)

unlike : (n number : ℕ) → (n ≡ number → ⊥) → (n == number) ≡ false
unlike n number other = elim (cases_Bool (n == number)) [ inl same ↦ absurd (other (eqb-true n number same)) | inr differ ↦ differ ]

pub free_number : (ns : List ℕ) (low : ℕ) → ((k d : ℕ) → k < low → get_or ns k d ≡ k + 1) → ((k d : ℕ) → low ≤ k → k < length ns → k + 1 < get_or ns k d) →
    times (low + 1) ns ≡ 0
free_number ns low full high =
    all_none (λ n. n == low + 1) ns (λ k d within. unlike (get_or ns k d) (low + 1) (λ same.
    elim (cases_lt k low) [
      | inl less ↦ (let e = full k d less in omega (arith, e, same, less))
      | inr up ↦ (let more = high k d up within in omega (arith, more, same, up))
    ]))

pub used_below : (ns : List ℕ) (low : ℕ) → low ≤ length ns → ((k d : ℕ) → k < low → get_or ns k d ≡ k + 1) →
    (lower : ℕ) → 1 ≤ lower → lower < low + 1 → 0 < times lower ns
used_below ns low within full lower one less =
    let e : get_or ns (lower - 1) 0 ≡ lower = (let is = full (lower - 1) 0 (omega arith) in omega (arith, is, one)) in
    count_some (λ n. n == lower) ns (lower - 1) 0 (omega (arith, within, one, less)) (eq-eqb (get_or ns (lower - 1) 0) lower e)
