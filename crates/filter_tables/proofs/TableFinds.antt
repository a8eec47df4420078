-- The table that a search by halving finds, and where it puts one more.
use Rattle.std.proofs.Common.{◌≡◌, ℕ, zero, suc, ◌<◌, ◌≤◌, Bool, true, false, ◌==◌, List, [], ◌∷◌, length, get_or, Some, None, refl, sym, ap, ◌∙◌, inl, inr, subst, arith}
use Rattle.std.specs.Prelude.{map, find, option_map}
use Rattle.std.specs.List.{insert}
use Rattle.std.proofs.lemmas.Bool.{cases_lt}
use Rattle.std.proofs.lemmas.Bool.Decides.{nat_tests}
use Rattle.filter_tables.specs.Plain.{PlainTable}
use Rattle.filter_tables.specs.Places.{place_where}
use Rattle.filter_tables.specs.Room.{AreRising}
use Rattle.filter_tables.specs.Changes.{comes_before, is_table, with_table}
use Rattle.filter_tables.specs.TablePlaces.{is_ahead}
use Rattle.filter_tables.proofs.TableOrder.{rising_at}

-- ---- the first that passes
place_here : {X Y : Type 0} (f : X → Y) (test : Y → Bool) (xs : List X) (at : ℕ) → at < length xs → ((d : X) → test (f (get_or xs at d)) ≡ true) →
    ((k : ℕ) (d : X) → k < at → test (f (get_or xs k d)) ≡ false) → place_where test (map f xs) ≡ Some at
place_here f test [] at within here before = absurd (omega arith)
place_here f test (x ∷ xs) zero within here before = let first : test (f x) ≡ true = here x in rw first refl
place_here f test (x ∷ xs) (suc at) within here before =
    let first : test (f x) ≡ false = before 0 x (omega arith) in
    rw first (ap (option_map suc) (place_here f test xs at (omega arith) here (λ k d less. before (suc k) d (omega arith))))

place_nowhere : {X Y : Type 0} (f : X → Y) (test : Y → Bool) (xs : List X) → ((k : ℕ) (d : X) → k < length xs → test (f (get_or xs k d)) ≡ false) →
    place_where test (map f xs) ≡ None
place_nowhere f test [] none = refl
place_nowhere f test (x ∷ xs) none =
    let first : test (f x) ≡ false = none 0 x (omega arith) in
    rw first (ap (option_map suc) (place_nowhere f test xs (λ k d within. none (suc k) d (omega arith))))

find_here : {X Y : Type 0} (f : X → Y) (test : Y → Bool) (xs : List X) (at : ℕ) (x : X) → at < length xs → x ≡ get_or xs at x → test (f x) ≡ true →
    ((k : ℕ) (d : X) → k < at → test (f (get_or xs k d)) ≡ false) → find test (map f xs) ≡ Some (f x)
find_here f test [] at x within read here before = absurd (omega arith)
find_here f test (y ∷ ys) zero x within read here before =
    let first : test (f y) ≡ true = ap (λ z. test (f z)) (sym read) ∙ here in
    rw first (ap (λ z. Some (f z)) (sym read))
find_here f test (y ∷ ys) (suc at) x within read here before =
    let first : test (f y) ≡ false = before 0 y (omega arith) in
    rw first (find_here f test ys at x (omega arith) read here (λ k d less. before (suc k) d (omega arith)))

find_nowhere : {X Y : Type 0} (f : X → Y) (test : Y → Bool) (xs : List X) → ((k : ℕ) (d : X) → k < length xs → test (f (get_or xs k d)) ≡ false) →
    find test (map f xs) ≡ None
find_nowhere f test [] none = refl
find_nowhere f test (x ∷ xs) none =
    let first : test (f x) ≡ false = none 0 x (omega arith) in
    rw first (find_nowhere f test xs (λ k d within. none (suc k) d (omega arith)))

-- ---- tables beside the place for a chain and pref
ahead_other : (chain pref : ℕ) (t : PlainTable) → is_ahead chain pref t ≡ true → is_table chain pref t ≡ false
ahead_other chain pref t ahead = grind (arith, nat_tests)

behind_other : (chain pref : ℕ) (t u : PlainTable) → is_ahead chain pref t ≡ false → comes_before t u ≡ true → is_table chain pref u ≡ false
behind_other chain pref t u behind tu = grind (arith, nat_tests)

ahead_chain : (chain : ℕ) (t : PlainTable) → is_ahead chain 0 t ≡ true → (t.chain == chain) ≡ false
ahead_chain chain t ahead = grind (arith, nat_tests)

behind_chain : (chain : ℕ) (t u : PlainTable) → is_ahead chain 0 t ≡ false → (t.chain == chain) ≡ false → comes_before t u ≡ true → (u.chain == chain) ≡ false
behind_chain chain t u behind other tu = grind (arith, nat_tests)

module _ {X : Type 0} (f : X → PlainTable) (chain pref : ℕ) (xs : List X) (at : ℕ) (low : (k : ℕ) (d : X) → k < at → is_ahead chain pref (f (get_or xs k d)) ≡ true)
    (high : (k : ℕ) (d : X) → at ≤ k → k < length xs → is_ahead chain pref (f (get_or xs k d)) ≡ false) (rising : AreRising (map f xs)) where
  pub table_here : at < length xs → ((d : X) → is_table chain pref (f (get_or xs at d)) ≡ true) → place_where (is_table chain pref) (map f xs) ≡ Some at
  table_here within here =
      place_here f (is_table chain pref) xs at within here (λ k d less. ahead_other chain pref (f (get_or xs k d)) (low k d less))

  pub table_nowhere : (at < length xs → (d : X) → is_table chain pref (f (get_or xs at d)) ≡ false) → place_where (is_table chain pref) (map f xs) ≡ None
  table_nowhere not_here = place_nowhere f (is_table chain pref) xs (λ k d within.
      elim (cases_lt k at) [
        | inl less ↦ ahead_other chain pref (f (get_or xs k d)) (low k d less)
        | inr up ↦ elim (cases_lt at k) [
          | inl more ↦
              behind_other chain pref (f (get_or xs at d)) (f (get_or xs k d)) (high at d (omega arith) (omega arith)) (rising_at f xs at k d rising more within)
          | inr le ↦
              let e : at ≡ k = omega (arith, up, le) in
              let P : ℕ → Type 0 = λ n. is_table chain pref (f (get_or xs n d)) ≡ false in
              subst P e (not_here (omega arith) d)
        ]
      ])

module _ {X : Type 0} (f : X → PlainTable) (chain : ℕ) (xs : List X) (at : ℕ) (low : (k : ℕ) (d : X) → k < at → is_ahead chain 0 (f (get_or xs k d)) ≡ true)
    (high : (k : ℕ) (d : X) → at ≤ k → k < length xs → is_ahead chain 0 (f (get_or xs k d)) ≡ false) (rising : AreRising (map f xs)) where
  pub pref_here : (x : X) → at < length xs → x ≡ get_or xs at x → ((f x).chain == chain) ≡ true →
      option_map (λ (t : PlainTable). t.pref) (find (λ t. t.chain == chain) (map f xs)) ≡ Some (f x).pref
  pref_here x within read here =
      ap (option_map (λ (t : PlainTable). t.pref)) (find_here f (λ t. t.chain == chain) xs at x within read here
      (λ k d less. ahead_chain chain (f (get_or xs k d)) (low k d less)))

  pub pref_nowhere : (at < length xs → (d : X) → ((f (get_or xs at d)).chain == chain) ≡ false) →
      option_map (λ (t : PlainTable). t.pref) (find (λ t. t.chain == chain) (map f xs)) ≡ None
  pref_nowhere not_here =
      ap (option_map (λ (t : PlainTable). t.pref)) (find_nowhere f (λ t. t.chain == chain) xs (λ k d within.
      elim (cases_lt k at) [
        | inl less ↦ ahead_chain chain (f (get_or xs k d)) (low k d less)
        | inr up ↦ elim (cases_lt at k) [
          | inl more ↦
              behind_chain chain (f (get_or xs at d)) (f (get_or xs k d)) (high at d (omega arith) (omega arith)) (not_here (omega arith) d)
              (rising_at f xs at k d rising more within)
          | inr le ↦
              let e : at ≡ k = omega (arith, up, le) in
              let P : ℕ → Type 0 = λ n. ((f (get_or xs n d)).chain == chain) ≡ false in
              subst P e (not_here (omega arith) d)
        ]
      ]))

-- ---- one table more
pub inserted : {X : Type 0} (f : X → PlainTable) (x : X) (xs : List X) (at : ℕ) → at ≤ length xs →
    ((k : ℕ) (d : X) → k < at → comes_before (f (get_or xs k d)) (f x) ≡ true) →
    ((d : X) → at < length xs → comes_before (f (get_or xs at d)) (f x) ≡ false) → map f (insert xs at x) ≡ with_table (f x) (map f xs)
inserted f x [] zero within low high = refl
inserted f x [] (suc at) within low high = absurd (omega arith)
inserted f x (y ∷ ys) zero within low high = let first : comes_before (f y) (f x) ≡ false = high y (omega arith) in rw first refl
inserted f x (y ∷ ys) (suc at) within low high =
    let first : comes_before (f y) (f x) ≡ true = low 0 y (omega arith) in
    rw first (ap (λ rest. f y ∷ rest) (inserted f x ys at (omega arith) (λ k d less. low (suc k) d (omega arith)) (λ d inside. high d (omega arith))))
