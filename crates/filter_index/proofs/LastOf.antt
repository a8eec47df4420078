-- The last slot whose digest passes a test.
use Rattle.std.proofs.Common.{◌≡◌, ℕ, zero, suc, ◌<◌, ◌≤◌, ◌==◌, Bool, true, false, cond, List, length, get_or, set, Option, Some, None, refl, sym, ap, ap₂, ◌∙◌, subst, inl, inr, arith}
use Rattle.std.proofs.lemmas.Bool.{cases_Bool, false≢true, eqb-true, eqb-false}
use Rattle.std.proofs.lemmas.List.{get_or-set_same, get_or-set_other}
use Rattle.filter_index.specs.Chains.{passes, last_of}

-- ---- one slot more
pub last_here : (test : ℕ → Bool) (ds : List (Option ℕ)) (n : ℕ) → passes test (get_or ds n None) ≡ true → last_of test ds (suc n) ≡ suc n
last_here test ds n e = rw e refl

pub last_not_here : (test : ℕ → Bool) (ds : List (Option ℕ)) (n : ℕ) → passes test (get_or ds n None) ≡ false → last_of test ds (suc n) ≡ last_of test ds n
last_not_here test ds n e = rw e refl

pub last_le : (test : ℕ → Bool) (ds : List (Option ℕ)) (n : ℕ) → last_of test ds n ≤ n
last_le test ds zero = omega arith
last_le test ds (suc n) = elim (cases_Bool (passes test (get_or ds n None))) [
  | inl e ↦ omega (arith, last_here test ds n e)
  | inr e ↦ omega (arith, last_not_here test ds n e, last_le test ds n)
]

-- ---- a slot that passes is the last, or before it
pub reaches : (test : ℕ → Bool) (ds : List (Option ℕ)) (k n : ℕ) → k < n → passes test (get_or ds k None) ≡ true → suc k ≤ last_of test ds n
reaches test ds k zero within is = absurd (omega arith)
reaches test ds k (suc n) within is = elim (cases_Bool (passes test (get_or ds n None))) [
  | inl e ↦ omega (arith, last_here test ds n e)
  | inr e ↦ elim (cases_Bool (k == n)) [
    | inl same ↦ absurd (false≢true (sym e ∙ ap (λ j. passes test (get_or ds j None)) (sym (eqb-true k n same)) ∙ is))
    | inr differs ↦
        let other = eqb-false k n differs in
        let before : k < n = omega (arith, other) in
        omega (arith, last_not_here test ds n e, reaches test ds k n before is)
  ]
]

pub none_from : (test : ℕ → Bool) (ds : List (Option ℕ)) (j n : ℕ) → last_of test ds n ≤ j → j < n → passes test (get_or ds j None) ≡ false
none_from test ds j n from within = elim (cases_Bool (passes test (get_or ds j None))) [
  | inl e ↦ absurd (omega (arith, reaches test ds j n within e))
  | inr e ↦ e
]

pub at_last : (test : ℕ → Bool) (ds : List (Option ℕ)) (n k : ℕ) → last_of test ds n ≡ suc k → passes test (get_or ds k None) ≡ true
at_last test ds zero k is = cc
at_last test ds (suc n) k is = elim (cases_Bool (passes test (get_or ds n None))) [
  | inl e ↦
      let same : n ≡ k = omega (arith, last_here test ds n e) in
      subst (λ j. passes test (get_or ds j None) ≡ true) same e
  | inr e ↦ at_last test ds n k (sym (last_not_here test ds n e) ∙ is)
]

pub last_again : (test : ℕ → Bool) (ds : List (Option ℕ)) (n : ℕ) → last_of test ds (last_of test ds n) ≡ last_of test ds n
last_again test ds zero = refl
last_again test ds (suc n) = elim (cases_Bool (passes test (get_or ds n None))) [
  | inl e ↦ ap (last_of test ds) (last_here test ds n e)
  | inr e ↦ ap (last_of test ds) (last_not_here test ds n e) ∙ last_again test ds n ∙ sym (last_not_here test ds n e)
]

-- ---- slots that are alike, and tests of which one is narrower
pub last_alike : (test : ℕ → Bool) (xs ys : List (Option ℕ)) (n : ℕ) → ((k : ℕ) → k < n → get_or xs k None ≡ get_or ys k None) → last_of test xs n ≡ last_of test ys n
last_alike test xs ys zero same = refl
last_alike test xs ys (suc n) same =
    ap₂ (λ o rest. cond (passes test o) (suc n) rest) (same n (omega arith)) (last_alike test xs ys n (λ k within. same k (omega arith)))

fails_too : (wide narrow : ℕ → Bool) (o : Option ℕ) → ((d : ℕ) → narrow d ≡ true → wide d ≡ true) → passes wide o ≡ false → passes narrow o ≡ false
fails_too wide narrow None implies e = refl
fails_too wide narrow (Some d) implies e = elim (cases_Bool (narrow d)) [
  | inl is ↦ absurd (false≢true (sym e ∙ implies d is))
  | inr not ↦ not
]

pub last_narrow : (wide narrow : ℕ → Bool) (ds : List (Option ℕ)) (n : ℕ) → ((d : ℕ) → narrow d ≡ true → wide d ≡ true) →
    last_of narrow ds n ≡ last_of narrow ds (last_of wide ds n)
last_narrow wide narrow ds zero implies = refl
last_narrow wide narrow ds (suc n) implies = elim (cases_Bool (passes wide (get_or ds n None))) [
  | inl e ↦ sym (ap (last_of narrow ds) (last_here wide ds n e))
  | inr e ↦
      last_not_here narrow ds n (fails_too wide narrow (get_or ds n None) implies e) ∙ last_narrow wide narrow ds n implies
      ∙ sym (ap (last_of narrow ds) (last_not_here wide ds n e))
]

-- ---- a slot that is emptied
module _ (test : ℕ → Bool) (ds : List (Option ℕ)) (slot : ℕ) (there : slot < length ds) where
  empty_here : (n : ℕ) → n ≡ slot → passes test (get_or (set ds slot None) n None) ≡ false
  empty_here n same = ap (λ j. passes test (get_or (set ds slot None) j None)) same ∙ ap (passes test) (get_or-set_same ds slot None None there)

  as_before : (n : ℕ) → (n ≡ slot → ⊥) → passes test (get_or (set ds slot None) n None) ≡ passes test (get_or ds n None)
  as_before n other = ap (passes test) (get_or-set_other ds slot n None None other)

  pub last_kept : (n : ℕ) → (last_of test ds n ≡ suc slot → ⊥) → last_of test (set ds slot None) n ≡ last_of test ds n
  last_kept zero other = refl
  last_kept (suc n) other = elim (cases_Bool (passes test (get_or ds n None))) [
    | inl e ↦
        let elsewhere : n ≡ slot → ⊥ = λ same. other (last_here test ds n e ∙ ap suc same) in
        last_here test (set ds slot None) n (as_before n elsewhere ∙ e) ∙ sym (last_here test ds n e)
    | inr e ↦
        let rest = last_kept n (λ is. other (last_not_here test ds n e ∙ is)) in
        elim (cases_Bool (n == slot)) [
          | inl same ↦ last_not_here test (set ds slot None) n (empty_here n (eqb-true n slot same)) ∙ rest ∙ sym (last_not_here test ds n e)
          | inr differs ↦ last_not_here test (set ds slot None) n (as_before n (eqb-false n slot differs) ∙ e) ∙ rest ∙ sym (last_not_here test ds n e)
        ]
  ]

  pub last_passed_on : (n : ℕ) → last_of test ds n ≡ suc slot → last_of test (set ds slot None) n ≡ last_of test ds slot
  last_passed_on zero is = cc
  last_passed_on (suc n) is = elim (cases_Bool (n == slot)) [
    | inl same ↦
        let here = eqb-true n slot same in
        last_not_here test (set ds slot None) n (empty_here n here) ∙ last_kept n (λ e. absurd (omega (arith, last_le test ds n, here, e))) ∙ ap (last_of test ds) here
    | inr differs ↦ elim (cases_Bool (passes test (get_or ds n None))) [
      | inl e ↦ absurd (let other = eqb-false n slot differs in omega (arith, last_here test ds n e, other))
      | inr e ↦
          last_not_here test (set ds slot None) n (as_before n (eqb-false n slot differs) ∙ e)
          ∙ last_passed_on n (sym (last_not_here test ds n e) ∙ is)
    ]
  ]
