-- Decimal digits of which the last ones are 9: those of the next number.
use Rattle.std.proofs.Common.{◌≡◌, ℕ, zero, suc, ◌+◌, ◌-◌, ◌/◌, ◌%◌, ◌^◌, ◌<◌, ◌≤◌, ◌⊎◌, List, [], ◌∷◌}
use Rattle.std.proofs.Common.{◌++◌, length, get_or, set, take, drop, refl, sym, ap, ap₂, ◌∙◌, subst, inl}
use Rattle.std.proofs.Common.{inr, arith, append_assoc}
use Rattle.std.specs.Prelude.{decimal}
use Rattle.std.proofs.Math.ListN.{replicate}
use Rattle.std.proofs.Math.Seq.{take-suc, drop-cons, set-append_seam, get_or-append_seam}
use Rattle.std.proofs.lemmas.List.{length-append, length-take, length-drop, length-replicate}
use Rattle.std.proofs.lemmas.List.{set-append_left, set-append_right, get_or_append_left}
use Rattle.std.proofs.lemmas.List.{get_or-append_right, length-set, take-append-drop, take_all, append-nil}
use Rattle.std.proofs.lemmas.List.{get_or-drop}
use Rattle.std.proofs.lemmas.Fmt.{decimal_digit, decimal_step, decimal_by_steps}

-- ---- the last of some numbers
snoc_parts : (xs ys : List ℕ) (x y : ℕ) → xs ++ x ∷ [] ≡ ys ++ y ∷ [] → (xs ≡ ys) × (x ≡ y)
snoc_parts [] [] x y e = (refl, cc)
snoc_parts [] (b ∷ []) x y e = cc
snoc_parts [] (b ∷ c ∷ ys) x y e = cc
snoc_parts (a ∷ []) [] x y e = cc
snoc_parts (a ∷ c ∷ xs) [] x y e = cc
snoc_parts (a ∷ xs) (b ∷ ys) x y e =
    let first : a ≡ b = cc in
    let rest : xs ++ x ∷ [] ≡ ys ++ y ∷ [] = cc in
    let parts = snoc_parts xs ys x y rest in
    (ap₂ ◌∷◌ first parts.0, parts.1)

repeated_last : (k x : ℕ) → replicate (suc k) x ≡ replicate k x ++ x ∷ []
repeated_last zero x = refl
repeated_last (suc k) x = ap (λ xs. x ∷ xs) (repeated_last k x)

with_last : (front : List ℕ) (d k x : ℕ) → front ++ d ∷ replicate (suc k) x ≡ (front
    ++ d ∷ replicate k x) ++ x ∷ []
with_last front d k x = ap (λ xs. front ++ d ∷ xs) (repeated_last k x)
    ∙ sym (append_assoc front (d ∷ replicate k x) (x ∷ []))

-- ---- one more
small_or : (n : ℕ) → (n < 10) ⊎ (10 ≤ n)
small_or n = grind arith

next_digit : (front : List ℕ) (d n : ℕ) → n + 1 < 2 ^ 64 → ((n < 10) ⊎ (10 ≤ n)) → front ++ d ∷ []
    ≡ decimal n → d < 57 → front ++ (d + 1) ∷ [] ≡ decimal (n + 1)
next_digit front d n fits (inl small) is below =
    let parts = snoc_parts front [] d (48 + n) (is ∙ decimal_digit n small) in
    let digit : d + 1 ≡ 48 + (n + 1) = omega (arith, parts.1) in
    ap₂ (λ xs x. xs ++ x ∷ []) parts.0 digit ∙ sym (decimal_digit (n + 1) (omega (arith, parts.1)))
next_digit front d n fits (inr large) is below =
    let parts = snoc_parts front (decimal (n / 10)) d (48 + n % 10) (is
    ∙ decimal_step n large (omega arith)) in
    let tens : n / 10 ≡ (n + 1) / 10 = omega (arith, parts.1) in
    let digit : d + 1 ≡ 48 + (n + 1) % 10 = omega (arith, parts.1) in
    ap₂ (λ xs x. xs ++ x ∷ []) (parts.0 ∙ ap decimal tens) digit
    ∙ sym (decimal_step (n + 1) (omega arith) (omega arith))

not_short : (front : List ℕ) (d k x y : ℕ) → front ++ d ∷ replicate (suc k) x ≡ y ∷ [] → ⊥
not_short front d k x y e =
    let long = ap length e in
    omega (arith, long, length-append front (d ∷ replicate (suc k) x))

pub counted_up : (k : ℕ) (front : List ℕ) (d n : ℕ) → n + 1 < 2 ^ 64 → front ++ d ∷ replicate k 57
    ≡ decimal n → d < 57 → front ++ (d + 1) ∷ replicate k 48 ≡ decimal (n + 1)
counted_up zero front d n fits is below = next_digit front d n fits (small_or n) is below
counted_up (suc k) front d n fits is below = elim (small_or n) [
  | inl small ↦ absurd (not_short front d k 57 (48 + n) (is ∙ decimal_digit n small))
  | inr large ↦
      let parts = snoc_parts (front ++ d ∷ replicate k 57) (decimal (n / 10)) 57 (48 + n % 10) (sym
      (with_last front d k 57) ∙ is ∙ decimal_step n large (omega arith)) in
      let tens : n / 10 + 1 ≡ (n + 1) / 10 = omega (arith, parts.1) in
      let digit : 48 ≡ 48 + (n + 1) % 10 = omega (arith, parts.1) in
      with_last front (d + 1) k 48
      ∙ ap₂ (λ xs x. xs ++ x ∷ []) (counted_up k front d (n / 10) (omega arith) parts.0 below
      ∙ ap decimal tens) digit
      ∙ sym (decimal_step (n + 1) (omega arith) (omega arith))
]

-- ---- digits so far
-- digits from there on are 0 now, and were at least 9
pub record AreCarried (was now : List ℕ) (at : ℕ) : Type 0 where
  pub within : at ≤ length was
  pub is : now ≡ take at was ++ replicate (length was - at) 48
  pub nines : (k : ℕ) → at ≤ k → k < length was → 57 ≤ get_or was k 0

pub length_carried : (was now : List ℕ) (at : ℕ) → AreCarried was now at → length now ≡ length was
length_carried was now at so_far =
    let within = so_far.within in
    omega (
      arith,
      ap length so_far.is,
      length-append (take at was) (replicate (length was - at) 48),
      length-take at was,
      length-replicate {A = ℕ} (length was - at) 48,
    )

pub none_carried : (was : List ℕ) → AreCarried was was (length was)
none_carried was = record {
  within = omega arith;
  is =
      let none : length was - length was ≡ 0 = omega arith in
      sym (ap₂ (λ xs k. xs ++ replicate k 48) (take_all (length was) was (omega arith)) none
      ∙ append-nil was);
  nines = λ k from within. absurd (omega arith);
}

-- the digits around one in front of those that are 0
module _ (was now : List ℕ) (at : ℕ) (so_far : AreCarried was now (suc at)) where
  abbrev behind : ℕ
  behind = length was - suc at

  short : length (take at was) ≡ at
  short = let within = so_far.within in omega (arith, length-take at was)

  cut : now ≡ take at was ++ get_or was at 0 ∷ replicate behind 48
  cut =
      let within = so_far.within in
      so_far.is ∙ ap (λ xs. xs ++ replicate behind 48) (take-suc was at 0 (omega arith))
      ∙ append_assoc (take at was) (get_or was at 0 ∷ []) (replicate behind 48)

  pub same_digit : get_or now at 0 ≡ get_or was at 0
  same_digit =
      ap (λ xs. get_or xs at 0) cut
      ∙ subst (λ k. get_or (take at was ++ get_or was at 0 ∷ replicate behind 48) k 0 ≡ get_or was at 0) short
      (get_or-append_seam (take at was) (get_or was at 0) (replicate behind 48) 0)

  pub written : (digit : ℕ) → set now at digit ≡ take at was ++ digit ∷ replicate behind 48
  written digit =
      ap (λ xs. set xs at digit) cut
      ∙ subst (λ k. set (take at was ++ get_or was at 0 ∷ replicate behind 48) k digit ≡ take at was
      ++ digit ∷ replicate behind 48) short
      (set-append_seam (take at was) (get_or was at 0) (replicate behind 48) digit)

  pub one_carried : 57 ≤ get_or now at 0 → AreCarried was (set now at 48) at
  one_carried nine = record {
    within = let within = so_far.within in omega arith;
    is =
        let within = so_far.within in
        let longer : suc behind ≡ length was - at = omega arith in
        written 48 ∙ ap (λ k. take at was ++ replicate k 48) longer;
    nines = λ k from here. nine_from k from here (at_or k);
  }
    where
      at_or : (k : ℕ) → (k ≡ at) ⊎ (suc at ≤ k) ⊎ (k < at)
      at_or k = grind arith

      nine_from : (k : ℕ) → at ≤ k → k < length was → ((k ≡ at) ⊎ (suc at ≤ k) ⊎ (k < at))
          → 57 ≤ get_or was k 0
      nine_from k from here (inl same) = subst (λ j. 57 ≤ get_or was j 0) (sym same) (subst (λ d. 57 ≤ d)
          same_digit nine)
      nine_from k from here (inr (inl after)) = so_far.nines k after here
      nine_from k from here (inr (inr before)) = absurd (omega arith)

-- ---- the number
snoc_most : (most : ℕ) (xs : List ℕ) (x : ℕ) → ((k : ℕ) → get_or xs k 0 ≤ most) → x ≤ most → (k : ℕ)
    → get_or (xs ++ x ∷ []) k 0 ≤ most
snoc_most most [] x all own zero = own
snoc_most most [] x all own (suc k) = omega arith
snoc_most most (y ∷ xs) x all own zero = all 0
snoc_most most (y ∷ xs) x all own (suc k) = snoc_most most xs x (λ j. all (suc j)) own k

nine_at_most : (n : ℕ) → n < 2 ^ 64 → (k : ℕ) → get_or (decimal n) k 0 ≤ 57
nine_at_most n fits =
    decimal_by_steps (λ (m : ℕ) (ds : List ℕ). (k : ℕ) → get_or ds k 0 ≤ 57)
    (λ m small. snoc_most 57 [] (48 + m) (λ k. omega arith) (omega arith))
    (λ m ds large all. snoc_most 57 ds (48 + m % 10) all (omega arith)) n fits

all_nines : (xs : List ℕ) → ((k : ℕ) → k < length xs → 57 ≤ get_or xs k 0) → ((k : ℕ)
    → get_or xs k 0 ≤ 57) → xs ≡ replicate (length xs) 57
all_nines [] least most = refl
all_nines (x ∷ xs) least most =
    let nine : x ≡ 57 = omega (arith, least 0 (omega arith), most 0) in
    ap₂ ◌∷◌ nine (all_nines xs (λ k here. least (suc k) (omega arith)) (λ k. most (suc k)))

nines_behind : (was : List ℕ) (from : ℕ) → from ≤ length was → ((k : ℕ) → from ≤ k → k < length was
    → 57 ≤ get_or was k 0) → ((k : ℕ) → get_or was k 0 ≤ 57) →
    drop from was ≡ replicate (length was - from) 57
nines_behind was from within least most =
    let rest : length (drop from was) ≡ length was - from = omega (arith, length-drop from was) in
    all_nines (drop from was)
    (λ k here. subst (λ d. 57 ≤ d) (sym (get_or-drop from was k 0)) (least (from + k) (omega arith) (omega
    arith)))
    (λ k. subst (λ d. d ≤ 57) (sym (get_or-drop from was k 0)) (most (from + k)))
    ∙ ap (λ k. replicate k 57) rest

pub next_number : (was now : List ℕ) (at n : ℕ) → AreCarried was now (suc at) → get_or now at 0 < 57
    → n + 1 < 2 ^ 64 → was ≡ decimal n → set now at (get_or now at 0 + 1) ≡ decimal (n + 1)
next_number was now at n so_far below fits is =
    let within = so_far.within in
    let most : ((k : ℕ) → get_or was k 0 ≤ 57) = λ k. subst (λ ds. get_or ds k 0 ≤ 57) (sym is) (nine_at_most
    n (omega arith) k) in
    let behind = nines_behind was (suc at) within so_far.nines most in
    let whole = sym (take-append-drop at was) ∙ ap (λ xs. take at was
    ++ xs) (drop-cons was at 0 (omega arith) ∙ ap (λ xs. get_or was at 0 ∷ xs) behind) in
    let digit = same_digit was now at so_far in
    written was now at so_far (get_or now at 0 + 1) ∙ ap (λ d. take at was
    ++ (d + 1) ∷ replicate (length was - suc at) 48) digit
    ∙ counted_up (length was - suc at) (take at was) (get_or was at 0) n fits (sym whole
    ∙ is) (subst (λ d. d < 57) digit below)

-- ---- digits in a text
pub record IsCarriedIn (label was rest now : List ℕ) (at : ℕ) : Type 0 where
  pub digits : List ℕ
  pub is : now ≡ label ++ (digits ++ rest)
  pub from : length label ≤ at
  pub carried : AreCarried was digits (at - length label)

pub begins : (label was rest now : List ℕ) (at : ℕ) → now ≡ label ++ (was ++ rest) → at
    ≡ length label + length was → IsCarriedIn label was rest now at
begins label was rest now at is place = record {
  digits = was;
  is = is;
  from = omega arith;
  carried =
      let whole : length was ≡ at - length label = omega arith in
      subst (AreCarried was was) whole (none_carried was);
}

module _ (label was rest now : List ℕ) (at : ℕ) (so_far : IsCarriedIn label was rest now (suc at)) (behind :
    length label ≤ at) where
  abbrev place : ℕ
  place = at - length label

  at_place : AreCarried was so_far.digits (suc place)
  at_place =
      let same : suc at - length label ≡ suc place = omega arith in
      subst (AreCarried was so_far.digits) same so_far.carried

  within_digits : place < length so_far.digits
  within_digits = let within = at_place.within in omega (
    arith,
    length_carried was so_far.digits (suc place)
        at_place,
  )

  pub in_text : at < length now
  in_text =
      let within = within_digits in
      omega (
        arith,
        ap length so_far.is,
        length-append label (so_far.digits
            ++ rest),
        length-append so_far.digits rest,
      )

  digit_there : get_or now at 0 ≡ get_or so_far.digits place 0
  digit_there =
      ap (λ xs. get_or xs at 0) so_far.is ∙ get_or-append_right label (so_far.digits
      ++ rest) (length label) at 0 refl behind
      ∙ get_or_append_left so_far.digits rest 0 place within_digits

  set_there : (digit : ℕ) → set now at digit ≡ label ++ (set so_far.digits place digit ++ rest)
  set_there digit =
      ap (λ xs. set xs at digit) so_far.is ∙ set-append_right label (so_far.digits
      ++ rest) (length label) at digit refl behind
      ∙ ap (λ xs. label ++ xs) (set-append_left so_far.digits rest place digit within_digits)

  pub carries : 57 ≤ get_or now at 0 → IsCarriedIn label was rest (set now at 48) at
  carries nine = record {
    digits = set so_far.digits place 48;
    is = set_there 48;
    from = behind;
    carried = one_carried was so_far.digits place at_place (subst (λ d. 57 ≤ d) digit_there nine);
  }

  module _ (n : ℕ) (below : get_or now at 0 < 57) (fits : n + 1 < 2 ^ 64) (is : was ≡ decimal n) where
    next_digits : set so_far.digits place (get_or now at 0 + 1) ≡ decimal (n + 1)
    next_digits =
        ap (λ d. set so_far.digits place (d + 1)) digit_there
        ∙ next_number was so_far.digits place n at_place (subst (λ d. d < 57) digit_there below) fits is

    pub counts : set now at (get_or now at 0 + 1) ≡ label ++ (decimal (n + 1) ++ rest)
    counts = set_there (get_or now at 0 + 1) ∙ ap (λ ds. label ++ (ds ++ rest)) next_digits

    pub as_long : length (decimal (n + 1)) ≡ length was
    as_long =
        omega (
          arith,
          ap length next_digits,
          length-set so_far.digits place (get_or now at 0 + 1),
          length_carried was so_far.digits (suc place) at_place,
        )
