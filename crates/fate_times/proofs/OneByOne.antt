-- The times of fates, walk by walk.
use Rattle.std.proofs.Common.{◌≡◌, ◌∙◌, ℕ, zero, suc, ◌+◌, ◌<◌, ◌||◌, Bool, true, false, List, [], ◌∷◌, ◌++◌}
use Rattle.std.proofs.Common.{length, take, drop, set, replicate, slice_get, get_or, Option, Some, refl, sym, ap}
use Rattle.std.proofs.Common.{subst, arith}
use Rattle.std.specs.Prelude.{IfSome}
use Rattle.walk_fate_laws.specs.declared.kinds.When.{When}
use Rattle.walk_fate_laws.specs.declared.kinds.When.TheVariants as whens
use Rattle.walk_fate_laws.specs.Fates.{Fate}
use Rattle.walk_fate_laws.specs.Times.{is_fate, when_by}
use Rattle.fate_search.specs.Found.{Found, fate_found}
use Rattle.fate_times.specs.Marks.{marked_by, times_of, marked}

-- ---- one more time
pub seen_before : (had : Bool) → marked_by had whens.Mixed whens.Before ≡ when_by had false false
seen_before true = refl
seen_before false = refl

pub seen_after : (old had : Bool)
    → marked_by had (when_by old false false) whens.After ≡ when_by old had false
seen_after true true = refl
seen_after true false = refl
seen_after false true = refl
seen_after false false = refl

pub seen_between : (old new middle had : Bool)
    → marked_by had (when_by old new middle) whens.Between ≡ when_by old new (middle || had)
seen_between true true middle true = refl
seen_between true true middle false = refl
seen_between true false middle true = refl
seen_between true false middle false = refl
seen_between false true middle true = refl
seen_between false true middle false = refl
seen_between false false true true = refl
seen_between false false true false = refl
seen_between false false false true = refl
seen_between false false false false = refl

-- ---- of all fates
pub times_same : (one other : Fate → When) (fates : List Found)
    → ((fate : Fate) → one fate ≡ other fate) → times_of one fates ≡ times_of other fates
times_same one other [] same = refl
times_same one other (found ∷ fates) same =
    let rest = times_same one other fates same in let first = same (fate_found found) in
    λ x. first x ∷ rest x

pub times_length : (when : Fate → When) (fates : List Found) → length (times_of when fates) ≡ length fates
times_length when [] = refl
times_length when (found ∷ fates) = let rest = times_length when fates in omega (arith, rest)

pub all_mixed : (fates : List Found)
    → replicate (length fates) whens.Mixed ≡ times_of (λ fate. whens.Mixed) fates
all_mixed [] = refl
all_mixed (found ∷ fates) = ap (λ (rest : List When). whens.Mixed ∷ rest) (all_mixed fates)

take_none : {X : Type 0} (n : ℕ) → take {A = X} n [] ≡ []
take_none zero = refl
take_none (suc n) = refl

pub filled : (fates : List Found) (now old : List When) (n many : ℕ) → n ≡ length fates → old ≡ []
    → many ≡ n → now ≡ take n old ++ replicate many whens.Mixed
    → now ≡ times_of (λ fate. whens.Mixed) fates
filled fates now old n many count empty same is =
    let first : take n old ≡ [] = ap (λ (xs : List When). take n xs) empty ∙ take_none n in
    let all : many ≡ length fates = same ∙ count in
    is ∙ (λ x. first x ++ replicate (all x) whens.Mixed) ∙ all_mixed fates

-- how far a loop over them has come
abbrev pub times_to : (Fate → When) → (Fate → When) → ℕ → List Found → List When
times_to new old place fates = times_of new (take place fates) ++ times_of old (drop place fates)

pub none_set : (new old : Fate → When) (fates : List Found) → times_to new old 0 fates ≡ times_of old fates
none_set new old [] = refl
none_set new old (found ∷ fates) = refl

pub all_set : (new old : Fate → When) (place : ℕ) (fates : List Found) → place ≡ length fates
    → times_to new old place fates ≡ times_of new fates
all_set new old zero [] is = refl
all_set new old zero (found ∷ fates) is = absurd (omega (arith, is))
all_set new old (suc place) [] is = absurd (omega (arith, is))
all_set new old (suc place) (found ∷ fates) is =
    ap (λ (rest : List When). new (fate_found found) ∷ rest) (all_set new old place fates (omega (arith, is)))

pub one_set : (new old : Fate → When) (place : ℕ) (fates : List Found) (found : Found) (value : When)
    → slice_get fates place ≡ Some found → value ≡ new (fate_found found)
    → set (times_to new old place fates) place value ≡ times_to new old (suc place) fates
one_set new old place [] found value there is = absurd (cc there)
one_set new old zero (other ∷ fates) found value there is =
    let same : other ≡ found = cc there in
    (λ x. (is ∙ ap (λ (f : Found). new (fate_found f)) (sym same)) x ∷ times_of old fates)
one_set new old (suc place) (other ∷ fates) found value there is =
    ap (λ (rest : List When). new (fate_found other) ∷ rest)
    (one_set new old place fates found value there is)

pub one_there : (new old : Fate → When) (place : ℕ) (fates : List Found) (found : Found) (d : When)
    → slice_get fates place ≡ Some found
    → get_or (times_to new old place fates) place d ≡ old (fate_found found)
one_there new old place [] found d there = absurd (cc there)
one_there new old zero (other ∷ fates) found d there =
    let same : other ≡ found = cc there in ap (λ (f : Found). old (fate_found f)) same
one_there new old (suc place) (other ∷ fates) found d there = one_there new old place fates found d there

found_at : (place : ℕ) (fates : List Found) → place < length fates
    → (found : Found) × (slice_get fates place ≡ Some found)
found_at place [] less = absurd (omega (arith, less))
found_at zero (found ∷ fates) less = (found, refl)
found_at (suc place) (found ∷ fates) less = found_at place fates (omega (arith, less))

pub mark_one : (there : Option Fate) (seen : When) (when : Fate → When) (place : ℕ) (fates : List Found)
    (times : List When) (had : Bool) (value d : When) → place < length fates
    → times ≡ times_to (marked there seen when) when place fates
    → IfSome (slice_get fates place) (λ found. had ≡ is_fate (fate_found found) there)
    → value ≡ marked_by had (get_or times place d) seen
    → set times place value ≡ times_to (marked there seen when) when (place + 1) fates
mark_one there seen when place fates times had value d less are had_is is =
    let it = found_at place fates less in
    let had_here : had ≡ is_fate (fate_found it.0) there =
    subst (λ (o : Option Found). IfSome o (λ found. had ≡ is_fate (fate_found found) there)) it.1 had_is in
    let old : get_or times place d ≡ when (fate_found it.0) =
    ap (λ (all : List When). get_or all place d) are
    ∙ one_there (marked there seen when) when place fates it.0 d it.1 in
    let next : suc place ≡ place + 1 = omega arith in
    ap (λ (all : List When). set all place value) are
    ∙ one_set (marked there seen when) when place fates it.0 value it.1
    (is ∙ (λ x. marked_by (had_here x) (old x) seen))
    ∙ ap (λ (n : ℕ). times_to (marked there seen when) when n fates) next
