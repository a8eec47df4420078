-- The first element that passes a test, when elements are changed, left out or put behind.
use Rattle.std.proofs.Common.{◌≡◌, Bool, true, false, cond, ◌||◌, List, [], ◌∷◌, ◌++◌, map, Option, Some, None, sym, subst, refl}
use Rattle.std.specs.Prelude.{filter, IsSomeAnd}
use Rattle.std.specs.List.{list_any}
use Rattle.std.proofs.lemmas.Bool.{false≢true}
use Rattle.filter_state.specs.Tables.{first_where}
use Rattle.filter_state.specs.Sound.{Each, EachPair}

abbrev pub FirstIs : {X : Type 0} → (X → Bool) → List X → (X → Type 0) → Type 0
FirstIs test xs P = IsSomeAnd (first_where test xs) P

pub one_weaker : {X : Type 0} (P Q : X → Type 0) → ((x : X) → P x → Q x) → (o : Option X) → IsSomeAnd o P → IsSomeAnd o Q
one_weaker P Q weaker None some = some
one_weaker P Q weaker (Some x) some = weaker x some

passes_step : {X : Type 0} (test : X → Bool) (P : X → Type 0) (b : Bool) (x : X) (found : Option X) → test x ≡ b
    → (IsSomeAnd found P → IsSomeAnd found (λ y. P y × (test y ≡ true))) → IsSomeAnd (cond b (Some x) found) P → IsSomeAnd (cond b (Some x) found) (λ y. P y × (test y ≡ true))
passes_step test P true x found is more some = (some, is)
passes_step test P false x found is more some = more some

pub first_passes : {X : Type 0} (test : X → Bool) (P : X → Type 0) (xs : List X) → FirstIs test xs P → FirstIs test xs (λ y. P y × (test y ≡ true))
first_passes test P [] some = some
first_passes test P (x ∷ xs) some = passes_step test P (test x) x (first_where test xs) refl (first_passes test P xs) some

-- ---- elements changed
map_step : {X : Type 0} (P Q : X → Type 0) (b : Bool) (x y : X) (found rest : Option X) → (b ≡ true → P x → Q y) → (IsSomeAnd found P → IsSomeAnd rest Q)
    → IsSomeAnd (cond b (Some x) found) P → IsSomeAnd (cond b (Some y) rest) Q
map_step P Q true x y found rest here more some = here refl some
map_step P Q false x y found rest here more some = more some

pub first_map : {X : Type 0} (test : X → Bool) (change : X → X) (P Q : X → Type 0) → ((x : X) → test (change x) ≡ test x) → ((x : X) → test x ≡ true → P x → Q (change x))
    → (xs : List X) → FirstIs test xs P → FirstIs test (map change xs) Q
first_map test change P Q same one [] some = some
first_map test change P Q same one (x ∷ xs) some =
    subst (λ b. IsSomeAnd (cond b (Some (change x)) (first_where test (map change xs))) Q) (sym (same x))
    (map_step P Q (test x) x (change x) (first_where test xs) (first_where test (map change xs)) (one x) (first_map test change P Q same one xs) some)

pub map_first : {X : Type 0} (test : X → Bool) (change : X → X) (Q : X → Type 0) → ((x : X) → test (change x) ≡ test x)
    → (xs : List X) → FirstIs test (map change xs) Q → FirstIs test xs (λ x. Q (change x))
map_first test change Q same [] some = some
map_first test change Q same (x ∷ xs) some =
    map_step Q (λ y. Q (change y)) (test x) (change x) x (first_where test (map change xs)) (first_where test xs) (λ is one. one) (map_first test change Q same xs)
    (subst (λ b. IsSomeAnd (cond b (Some (change x)) (first_where test (map change xs))) Q) (same x) some)

-- ---- elements left out
filter_step : {X : Type 0} (test : X → Bool) (P : X → Type 0) (b d : Bool) (x : X) (found : Option X) (kept : List X) → test x ≡ b → (b ≡ true → P x → d ≡ true)
    → (IsSomeAnd found P → FirstIs test kept P) → IsSomeAnd (cond b (Some x) found) P → FirstIs test (cond d (x ∷ kept) kept) P
filter_step test P true true x found kept is stays more some = subst (λ b. IsSomeAnd (cond b (Some x) (first_where test kept)) P) (sym is) some
filter_step test P true false x found kept is stays more some = absurd (false≢true (stays refl some))
filter_step test P false true x found kept is stays more some = subst (λ b. IsSomeAnd (cond b (Some x) (first_where test kept)) P) (sym is) (more some)
filter_step test P false false x found kept is stays more some = more some

pub first_filter : {X : Type 0} (test keep : X → Bool) (P : X → Type 0) → ((x : X) → test x ≡ true → P x → keep x ≡ true)
    → (xs : List X) → FirstIs test xs P → FirstIs test (filter keep xs) P
first_filter test keep P stays [] some = some
first_filter test keep P stays (x ∷ xs) some =
    filter_step test P (test x) (keep x) x (first_where test xs) (filter keep xs) refl (stays x) (first_filter test keep P stays xs) some

-- two elements don't both pass
abbrev pub NotBoth : {X : Type 0} → (X → Bool) → X → X → Type 0
NotBoth test x y = test x ≡ true → test y ≡ true → ⊥

none_step : {X : Type 0} (test : X → Bool) (P : X → Type 0) (b d : Bool) (x : X) (kept : List X) → test x ≡ b → (b ≡ true → ⊥)
    → (FirstIs test kept P → ⊥) → FirstIs test (cond d (x ∷ kept) kept) P → ⊥
none_step test P true d x kept is differ more some = differ refl
none_step test P false true x kept is differ more some = more (subst (λ b. IsSomeAnd (cond b (Some x) (first_where test kept)) P) is some)
none_step test P false false x kept is differ more some = more some

none_left : {X : Type 0} (test keep : X → Bool) (P : X → Type 0) (xs : List X) → Each (λ x. test x ≡ true → ⊥) xs → FirstIs test (filter keep xs) P → ⊥
none_left test keep P [] all some = some
none_left test keep P (x ∷ xs) all some = none_step test P (test x) (keep x) x (filter keep xs) refl all.0 (none_left test keep P xs all.1) some

back_step : {X : Type 0} (test : X → Bool) (P : X → Type 0) (b d : Bool) (x : X) (found : Option X) (kept : List X) → test x ≡ b → (b ≡ true → FirstIs test kept P → ⊥)
    → (FirstIs test kept P → IsSomeAnd found P) → FirstIs test (cond d (x ∷ kept) kept) P → IsSomeAnd (cond b (Some x) found) P
back_step test P true true x found kept is none more some = subst (λ b. IsSomeAnd (cond b (Some x) (first_where test kept)) P) is some
back_step test P true false x found kept is none more some = absurd (none refl some)
back_step test P false true x found kept is none more some = more (subst (λ b. IsSomeAnd (cond b (Some x) (first_where test kept)) P) is some)
back_step test P false false x found kept is none more some = more some

each_then : {X : Type 0} (test : X → Bool) (x : X) (xs : List X) → test x ≡ true → Each (NotBoth test x) xs → Each (λ y. test y ≡ true → ⊥) xs
each_then test x [] is all = tt
each_then test x (y ∷ ys) is all = (all.0 is, each_then test x ys is all.1)

pub filter_first : {X : Type 0} (test keep : X → Bool) (P : X → Type 0) (xs : List X) → EachPair (NotBoth test) xs → FirstIs test (filter keep xs) P → FirstIs test xs P
filter_first test keep P [] apart some = some
filter_first test keep P (x ∷ xs) apart some =
    back_step test P (test x) (keep x) x (first_where test xs) (filter keep xs) refl (λ is. none_left test keep P xs (each_then test x xs is apart.0))
    (filter_first test keep P xs apart.1) some

-- ---- elements behind
behind_step : {X : Type 0} (P : X → Type 0) (b : Bool) (x : X) (found more : Option X) → (IsSomeAnd found P → IsSomeAnd more P)
    → IsSomeAnd (cond b (Some x) found) P → IsSomeAnd (cond b (Some x) more) P
behind_step P true x found more rest some = some
behind_step P false x found more rest some = rest some

pub first_behind : {X : Type 0} (test : X → Bool) (P : X → Type 0) (xs ys : List X) → FirstIs test xs P → FirstIs test (xs ++ ys) P
first_behind test P [] ys some = absurd some
first_behind test P (x ∷ xs) ys some = behind_step P (test x) x (first_where test xs) (first_where test (xs ++ ys)) (first_behind test P xs ys) some

-- ---- where one passes
there_step : {X : Type 0} (P : X → Type 0) (b any : Bool) (x : X) (found : Option X) → P x → (any ≡ true → IsSomeAnd found P) → (b || any) ≡ true → IsSomeAnd (cond b (Some x) found) P
there_step P true any x found here more some = here
there_step P false any x found here more some = more some

pub first_there : {X : Type 0} (test : X → Bool) (P : X → Type 0) (xs : List X) → Each P xs → list_any test xs ≡ true → FirstIs test xs P
first_there test P [] all some = absurd (false≢true some)
first_there test P (x ∷ xs) all some = there_step P (test x) (list_any test xs) x (first_where test xs) all.0 (first_there test P xs all.1) some

each_step : {X : Type 0} (P Q : X → Type 0) (b : Bool) (x : X) (found : Option X) → Q x → (IsSomeAnd found P → IsSomeAnd found (λ y. P y × Q y))
    → IsSomeAnd (cond b (Some x) found) P → IsSomeAnd (cond b (Some x) found) (λ y. P y × Q y)
each_step P Q true x found here more some = (some, here)
each_step P Q false x found here more some = more some

pub first_each : {X : Type 0} (test : X → Bool) (P Q : X → Type 0) (xs : List X) → Each Q xs → FirstIs test xs P → FirstIs test xs (λ y. P y × Q y)
first_each test P Q [] all some = some
first_each test P Q (x ∷ xs) all some = each_step P Q (test x) x (first_where test xs) all.0 (first_each test P Q xs all.1) some
