-- What a test finds, changes and leaves out, where one place of a list passes it or none does.
use Rattle.std.proofs.Common.{◌≡◌, ℕ, zero, suc, ◌<◌, Bool, true, false, cond, List, [], ◌∷◌, length, get_or, set, Option, Some, None, refl, sym, ap, arith}
use Rattle.std.specs.Prelude.{map, filter, find, not, ◌||◌, IfSome}
use Rattle.std.specs.Option.{IfNone, is_some}
use Rattle.std.specs.List.{All, remove, list_any}
use Rattle.std.proofs.lemmas.List.Elements.{All-nil, All-cons, All-head, All-tail}
use Rattle.std.proofs.lemmas.Bool.{false≢true}
use Rattle.act_registry.specs.OnePlace.{OnlyAt, NoPlace}

later : {X : Type 0} (test : X → Bool) (x : X) (xs : List X) (at : ℕ) → OnlyAt test (x ∷ xs) (suc at) → OnlyAt test xs at
later test x xs at only =
    (omega (arith, only.0), λ d. only.1 d, λ k d within other. only.2 (suc k) d (omega arith) (λ e. other (omega arith)))

before : {X : Type 0} (test : X → Bool) (x : X) (xs : List X) (at : ℕ) → OnlyAt test (x ∷ xs) (suc at) → test x ≡ false
before test x xs at only = only.2 zero x (omega arith) (λ e. omega arith)

behind : {X : Type 0} (test : X → Bool) (x : X) (xs : List X) → OnlyAt test (x ∷ xs) zero → NoPlace test xs
behind test x xs only = λ k d within. only.2 (suc k) d (omega arith) (λ e. omega arith)

or_true : (a b : Bool) → b ≡ true → (a || b) ≡ true
or_true true b e = refl
or_true false b e = e

-- no place passes

pub none-find : {X : Type 0} (test : X → Bool) (xs : List X) → NoPlace test xs → find test xs ≡ None
none-find test [] none = refl
none-find test (x ∷ xs) none =
    let first : test x ≡ false = All-head (λ y. test y ≡ false) x xs none in
    rw first (none-find test xs (All-tail (λ y. test y ≡ false) x xs none))

pub none-any : {X : Type 0} (test : X → Bool) (xs : List X) → NoPlace test xs → list_any test xs ≡ false
none-any test [] none = refl
none-any test (x ∷ xs) none =
    let first : test x ≡ false = All-head (λ y. test y ≡ false) x xs none in
    rw first (none-any test xs (All-tail (λ y. test y ≡ false) x xs none))

first_false : (a b : Bool) → (a || b) ≡ false → (a ≡ false) × (b ≡ false)
first_false true b e = absurd (false≢true (sym e))
first_false false b e = (refl, e)

pub any-none : {X : Type 0} (test : X → Bool) (xs : List X) → list_any test xs ≡ false → NoPlace test xs
any-none test [] none = All-nil (λ y. test y ≡ false)
any-none test (x ∷ xs) none =
    let parts = first_false (test x) (list_any test xs) none in
    All-cons (λ y. test y ≡ false) x xs parts.0 (any-none test xs parts.1)

pub none-map : {X : Type 0} (test : X → Bool) (change : X → X) (xs : List X) → NoPlace test xs → map (λ x. cond (test x) (change x) x) xs ≡ xs
none-map test change [] none = refl
none-map test change (x ∷ xs) none =
    let first : test x ≡ false = All-head (λ y. test y ≡ false) x xs none in
    rw first (ap (λ rest. x ∷ rest) (none-map test change xs (All-tail (λ y. test y ≡ false) x xs none)))

pub none-filter : {X : Type 0} (test : X → Bool) (xs : List X) → NoPlace test xs → filter (λ x. not (test x)) xs ≡ xs
none-filter test [] none = refl
none-filter test (x ∷ xs) none =
    let first : test x ≡ false = All-head (λ y. test y ≡ false) x xs none in
    rw first (ap (λ rest. x ∷ rest) (none-filter test xs (All-tail (λ y. test y ≡ false) x xs none)))

pub all-filter : {X : Type 0} (test : X → Bool) (xs : List X) → All (λ x. test x ≡ true) xs → filter test xs ≡ xs
all-filter test [] all = refl
all-filter test (x ∷ xs) all =
    let first : test x ≡ true = All-head (λ y. test y ≡ true) x xs all in
    rw first (ap (λ rest. x ∷ rest) (all-filter test xs (All-tail (λ y. test y ≡ true) x xs all)))

-- one place passes

pub only-find : {X : Type 0} (test : X → Bool) (xs : List X) (at : ℕ) (d : X) → OnlyAt test xs at → find test xs ≡ Some (get_or xs at d)
only-find test [] at d only = absurd (omega (arith, only.0))
only-find test (x ∷ xs) zero d only = let first : test x ≡ true = only.1 d in rw first refl
only-find test (x ∷ xs) (suc at) d only = rw (before test x xs at only) (only-find test xs at d (later test x xs at only))

only-any : {X : Type 0} (test : X → Bool) (xs : List X) (at : ℕ) (d : X) → at < length xs → test (get_or xs at d) ≡ true → list_any test xs ≡ true
only-any test [] at d within passes = absurd (omega arith)
only-any test (x ∷ xs) zero d within passes = let first : test x ≡ true = passes in rw first refl
only-any test (x ∷ xs) (suc at) d within passes = or_true (test x) (list_any test xs) (only-any test xs at d (omega arith) passes)

pub only-any-at : {X : Type 0} (test : X → Bool) (xs : List X) (at : ℕ) → at < length xs → ((d : X) → test (get_or xs at d) ≡ true) → list_any test xs ≡ true
only-any-at test [] at within passes = absurd (omega arith)
only-any-at test (x ∷ xs) at within passes = only-any test (x ∷ xs) at x within (passes x)

-- whether a place was found is whether an element passes
pub place-any : {X : Type 0} (test : X → Bool) (xs : List X) (place : Option ℕ) → IfSome place (OnlyAt test xs) → IfNone place (NoPlace test xs) →
    is_some place ≡ list_any test xs
place-any test xs None here none = sym (none-any test xs none)
place-any test xs (Some at) here none = sym (only-any-at test xs at here.0 here.1)

pub only-map : {X : Type 0} (test : X → Bool) (change : X → X) (xs : List X) (at : ℕ) (d : X) → OnlyAt test xs at →
    map (λ x. cond (test x) (change x) x) xs ≡ set xs at (change (get_or xs at d))
only-map test change [] at d only = absurd (omega (arith, only.0))
only-map test change (x ∷ xs) zero d only =
    let first : test x ≡ true = only.1 d in
    rw first (ap (λ rest. change x ∷ rest) (none-map test change xs (behind test x xs only)))
only-map test change (x ∷ xs) (suc at) d only =
    rw (before test x xs at only) (ap (λ rest. x ∷ rest) (only-map test change xs at d (later test x xs at only)))

pub only-filter : {X : Type 0} (test : X → Bool) (xs : List X) (at : ℕ) → OnlyAt test xs at → filter (λ x. not (test x)) xs ≡ remove xs at
only-filter test [] at only = absurd (omega (arith, only.0))
only-filter test (x ∷ xs) zero only =
    let first : test x ≡ true = only.1 x in rw first (none-filter test xs (behind test x xs only))
only-filter test (x ∷ xs) (suc at) only =
    rw (before test x xs at only) (ap (λ rest. x ∷ rest) (only-filter test xs at (later test x xs at only)))

-- the filter that leaves one place out
pub only-out : {X : Type 0} (keep : X → Bool) (xs : List X) (at : ℕ) (d : X) → at < length xs → keep (get_or xs at d) ≡ false →
    ((k : ℕ) (x : X) → k < length xs → (k ≡ at → ⊥) → keep (get_or xs k x) ≡ true) → filter keep xs ≡ remove xs at
only-out keep [] at d within out others = absurd (omega arith)
only-out keep (x ∷ xs) zero d within out others =
    let first : keep x ≡ false = out in
    rw first (all-filter keep xs (λ k y inside. others (suc k) y (omega arith) (λ e. omega arith)))
only-out keep (x ∷ xs) (suc at) d within out others =
    let first : keep x ≡ true = others zero x (omega arith) (λ e. omega arith) in
    rw first (ap (λ rest. x ∷ rest) (only-out keep xs at d (omega arith) out (λ k y inside other. others (suc k) y (omega arith) (λ e. other (omega arith)))))

pub remove-set : {X : Type 0} (xs : List X) (at : ℕ) (y : X) → remove (set xs at y) at ≡ remove xs at
remove-set [] at y = refl
remove-set (x ∷ xs) zero y = refl
remove-set (x ∷ xs) (suc at) y = ap (λ rest. x ∷ rest) (remove-set xs at y)
