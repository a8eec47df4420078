-- Actions that filters named are unbound, in any order of the filters.
use Rattle.std.proofs.Common.{◌≡◌, ℕ, ◌-◌, ◌==◌, Bool, true, false, not, ◌&&◌, cond, List, [], ◌∷◌, ◌++◌, refl, sym, ◌∙◌, ap, arith}
use Rattle.std.proofs.lemmas.Bool.Decides.{nat_tests}
use Rattle.filter_state.specs.States.{Row, Action}
use Rattle.filter_state.specs.Actions.{has_serial, less_bound, is_referred, unbound, all_unbound}
use Rattle.filter_state.specs.Sound.{places}
use Rattle.filter_state.specs.Order.{SameRows, none, keep, exchange, joined}

-- ---- one action, where two serials are unbound
abbrev lowered : ℕ → Action → Action
lowered serial x = cond (has_serial serial x) (less_bound x) x

lowered_as : (serial : ℕ) (x : Action) (b : Bool) → has_serial serial x ≡ b → lowered serial x ≡ cond b (less_bound x) x
lowered_as serial x b e = ap (λ c. cond c (less_bound x) x) e

lowered_cases : (m n : ℕ) (x : Action) (b c : Bool) → has_serial m x ≡ b → has_serial n x ≡ c → lowered m (lowered n x) ≡ lowered n (lowered m x)
lowered_cases m n x true true e f =
    ap (lowered m) (lowered_as n x true f) ∙ lowered_as m (less_bound x) true e
    ∙ sym (ap (lowered n) (lowered_as m x true e) ∙ lowered_as n (less_bound x) true f)
lowered_cases m n x true false e f =
    ap (lowered m) (lowered_as n x false f) ∙ lowered_as m x true e
    ∙ sym (ap (lowered n) (lowered_as m x true e) ∙ lowered_as n (less_bound x) false f)
lowered_cases m n x false true e f =
    ap (lowered m) (lowered_as n x true f) ∙ lowered_as m (less_bound x) false e
    ∙ sym (ap (lowered n) (lowered_as m x false e) ∙ lowered_as n x true f)
lowered_cases m n x false false e f =
    ap (lowered m) (lowered_as n x false f) ∙ lowered_as m x false e
    ∙ sym (ap (lowered n) (lowered_as m x false e) ∙ lowered_as n x false f)

lowered_swap : (m n : ℕ) (x : Action) → lowered m (lowered n x) ≡ lowered n (lowered m x)
lowered_swap m n x = lowered_cases m n x (has_serial m x) (has_serial n x) refl refl

-- ---- an action that is gone has no references to be lowered
less_referred : (n : ℕ) → (not (n == 0) && not (n - 1 == 0)) ≡ not (n - 1 == 0)
less_referred n = grind (arith, nat_tests)

and_self : (b : Bool) → (b && b) ≡ b
and_self true = refl
and_self false = refl

still_referred : (b : Bool) (x : Action) → (is_referred x && is_referred (cond b (less_bound x) x)) ≡ is_referred (cond b (less_bound x) x)
still_referred true x = less_referred x.references
still_referred false x = and_self (is_referred x)

-- ---- two serials are unbound in either order
abbrev if_referred : Action → List Action → List Action
if_referred x xs = cond (is_referred x) (x ∷ xs) xs

unbound_kept : (serial : ℕ) (b : Bool) (x : Action) (xs : List Action) →
    unbound serial (cond b (x ∷ xs) xs) ≡ cond (b && is_referred (lowered serial x)) (lowered serial x ∷ unbound serial xs) (unbound serial xs)
unbound_kept serial true x xs = refl
unbound_kept serial false x xs = refl

unbound_twice : (m n : ℕ) (x : Action) (xs : List Action) → unbound m (unbound n (x ∷ xs)) ≡ if_referred (lowered m (lowered n x)) (unbound m (unbound n xs))
unbound_twice m n x xs =
    unbound_kept m (is_referred (lowered n x)) (lowered n x) (unbound n xs)
    ∙ ap (λ b. cond b (lowered m (lowered n x) ∷ unbound m (unbound n xs)) (unbound m (unbound n xs))) (still_referred (has_serial m (lowered n x)) (lowered n x))

unbound_swap : (m n : ℕ) (xs : List Action) → unbound m (unbound n xs) ≡ unbound n (unbound m xs)
unbound_swap m n [] = refl
unbound_swap m n (x ∷ xs) =
    unbound_twice m n x xs
    ∙ ap (λ y. if_referred y (unbound m (unbound n xs))) (lowered_swap m n x)
    ∙ ap (λ ys. if_referred (lowered n (lowered m x)) ys) (unbound_swap m n xs)
    ∙ sym (unbound_twice n m x xs)

-- ---- many serials
all_append : (ms ns : List ℕ) (xs : List Action) → all_unbound (ms ++ ns) xs ≡ all_unbound ns (all_unbound ms xs)
all_append [] ns xs = refl
all_append (m ∷ ms) ns xs = all_append ms ns (unbound m xs)

one_last : (n : ℕ) (ms : List ℕ) (xs : List Action) → all_unbound ms (unbound n xs) ≡ unbound n (all_unbound ms xs)
one_last n [] xs = refl
one_last n (m ∷ ms) xs = ap (λ ys. all_unbound ms ys) (unbound_swap m n xs) ∙ one_last n ms (unbound m xs)

all_swap : (ms ns : List ℕ) (xs : List Action) → all_unbound ms (all_unbound ns xs) ≡ all_unbound ns (all_unbound ms xs)
all_swap ms [] xs = refl
all_swap ms (n ∷ ns) xs = all_swap ms ns (unbound n xs) ∙ ap (λ ys. all_unbound ns ys) (one_last n ms xs)

pub unbound_same : {xs ys : List Row} → SameRows xs ys → (actions : List Action) → all_unbound (places xs) actions ≡ all_unbound (places ys) actions
unbound_same none actions = refl
unbound_same (keep {x = x} {xs = xs} {ys = ys} s) actions =
    all_append x.actions (places xs) actions ∙ unbound_same s (all_unbound x.actions actions) ∙ sym (all_append x.actions (places ys) actions)
unbound_same (exchange {x = x} {y = y} {xs = xs} differ) actions =
    all_append x.actions (y.actions ++ places xs) actions
    ∙ all_append y.actions (places xs) (all_unbound x.actions actions)
    ∙ ap (λ left. all_unbound (places xs) left) (all_swap y.actions x.actions actions)
    ∙ sym (all_append y.actions (x.actions ++ places xs) actions ∙ all_append x.actions (places xs) (all_unbound y.actions actions))
unbound_same (joined s t) actions = unbound_same s actions ∙ unbound_same t actions
