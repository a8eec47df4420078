-- What rows in another order have in common.
use Rattle.std.proofs.Common.{◌≡◌, ℕ, Bool, true, false, cond, ◌||◌, List, [], ◌∷◌, ◌++◌, length, refl, sym, ◌∙◌, ap, arith, suc}
use Rattle.std.proofs.lemmas.Bool.Decides.{nat_tests}
use Rattle.std.specs.Prelude.{filter}
use Rattle.std.specs.List.{list_any}
use Rattle.filter_state.specs.States.{Row}
use Rattle.filter_state.specs.Order.{SameRows, none, keep, exchange, joined, of_mask}
use Rattle.filter_state.specs.Actions.{change_where}

pub same_refl : (xs : List Row) → SameRows xs xs
same_refl [] = none
same_refl (x ∷ xs) = keep (same_refl xs)

pub same_sym : {xs ys : List Row} → SameRows xs ys → SameRows ys xs
same_sym none = none
same_sym (keep s) = keep (same_sym s)
same_sym (exchange differ) = exchange (λ e. differ (sym e))
same_sym (joined s t) = joined (same_sym t) (same_sym s)

-- ---- tests and counts
pub or_swap : (a b c : Bool) → (a || (b || c)) ≡ (b || (a || c))
or_swap true true c = refl
or_swap true false c = refl
or_swap false true c = refl
or_swap false false c = refl

pub any_same : (p : Row → Bool) {xs ys : List Row} → SameRows xs ys → list_any p xs ≡ list_any p ys
any_same p none = refl
any_same p (keep {x = x} s) = ap (λ b. p x || b) (any_same p s)
any_same p (exchange {x = x} {y = y} {xs = xs} differ) = or_swap (p x) (p y) (list_any p xs)
any_same p (joined s t) = any_same p s ∙ any_same p t

pub length_same : {xs ys : List Row} → SameRows xs ys → length xs ≡ length ys
length_same none = refl
length_same (keep s) = ap suc (length_same s)
length_same (exchange differ) = refl
length_same (joined s t) = length_same s ∙ length_same t

-- ---- rows before or behind them
pub append_same : (xs : List Row) {ys zs : List Row} → SameRows ys zs → SameRows (xs ++ ys) (xs ++ zs)
append_same [] s = s
append_same (x ∷ xs) s = keep (append_same xs s)

pub same_append : {xs ys : List Row} (zs : List Row) → SameRows xs ys → SameRows (xs ++ zs) (ys ++ zs)
same_append zs none = same_refl zs
same_append zs (keep s) = keep (same_append zs s)
same_append zs (exchange differ) = exchange differ
same_append zs (joined s t) = joined (same_append zs s) (same_append zs t)

-- ---- the rows that pass a test
kept : (b : Bool) (x : Row) (xs ys : List Row) → SameRows xs ys → SameRows (cond b (x ∷ xs) xs) (cond b (x ∷ ys) ys)
kept true x xs ys s = keep s
kept false x xs ys s = s

crossed : (b c : Bool) (x y : Row) (xs : List Row) → (x.mask_serial ≡ y.mask_serial → ⊥) →
    SameRows (cond b (x ∷ cond c (y ∷ xs) xs) (cond c (y ∷ xs) xs)) (cond c (y ∷ cond b (x ∷ xs) xs) (cond b (x ∷ xs) xs))
crossed true true x y xs differ = exchange differ
crossed true false x y xs differ = same_refl (x ∷ xs)
crossed false true x y xs differ = same_refl (y ∷ xs)
crossed false false x y xs differ = same_refl xs

pub filter_same : (q : Row → Bool) {xs ys : List Row} → SameRows xs ys → SameRows (filter q xs) (filter q ys)
filter_same q none = none
filter_same q (keep {x = x} {xs = xs} {ys = ys} s) = kept (q x) x (filter q xs) (filter q ys) (filter_same q s)
filter_same q (exchange {x = x} {y = y} {xs = xs} differ) = crossed (q x) (q y) x y (filter q xs) differ
filter_same q (joined s t) = joined (filter_same q s) (filter_same q t)

-- ---- the rows of each mask stand in one order
swapped : (b c : Bool) (x y : Row) (xs : List Row) → (b ≡ true → c ≡ true → ⊥) →
    cond b (x ∷ cond c (y ∷ xs) xs) (cond c (y ∷ xs) xs) ≡ cond c (y ∷ cond b (x ∷ xs) xs) (cond b (x ∷ xs) xs)
swapped true true x y xs both = absurd (both refl refl)
swapped true false x y xs both = refl
swapped false true x y xs both = refl
swapped false false x y xs both = refl

one_serial : (x y : Row) (serial : ℕ) → of_mask serial x ≡ true → of_mask serial y ≡ true → x.mask_serial ≡ y.mask_serial
one_serial x y serial first second = grind (arith, nat_tests)

pub order_same : (serial : ℕ) {xs ys : List Row} → SameRows xs ys → filter (of_mask serial) xs ≡ filter (of_mask serial) ys
order_same serial none = refl
order_same serial (keep {x = x} s) = ap (λ rest. cond (of_mask serial x) (x ∷ rest) rest) (order_same serial s)
order_same serial (exchange {x = x} {y = y} {xs = xs} differ) =
    swapped (of_mask serial x) (of_mask serial y) x y (filter (of_mask serial) xs)
    (λ first second. differ (one_serial x y serial first second))
order_same serial (joined s t) = order_same serial s ∙ order_same serial t

-- ---- rows that are changed and keep their masks
serial_kept : (change : Row → Row) → ((x : Row) → (change x).mask_serial ≡ x.mask_serial) → (b : Bool) (x : Row) → (cond b (change x) x).mask_serial ≡ x.mask_serial
serial_kept change keeps true x = keeps x
serial_kept change keeps false x = refl

pub change_same : (test : Row → Bool) (change : Row → Row) → ((x : Row) → (change x).mask_serial ≡ x.mask_serial) → {xs ys : List Row} → SameRows xs ys →
    SameRows (change_where test change xs) (change_where test change ys)
change_same test change keeps none = none
change_same test change keeps (keep s) = keep (change_same test change keeps s)
change_same test change keeps (exchange {x = x} {y = y} differ) =
    exchange (λ e. differ (sym (serial_kept change keeps (test x) x) ∙ e ∙ serial_kept change keeps (test y) y))
change_same test change keeps (joined s t) = joined (change_same test change keeps s) (change_same test change keeps t)
