-- The first place where a test passes, and the element there: the first of those that a filter keeps.
use Rattle.std.proofs.Common.{◌≡◌, ℕ, suc, Bool, true, false, cond, ◌||◌, List, [], ◌∷◌, Option, Some, None, option_map, is_some, refl, sym, ◌∙◌, subst}
use Rattle.std.specs.Prelude.{filter}
use Rattle.std.specs.List.{list_any}
use Rattle.std.proofs.lemmas.Option.{none-some, same_Some}
use Rattle.filter_tables.specs.Places.{item_at, place_where}
use Rattle.row_laws.proofs.OfLookups.Heads.{head_of}

place_step : {X : Type 0} (b : Bool) (y : X) (ys zs : List X) (found : Option ℕ) (place : ℕ) (x : X)
    → ((n : ℕ) → found ≡ Some n → item_at ys n ≡ Some x → head_of zs ≡ Some x)
    → cond b (Some 0) (option_map suc found) ≡ Some place → item_at (y ∷ ys) place ≡ Some x → head_of (cond b (y ∷ zs) zs) ≡ Some x
place_step true y ys zs found place x more e at = subst (λ n. item_at (y ∷ ys) n ≡ Some x) (sym (same_Some 0 place e)) at
place_step false y ys zs None place x more e at = absurd (none-some place e)
place_step false y ys zs (Some n) place x more e at = more n refl (subst (λ k. item_at (y ∷ ys) k ≡ Some x) (sym (same_Some (suc n) place e)) at)

pub place_head : {X : Type 0} (test : X → Bool) (xs : List X) (place : ℕ) (x : X) → place_where test xs ≡ Some place → item_at xs place ≡ Some x → head_of (filter test xs) ≡ Some x
place_head test [] place x e at = absurd (none-some x at)
place_head test (y ∷ ys) place x e at = place_step (test y) y ys (filter test ys) (place_where test ys) place x (λ n. place_head test ys n x) e at

some_suc : (found : Option ℕ) → is_some (option_map suc found) ≡ is_some found
some_suc None = refl
some_suc (Some n) = refl

some_step : (b any : Bool) (found : Option ℕ) → is_some found ≡ any → is_some (cond b (Some 0) (option_map suc found)) ≡ (b || any)
some_step true any found e = refl
some_step false any found e = some_suc found ∙ e

pub place_any : {X : Type 0} (test : X → Bool) (xs : List X) → is_some (place_where test xs) ≡ list_any test xs
place_any test [] = refl
place_any test (x ∷ xs) = some_step (test x) (list_any test xs) (place_where test xs) (place_any test xs)
