-- What is sought in a list is there, or is what stands at a place.
use Rattle.std.proofs.Common.{◌≡◌, ℕ, ◌<◌, suc, zero, length, Bool, true, false, cond, ◌||◌, List, [], ◌∷◌, Option, Some, option_map, refl, sym, ◌∙◌, ap, subst, arith}
use Rattle.std.specs.Prelude.{find}
use Rattle.std.specs.List.{list_any}
use Rattle.std.proofs.lemmas.Bool.{false≢true}
use Rattle.std.proofs.lemmas.Bool.Decides.{nat_tests}
use Rattle.std.proofs.lemmas.Option.{none-some, same_Some}
use Rattle.filter_state.specs.Tables.{first_where}
use Rattle.filter_tables.specs.Plain.{PlainTable}
use Rattle.filter_tables.specs.Places.{item_at, place_where}
use Rattle.filter_tables.specs.Room.{AreRising}
use Rattle.filter_tables.specs.Changes.{comes_before, is_table}
use Rattle.row_laws.proofs.OfLookups.Found.{item_each}

-- ---- a test that some element passes
found_step : {X : Type 0} (b : Bool) (x : X) (any : Bool) (found : Option X) → (any ≡ true → (y : X) × (found ≡ Some y)) → (b || any) ≡ true → (y : X) × (cond b (Some x) found ≡ Some y)
found_step true x any found more some = (x, refl)
found_step false x any found more some = more some

pub find_there : {X : Type 0} (test : X → Bool) (xs : List X) → list_any test xs ≡ true → (x : X) × (find test xs ≡ Some x)
find_there test [] some = absurd (false≢true some)
find_there test (x ∷ xs) some = found_step (test x) x (list_any test xs) (find test xs) (find_there test xs) some

first_step : {X : Type 0} (test : X → Bool) (b : Bool) (x : X) (found : Option X) (y : X) → test x ≡ b → (found ≡ Some y → test y ≡ true) → cond b (Some x) found ≡ Some y → test y ≡ true
first_step test true x found y is more e = subst (λ z. test z ≡ true) (same_Some x y e) is
first_step test false x found y is more e = more e

pub first_passes : {X : Type 0} (test : X → Bool) (xs : List X) (y : X) → first_where test xs ≡ Some y → test y ≡ true
first_passes test [] y e = absurd (none-some y e)
first_passes test (x ∷ xs) y e = first_step test (test x) x (first_where test xs) y refl (first_passes test xs y) e

-- ---- the one table of its chain and pref
other_table : (t u : PlainTable) → comes_before u t ≡ true → is_table t.chain t.pref u ≡ false
other_table t u before = grind (arith, nat_tests, before)

table_here : (tables : List PlainTable) (place : ℕ) (t u : PlainTable) → is_table t.chain t.pref u ≡ false → place_where (is_table t.chain t.pref) tables ≡ Some place →
    place_where (is_table t.chain t.pref) (u ∷ tables) ≡ Some (suc place)
table_here tables place t u other found = ap (λ b. cond b (Some 0) (option_map suc (place_where (is_table t.chain t.pref) tables))) other ∙ ap (option_map suc) found

pub table_place : (tables : List PlainTable) (place : ℕ) (t : PlainTable) → AreRising tables → item_at tables place ≡ Some t → place_where (is_table t.chain t.pref) tables ≡ Some place
table_place [] place t rising at = absurd (none-some t at)
table_place (u ∷ tables) zero t rising at =
    let same : u ≡ t = same_Some u t at in
    let is : is_table t.chain t.pref t ≡ true = grind (arith, nat_tests) in
    ap (λ b. cond b (Some 0) (option_map suc (place_where (is_table t.chain t.pref) tables))) (subst (λ v. is_table t.chain t.pref v ≡ true) (sym same) is)
table_place (u ∷ tables) (suc place) t rising at =
    table_here tables place t u (other_table t u (item_each (λ v. comes_before u v ≡ true) tables place t rising.0 at)) (table_place tables place t rising.1 at)

-- a place that has something is within the list
pub item_within : {X : Type 0} (xs : List X) (place : ℕ) (x : X) → item_at xs place ≡ Some x → place < length xs
item_within [] place x at = absurd (none-some x at)
item_within (y ∷ xs) zero x at = omega arith
item_within (y ∷ xs) (suc place) x at = omega (arith, item_within xs place x at)
