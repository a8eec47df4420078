-- The element at the first place where a test passes.
use Rattle.std.proofs.Common.{◌≡◌, ℕ, suc, ◌+◌, ◌<◌, Bool, true, false, cond, ◌==◌, List, [], ◌∷◌, length, Option, Some, None, option_map, is_some, refl, sym, ◌∙◌, ap, subst, arith, eqb-true}
use Rattle.std.specs.List.{list_any}
use Rattle.std.proofs.lemmas.Option.{none-some, same_Some}
use Rattle.std.proofs.lemmas.Bool.{and_parts}
use Rattle.filter_tables.specs.Plain.{PlainTable}
use Rattle.filter_tables.specs.Places.{item_at, place_where}
use Rattle.filter_tables.specs.Changes.{is_table}
use Rattle.row_laws.proofs.OfLookups.Placed.{place_any}

passes_step : {X : Type 0} (test : X → Bool) (b : Bool) (y x : X) (ys : List X) (found : Option ℕ) (place : ℕ) → test y ≡ b
    → ((n : ℕ) → found ≡ Some n → item_at ys n ≡ Some x → test x ≡ true) → cond b (Some 0) (option_map suc found) ≡ Some place → item_at (y ∷ ys) place ≡ Some x → test x ≡ true
passes_step test true y x ys found place is more e at =
    subst (λ z. test z ≡ true) (same_Some y x (subst (λ n. item_at (y ∷ ys) n ≡ Some x) (sym (same_Some 0 place e)) at)) is
passes_step test false y x ys None place is more e at = absurd (none-some place e)
passes_step test false y x ys (Some n) place is more e at = more n refl (subst (λ k. item_at (y ∷ ys) k ≡ Some x) (sym (same_Some (suc n) place e)) at)

pub place_passes : {X : Type 0} (test : X → Bool) (xs : List X) (place : ℕ) (x : X) → place_where test xs ≡ Some place → item_at xs place ≡ Some x → test x ≡ true
place_passes test [] place x e at = absurd (none-some place e)
place_passes test (y ∷ ys) place x e at = passes_step test (test y) y x ys (place_where test ys) place refl (λ n. place_passes test ys n x) e at

within_step : {X : Type 0} (b : Bool) (ys : List X) (found : Option ℕ) (place : ℕ) → ((n : ℕ) → found ≡ Some n → n < length ys) → cond b (Some 0) (option_map suc found) ≡ Some place → place < length ys + 1
within_step true ys found place more e = omega (arith, same_Some 0 place e)
within_step false ys None place more e = absurd (none-some place e)
within_step false ys (Some n) place more e = omega (arith, same_Some (suc n) place e, more n refl)

pub place_within : {X : Type 0} (test : X → Bool) (xs : List X) (place : ℕ) → place_where test xs ≡ Some place → place < length xs
place_within test [] place e = absurd (none-some place e)
place_within test (x ∷ xs) place e = omega (arith, within_step (test x) xs (place_where test xs) place (place_within test xs) e)

pub place_nowhere : {X : Type 0} (test : X → Bool) (xs : List X) → place_where test xs ≡ None → list_any test xs ≡ false
place_nowhere test xs e = sym (place_any test xs) ∙ ap (λ (o : Option ℕ). is_some o) e

-- the table found has the chain and the pref
pub its_names : (tables : List PlainTable) (chain pref place : ℕ) (t : PlainTable) → place_where (is_table chain pref) tables ≡ Some place → item_at tables place ≡ Some t
    → (t.chain ≡ chain) × (t.pref ≡ pref)
its_names tables chain pref place t e at =
    let parts = and_parts (t.chain == chain) (t.pref == pref) (place_passes (is_table chain pref) tables place t e at) in
    (eqb-true t.chain chain parts.0, eqb-true t.pref pref parts.1)
