-- The pref that a line without one gets is that of no table of its chain.
use Rattle.std.proofs.Common.{◌≡◌, ℕ, ◌-◌, ◌<◌, ◌≤◌, ◌==◌, ◌&&◌, Bool, true, false, cond, List, [], ◌∷◌, Option, Some, None, Result, Ok, Err, refl, sym, ◌∙◌, ap, arith, ne_eqb}
use Rattle.std.specs.Prelude.{filter, if◌then◌else◌}
use Rattle.std.proofs.lemmas.Bool.Decides.{nat_tests}
use Rattle.tc_base.specs.declared.hook.Hook.{Hook}
use Rattle.filter_state.specs.declared.refusal.Refusal.{Refusal}
use Rattle.filter_state.specs.declared.refusal.Refusal.TheVariants as refusals
use Rattle.filter_state.specs.States.{Row, State}
use Rattle.filter_state.specs.Sound.{Sound, Each, IsRow}
use Rattle.filter_state.proofs.Pairs.{each_weaker}
use Rattle.filter_state.specs.Tables.{first_where, in_chain, in_table, has_mask, lesser, lowest_pref, mask_row}
use Rattle.filter_state.specs.Steps.{pref_below, pref_for}

abbrev IsBelow : ℕ → Option ℕ → Type 0
IsBelow p None = Unit {0}
IsBelow p (Some lowest) = p < lowest

below_both : (p a : ℕ) (o : Option ℕ) → p < lesser a o → (p < a) × IsBelow p o
below_both p a None low = (low, tt)
below_both p a (Some b) low = (grind (arith, nat_tests), grind (arith, nat_tests))

below_lesser : (p a : ℕ) (o : Option ℕ) → p < a → IsBelow p o → p < lesser a o
below_lesser p a None low lower = low
below_lesser p a (Some b) low lower = grind (arith, nat_tests)

module _ (hook : Hook) (chain : ℕ) where
  abbrev lowest : List Row → Option ℕ
  lowest rows = lowest_pref (filter (in_chain hook chain) rows)

  -- prefs are 1 at least
  some_pref : (rows : List Row) → Each (λ (row : Row). 1 ≤ row.pref) rows → IsBelow 0 (lowest rows)
  some_pref [] all = tt
  some_pref (row ∷ rows) all = step (in_chain hook chain row) (some_pref rows all.1)
    where
      step : (b : Bool) → IsBelow 0 (lowest rows) → IsBelow 0 (lowest_pref (cond b (row ∷ filter (in_chain hook chain) rows) (filter (in_chain hook chain) rows)))
      step true rest = below_lesser 0 row.pref (lowest rows) (let one = all.0 in omega (arith, one)) rest
      step false rest = rest

  module _ (words : List ℕ) (p : ℕ) where
    abbrev test : Row → Bool
    test row = in_table hook chain p row && has_mask words row

    none_below : (rows : List Row) → IsBelow p (lowest rows) → first_where test rows ≡ None
    none_below [] low = refl
    none_below (row ∷ rows) low = step (in_chain hook chain row) refl (none_below rows) low
      where
        step : (b : Bool) → in_chain hook chain row ≡ b → (IsBelow p (lowest rows) → first_where test rows ≡ None)
            → IsBelow p (lowest_pref (cond b (row ∷ filter (in_chain hook chain) rows) (filter (in_chain hook chain) rows))) → first_where test (row ∷ rows) ≡ None
        step true is rest low =
            let both = below_both p row.pref (lowest rows) low in
            ap (λ c. if (c && row.pref == p) && has_mask words row then Some row else first_where test rows) is
            ∙ ap (λ c. if c && has_mask words row then Some row else first_where test rows) (ne_eqb row.pref p (λ same. let less = both.0 in omega (arith, same, less))) ∙ rest both.1
        step false is rest low = ap (λ c. if (c && row.pref == p) && has_mask words row then Some row else first_where test rows) is ∙ rest low

below_lowest : (p : ℕ) (o : Option ℕ) → IsBelow 0 o → pref_below o ≡ Ok p → IsBelow p o
below_lowest p None some e = tt
below_lowest p (Some lowest) some e = case (lowest == 1) e
  where
    case : (b : Bool) → (if b then Err refusals.NoPref else Ok (lowest - 1)) ≡ Ok p → p < lowest
    case true e = absurd (cc e)
    case false e = let same : lowest - 1 ≡ p = cc e in omega (arith, same, some)

pub no_table : (s : State) (hook : Hook) (chain p : ℕ) (words : List ℕ) → Sound s → pref_for s hook chain None ≡ Ok p → mask_row hook chain p words s.rows ≡ None
no_table s hook chain p words sound e =
    none_below hook chain words p s.rows (below_lowest p (lowest hook chain s.rows) (some_pref hook chain s.rows (each_weaker (IsRow s) (λ (row : Row). 1 ≤ row.pref) (λ row is. let pref = is.pref in pref.0) s.rows sound.rows)) e)

-- a pref that is given is the one
abbrev value : Result ℕ Refusal → ℕ
value (Ok n) = n
value (Err refusal) = 0

pub same_pref : (s : State) (hook : Hook) (chain : ℕ) (given : Option ℕ) (pref p : ℕ) → given ≡ Some pref → pref_for s hook chain given ≡ Ok p → pref ≡ p
same_pref s hook chain given pref p is e = ap value (sym (ap (pref_for s hook chain) is) ∙ e)
