-- The numbers that a new filter gets are in their ranges.
use Rattle.std.proofs.Common.{◌≡◌, ℕ, ◌+◌, ◌-◌, ◌≤◌, ◌==◌, Bool, true, false, cond, if◌then◌else◌, List, [], ◌∷◌, length, Option, Some, None, Ok, Err, IfSome, refl, subst, arith, eqb-true, nat_lt}
use Rattle.std.specs.Prelude.{filter}
use Rattle.std.proofs.lemmas.Bool.{eqb-false}
use Rattle.tc_base.specs.declared.hook.Hook.{Hook}
use Rattle.filter_state.specs.declared.refusal.Refusal.TheVariants as refusals
use Rattle.filter_state.specs.States.{State, Row}
use Rattle.filter_state.specs.Lines.{IsPref, IsIndex}
use Rattle.filter_state.specs.Tables.{lesser, lowest_pref, first_where, in_chain, table_or_next, mask_or_next}
use Rattle.filter_state.specs.Steps.{pref_below, pref_for, handle_for, raised}
use Rattle.filter_state.specs.Sound.{Each}
use Rattle.state_laws.proofs.Answers.{ok, same_ok, err_ok}
use Rattle.filter_state.proofs.Pairs.{each_filter, found}
use Rattle.state_laws.proofs.Free.{free_handle_within}
use Rattle.state_laws.proofs.Rows.{IsPlain}

-- ---- prefs
either_pref : (b : Bool) (x y : ℕ) → IsPref x → IsPref y → IsPref (cond b x y)
either_pref true x y p q = p
either_pref false x y p q = q

lesser_pref : (a : ℕ) (o : Option ℕ) → IsPref a → IfSome o IsPref → IsPref (lesser a o)
lesser_pref a None p q = p
lesser_pref a (Some b) p q = either_pref (nat_lt b a) b a q p

lowest_in_range : (rows : List Row) → Each (λ (r : Row). IsPref r.pref) rows → IfSome (lowest_pref rows) IsPref
lowest_in_range [] all = tt
lowest_in_range (row ∷ rows) all = lesser_pref row.pref (lowest_pref rows) all.0 (lowest_in_range rows all.1)

above : (n : ℕ) → (n ≡ 1 → ⊥) → 1 ≤ n → 1 ≤ n - 1
above n differs low = omega arith

below_step : (b : Bool) (lowest pref : ℕ) → (lowest == 1) ≡ b → IsPref lowest → (if b then Err refusals.NoPref else ok (lowest - 1)) ≡ ok pref → IsPref pref
below_step true lowest pref is range e = absurd (err_ok refusals.NoPref pref e)
below_step false lowest pref is range e =
    let differs = eqb-false lowest 1 is in
    let low = range.0 in
    let high = range.1 in
    subst IsPref (same_ok (lowest - 1) pref e) (above lowest differs low, omega arith)

below_in_range : (o : Option ℕ) (pref : ℕ) → IfSome o IsPref → pref_below o ≡ Ok pref → IsPref pref
below_in_range None pref all e = subst IsPref (same_ok 49152 pref e) (omega arith, omega arith)
below_in_range (Some lowest) pref range e = below_step (lowest == 1) lowest pref refl range e

pub pref_in_range : (s : State) (hook : Hook) (chain : ℕ) (given : Option ℕ) (pref : ℕ) → IfSome given IsPref → Each (λ (r : Row). IsPref r.pref) s.rows → pref_for s hook chain given ≡ Ok pref → IsPref pref
pref_in_range s hook chain (Some number) pref range all e = subst IsPref (same_ok number pref e) range
pref_in_range s hook chain None pref range all e =
    below_in_range (lowest_pref (filter (in_chain hook chain) s.rows)) pref
    (lowest_in_range (filter (in_chain hook chain) s.rows) (each_filter (λ (r : Row). IsPref r.pref) (in_chain hook chain) s.rows all)) e

-- ---- handles
pub handle_in_range : (s : State) (hook : Hook) (chain pref : ℕ) (given : Option ℕ) → IfSome given IsIndex → length s.rows ≤ 4096 → IsIndex (handle_for s hook chain pref given)
handle_in_range s hook chain pref (Some handle) range few = range
handle_in_range s hook chain pref None range few = let within = free_handle_within hook chain pref s.rows in (within.0, omega arith)

-- ---- serials of tables and masks
abbrev pub IsNext : ℕ → ℕ → Type 0
IsNext made serial = (1 ≤ serial) × (serial ≤ made + 1)

pub table_next : (masks made : ℕ) (test : Row → Bool) (rows : List Row) (o : Option Row) → first_where test rows ≡ o → Each (IsPlain made masks) rows → IsNext made (table_or_next o made)
table_next masks made test rows (Some t) is plain = let p = (found (IsPlain made masks) test rows t plain is).0 in let range = p.table in (range.0, omega arith)
table_next masks made test rows None is plain = (omega arith, omega arith)

pub mask_next : (tables made : ℕ) (test : Row → Bool) (rows : List Row) (o : Option Row) → first_where test rows ≡ o → Each (IsPlain tables made) rows → IsNext made (mask_or_next o made)
mask_next tables made test rows (Some m) is plain = let p = (found (IsPlain tables made) test rows m plain is).0 in let range = p.mask in (range.0, omega arith)
mask_next tables made test rows None is plain = (omega arith, omega arith)

below : (serial made : ℕ) → (serial ≡ made + 1 → ⊥) → serial ≤ made + 1 → serial ≤ made
below serial made differs low = omega arith

raised_case : (b : Bool) (made serial : ℕ) → (serial == made + 1) ≡ b → serial ≤ made + 1 → (serial ≤ cond b serial made) × (made ≤ cond b serial made)
raised_case true made serial is low = let same = eqb-true serial (made + 1) is in (omega arith, omega arith)
raised_case false made serial is low = let differs = eqb-false serial (made + 1) is in (below serial made differs low, omega arith)

pub raised_covers : (made serial : ℕ) → serial ≤ made + 1 → (serial ≤ raised made serial) × (made ≤ raised made serial)
raised_covers made serial low = raised_case (serial == made + 1) made serial refl low
