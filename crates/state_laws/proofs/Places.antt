-- The places of rows where one filter is taken out, or given other actions.
use Rattle.std.proofs.Common.{◌≡◌, ℕ, ◌+◌, Bool, true, false, not, cond, List, [], ◌∷◌, Some, refl, ◌∙◌, ap, arith}
use Rattle.std.specs.Prelude.{filter}
use Rattle.std.specs.List.{flat_map}
use Rattle.std.proofs.lemmas.Bool.{false_from_ne_true}
use Rattle.std.proofs.lemmas.Option.{none-some, same_Some}
use Rattle.filter_state.specs.States.{Row}
use Rattle.filter_state.specs.Actions.{change_where}
use Rattle.filter_state.specs.Tables.{first_where}
use Rattle.filter_state.specs.Sound.{Each, EachPair, places}
use Rattle.filter_state.proofs.Pairs.{each_weaker}
use Rattle.filter_state.proofs.Times.{times, times_append, places_split}
use Rattle.state_laws.proofs.Rows.{put_actions}

-- no two rows pass
abbrev pub NotBoth : (Row → Bool) → Row → Row → Type 0
NotBoth test x y = test x ≡ true → test y ≡ true → ⊥

-- ---- the one that passes
none_kept : (test : Row → Bool) (rows : List Row) → Each (λ x. test x ≡ false) rows → filter test rows ≡ []
none_kept test [] all = refl
none_kept test (x ∷ xs) all = ap (λ b. cond b (x ∷ filter test xs) (filter test xs)) all.0 ∙ none_kept test xs all.1

only_step : (test : Row → Bool) (b : Bool) (x old : Row) (xs : List Row) → test x ≡ b → Each (NotBoth test x) xs → (first_where test xs ≡ Some old → filter test xs ≡ old ∷ [])
    → cond b (Some x) (first_where test xs) ≡ Some old → cond b (x ∷ filter test xs) (filter test xs) ≡ old ∷ []
only_step test true x old xs is apart more e =
    ap (λ rest. x ∷ rest) (none_kept test xs (each_weaker (NotBoth test x) (λ y. test y ≡ false) (λ y not_both. false_from_ne_true (test y) (not_both is)) xs apart))
    ∙ ap (λ y. y ∷ []) (same_Some x old e)
only_step test false x old xs is apart more e = more e

pub only_one : (test : Row → Bool) (rows : List Row) (old : Row) → EachPair (NotBoth test) rows → first_where test rows ≡ Some old → filter test rows ≡ old ∷ []
only_one test [] old apart e = absurd (none-some old e)
only_one test (x ∷ xs) old apart e = only_step test (test x) x old xs refl apart.0 (only_one test xs old apart.1) e

-- tests that agree find the same row
pub first_same : {X : Type 0} (p q : X → Bool) (xs : List X) → Each (λ x. p x ≡ q x) xs → first_where p xs ≡ first_where q xs
first_same p q [] all = refl
first_same p q (x ∷ xs) all = ap (λ b. cond b (Some x) (first_where p xs)) all.0 ∙ ap (λ o. cond (q x) (Some x) o) (first_same p q xs all.1)

-- ---- its places
one_place : (n : ℕ) (old : Row) → times n (places (old ∷ [])) ≡ times n old.actions
one_place n old = times_append n old.actions [] ∙ (let none : times n [] ≡ 0 = refl in omega arith)

-- taken out
pub places_without : (n : ℕ) (test : Row → Bool) (rows : List Row) (old : Row) → filter test rows ≡ old ∷ []
    → times n (places (filter (λ row. not (test row)) rows)) + times n old.actions ≡ times n (places rows)
places_without n test rows old only =
    let split = places_split n test rows in
    let gone = ap (λ xs. times n (places xs)) only ∙ one_place n old in
    omega arith

-- given others
changed_step : (n : ℕ) (serials : List ℕ) (b : Bool) (row : Row) (changed kept gone : List Row) → times n (places changed) ≡ times n (places kept) + times n (flat_map (λ (r : Row). serials) gone)
    → times n (places (cond b (put_actions serials row) row ∷ changed))
    ≡ times n (places (cond (not b) (row ∷ kept) kept)) + times n (flat_map (λ (r : Row). serials) (cond b (row ∷ gone) gone))
changed_step n serials true row changed kept gone e =
    let left = times_append n serials (places changed) in
    let right = times_append n serials (flat_map (λ (r : Row). serials) gone) in
    omega arith
changed_step n serials false row changed kept gone e =
    let left = times_append n row.actions (places changed) in
    let right = times_append n row.actions (places kept) in
    omega arith

places_where : (n : ℕ) (serials : List ℕ) (test : Row → Bool) (rows : List Row) → times n (places (change_where test (put_actions serials) rows))
    ≡ times n (places (filter (λ row. not (test row)) rows)) + times n (flat_map (λ (r : Row). serials) (filter test rows))
places_where n serials test [] = refl
places_where n serials test (row ∷ rows) =
    changed_step n serials (test row) row (change_where test (put_actions serials) rows) (filter (λ row. not (test row)) rows) (filter test rows) (places_where n serials test rows)

pub places_changed : (n : ℕ) (serials : List ℕ) (test : Row → Bool) (rows : List Row) (old : Row) → filter test rows ≡ old ∷ []
    → times n (places (change_where test (put_actions serials) rows)) + times n old.actions ≡ times n (places rows) + times n serials
places_changed n serials test rows old only =
    let all = places_where n serials test rows in
    let without = places_without n test rows old only in
    let new = ap (λ xs. times n (flat_map (λ (r : Row). serials) xs)) only ∙ times_append n serials [] in
    let none : times n [] ≡ 0 = refl in
    omega arith
