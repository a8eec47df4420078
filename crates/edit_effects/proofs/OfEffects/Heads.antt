-- The tables of a hook stay where a row comes or goes of a mask that keeps another, and where rows get other
-- actions.
use Rattle.std.proofs.Common.{◌≡◌, ℕ, Bool, true, false, not, cond, List, [], ◌∷◌, ◌++◌, map, refl, sym, ◌∙◌, ap, eqb-true}
use Rattle.std.specs.Prelude.{filter}
use Rattle.std.specs.List.{list_any}
use Rattle.std.proofs.lemmas.Bool.{false≢true}
use Rattle.std.proofs.lemmas.List.{map-append}
use Rattle.tc_base.specs.declared.hook.Hook.{Hook}
use Rattle.filter_state.specs.States.{Row}
use Rattle.filter_state.specs.Actions.{change_where}
use Rattle.filter_state.specs.Tables.{in_hook}
use Rattle.filter_state.specs.Order.{of_mask}
use Rattle.filter_state.specs.Sound.{Each}
use Rattle.filter_state.proofs.Pairs.{each_weaker, each_map, each_filter, any_filter, any_map}
use Rattle.state_laws.proofs.Rows.{put_actions}
use Rattle.row_laws.specs.OfOrder.Sorted.{placed, sorted}
use Rattle.row_laws.specs.OfOrder.Rows.{row_before}
use Rattle.walk_rules.specs.Questions.{Head}
use Rattle.walk_rules.specs.Heads.{heads_in}
use Rattle.edit_effects.proofs.OfEffects.Kept.{last_left, last_kept, either_order}
use Rattle.edit_effects.proofs.OfEffects.Sorted.{bare, tables_of, tables_bare, AreOne, in_turn, last_first, tables_again}

-- rows of one mask look alike to a table
abbrev pub LookAlike : Row → Row → Type 0
LookAlike x y = x.mask_serial ≡ y.mask_serial → bare x ≡ bare y

all_one : (x : Row) (rows : List Row) → Each (LookAlike x) rows → Each (AreOne (bare x)) (map bare rows)
all_one x rows all = each_map (AreOne (bare x)) bare rows all

some_bare : (mask : ℕ) (rows : List Row) → list_any (of_mask mask) rows ≡ true → list_any (of_mask mask) (map bare rows) ≡ true
some_bare mask rows some = any_map (of_mask mask) bare rows ∙ some

-- ---- a row at the end
last_in_front : (row : Row) (rows : List Row) → Each (LookAlike row) rows → tables_of (rows ++ row ∷ []) ≡ tables_of (row ∷ rows)
last_in_front row rows all =
    tables_bare (rows ++ row ∷ []) ∙ ap tables_of (map-append bare rows (row ∷ [])) ∙ ap heads_in (last_first (bare row) (map bare rows) (all_one row rows all)) ∙ sym (tables_bare (row ∷ rows))

-- ---- a row among others of its mask
like_another : (row : Row) (rows : List Row) → Each (LookAlike row) rows → list_any (of_mask row.mask_serial) rows ≡ true → tables_of (row ∷ rows) ≡ tables_of rows
like_another row rows all some =
    tables_bare (row ∷ rows) ∙ tables_again (bare row) (map bare rows) (all_one row rows all) (some_bare row.mask_serial rows some) ∙ sym (tables_bare rows)

-- ---- a row taken out
pub none_gone : (gone : Row → Bool) (rows : List Row) → filter gone rows ≡ [] → filter (λ x. not (gone x)) rows ≡ rows
none_gone gone [] e = refl
none_gone gone (x ∷ rows) e = step (gone x) e (none_gone gone rows)
  where
    step : (b : Bool) → cond b (x ∷ filter gone rows) (filter gone rows) ≡ [] → (filter gone rows ≡ [] → filter (λ y. not (gone y)) rows ≡ rows) →
        cond (not b) (x ∷ filter (λ y. not (gone y)) rows) (filter (λ y. not (gone y)) rows) ≡ x ∷ rows
    step true e more = absurd (cc e)
    step false e more = ap (λ xs. x ∷ xs) (more e)

same_first : (x old : Row) (rows : List Row) → x ∷ rows ≡ old ∷ [] → x ≡ old
same_first x old rows e = cc

none_behind : (x old : Row) (rows : List Row) → x ∷ rows ≡ old ∷ [] → rows ≡ []
none_behind x old rows e = cc

taken_at : (gone : Row → Bool) (old x : Row) (rows : List Row) (b : Bool) → cond b (x ∷ filter gone rows) (filter gone rows) ≡ old ∷ [] → LookAlike old x →
    (filter gone rows ≡ old ∷ [] → sorted row_before (map bare rows) ≡ sorted row_before (map bare (old ∷ filter (λ y. not (gone y)) rows))) →
    sorted row_before (map bare (x ∷ rows)) ≡ sorted row_before (map bare (old ∷ cond (not b) (x ∷ filter (λ y. not (gone y)) rows) (filter (λ y. not (gone y)) rows)))
taken_at gone old x rows true only alike more =
    ap (λ y. sorted row_before (map bare (y ∷ rows))) (same_first x old (filter gone rows) only)
    ∙ ap (λ ys. sorted row_before (map bare (old ∷ ys))) (sym (none_gone gone rows (none_behind x old (filter gone rows) only)))
taken_at gone old x rows false only alike more =
    ap (placed row_before (bare x)) (more only) ∙ sym (in_turn (bare old) (bare x) (map bare (filter (λ y. not (gone y)) rows)) alike)

taken : (gone : Row → Bool) (old : Row) (rows : List Row) → filter gone rows ≡ old ∷ [] → Each (LookAlike old) rows →
    sorted row_before (map bare rows) ≡ sorted row_before (map bare (old ∷ filter (λ x. not (gone x)) rows))
taken gone old [] only all = absurd (cc only)
taken gone old (x ∷ rows) only all = taken_at gone old x rows (gone x) only all.0 (λ rest. taken gone old rows rest all.1)

one_taken : (gone : Row → Bool) (old : Row) (rows : List Row) → filter gone rows ≡ old ∷ [] → Each (LookAlike old) rows → tables_of rows ≡ tables_of (old ∷ filter (λ x. not (gone x)) rows)
one_taken gone old rows only all = tables_bare rows ∙ ap heads_in (taken gone old rows only all) ∙ sym (tables_bare (old ∷ filter (λ x. not (gone x)) rows))

-- ---- the tables of one hook
abbrev pub tables_on : Hook → List Row → List Head
tables_on hook rows = tables_of (filter (in_hook hook) rows)

-- a row at the end may as well be the first
pub tables_last : (hook : Hook) (row : Row) (rows : List Row) → Each (LookAlike row) rows → tables_on hook (rows ++ row ∷ []) ≡ tables_on hook (row ∷ rows)
tables_last hook row rows all = step (in_hook hook row) refl
  where
    step : (b : Bool) → in_hook hook row ≡ b → tables_on hook (rows ++ row ∷ []) ≡ tables_of (cond b (row ∷ filter (in_hook hook) rows) (filter (in_hook hook) rows))
    step true is = ap tables_of (last_kept (in_hook hook) rows row is) ∙ last_in_front row (filter (in_hook hook) rows) (each_filter (LookAlike row) (in_hook hook) rows all)
    step false is = ap tables_of (last_left (in_hook hook) rows row is)

-- so may one that is taken out
pub tables_taken : (hook : Hook) (gone : Row → Bool) (old : Row) (rows : List Row) → filter gone rows ≡ old ∷ [] → Each (LookAlike old) rows →
    tables_on hook rows ≡ tables_on hook (old ∷ filter (λ x. not (gone x)) rows)
tables_taken hook gone old rows only all = step (in_hook hook old) refl
  where
    stay : Row → Bool
    stay x = not (gone x)

    gone_on : filter gone (filter (in_hook hook) rows) ≡ cond (in_hook hook old) (old ∷ []) []
    gone_on = either_order gone (in_hook hook) rows ∙ ap (filter (in_hook hook)) only

    step : (b : Bool) → in_hook hook old ≡ b → tables_on hook rows ≡ tables_of (cond b (old ∷ filter (in_hook hook) (filter stay rows)) (filter (in_hook hook) (filter stay rows)))
    step true is =
        one_taken gone old (filter (in_hook hook) rows) (gone_on ∙ ap (λ b. cond b (old ∷ []) []) is) (each_filter (LookAlike old) (in_hook hook) rows all)
        ∙ ap (λ ys. tables_of (old ∷ ys)) (either_order stay (in_hook hook) rows)
    step false is =
        ap tables_of (sym (none_gone gone (filter (in_hook hook) rows) (gone_on ∙ ap (λ b. cond b (old ∷ []) []) is)) ∙ either_order stay (in_hook hook) rows)

-- a row of a mask that has another
pub tables_like_another : (hook : Hook) (row : Row) (rows : List Row) → Each (LookAlike row) rows → list_any (of_mask row.mask_serial) rows ≡ true → tables_on hook (row ∷ rows) ≡ tables_on hook rows
tables_like_another hook row rows all some = step (in_hook hook row) refl
  where
    on_hook : in_hook hook row ≡ true → list_any (of_mask row.mask_serial) (filter (in_hook hook) rows) ≡ true
    on_hook is =
        any_filter (of_mask row.mask_serial) (in_hook hook) rows
        (each_weaker (LookAlike row) (λ x. of_mask row.mask_serial x ≡ true → in_hook hook x ≡ true)
        (λ x alike at. sym (ap (in_hook hook) (alike (sym (eqb-true x.mask_serial row.mask_serial at)))) ∙ is) rows all) some

    step : (b : Bool) → in_hook hook row ≡ b → tables_of (cond b (row ∷ filter (in_hook hook) rows) (filter (in_hook hook) rows)) ≡ tables_on hook rows
    step true is = like_another row (filter (in_hook hook) rows) (each_filter (LookAlike row) (in_hook hook) rows all) (on_hook is)
    step false is = refl

-- a row in the place of one that looks alike
pub tables_in_place : (hook : Hook) (x y : Row) (rows : List Row) → bare x ≡ bare y → tables_on hook (x ∷ rows) ≡ tables_on hook (y ∷ rows)
tables_in_place hook x y rows same = step (in_hook hook x) (in_hook hook y) (ap (in_hook hook) same)
  where
    others : List Row
    others = filter (in_hook hook) rows

    step : (b c : Bool) → b ≡ c → tables_of (cond b (x ∷ others) others) ≡ tables_of (cond c (y ∷ others) others)
    step true true e = tables_bare (x ∷ others) ∙ ap (λ z. tables_of (z ∷ map bare others)) same ∙ sym (tables_bare (y ∷ others))
    step false false e = refl
    step true false e = absurd (false≢true (sym e))
    step false true e = absurd (false≢true e)

-- ---- rows with other actions
pub tables_changed : (hook : Hook) (test : Row → Bool) (serials : List ℕ) (rows : List Row) → tables_on hook (change_where test (put_actions serials) rows) ≡ tables_on hook rows
tables_changed hook test serials rows =
    tables_bare (filter (in_hook hook) (change_where test (put_actions serials) rows)) ∙ ap tables_of (still rows) ∙ sym (tables_bare (filter (in_hook hook) rows))
  where
    one : (b c : Bool) (x : Row) (xs ys : List Row) → in_hook hook x ≡ c → map bare xs ≡ map bare ys →
        map bare (cond (in_hook hook (cond b (put_actions serials x) x)) (cond b (put_actions serials x) x ∷ xs) xs) ≡ map bare (cond c (x ∷ ys) ys)
    one true true x xs ys on e = ap (λ d. map bare (cond d (put_actions serials x ∷ xs) xs)) on ∙ ap (λ zs. bare x ∷ zs) e
    one false true x xs ys on e = ap (λ d. map bare (cond d (x ∷ xs) xs)) on ∙ ap (λ zs. bare x ∷ zs) e
    one true false x xs ys on e = ap (λ d. map bare (cond d (put_actions serials x ∷ xs) xs)) on ∙ e
    one false false x xs ys on e = ap (λ d. map bare (cond d (x ∷ xs) xs)) on ∙ e

    still : (xs : List Row) → map bare (filter (in_hook hook) (change_where test (put_actions serials) xs)) ≡ map bare (filter (in_hook hook) xs)
    still [] = refl
    still (x ∷ xs) = one (test x) (in_hook hook x) x (filter (in_hook hook) (change_where test (put_actions serials) xs)) (filter (in_hook hook) xs) refl (still xs)
