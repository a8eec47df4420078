-- The index and the handle that are given where a line gives none aren't used yet.
use Rattle.std.proofs.Common.{◌≡◌, ℕ, suc, ◌+◌, ◌≤◌, ◌==◌, Bool, true, false, ◌||◌, List, [], ◌∷◌, length, map, refl, ◌∙◌, ap, arith, eq-eqb}
use Rattle.std.specs.Prelude.{filter}
use Rattle.std.specs.List.{list_any}
use Rattle.act_kinds.specs.declared.params.Kind.{Kind}
use Rattle.tc_base.specs.declared.hook.Hook.{Hook}
use Rattle.filter_state.specs.States.{Row, Action}
use Rattle.filter_state.specs.Actions.{is_named, is_live, free_index}
use Rattle.filter_state.specs.Tables.{in_table, has_handle, free_handle}
use Rattle.filter_state.proofs.Pairs.{any_map}
use Rattle.filter_state.proofs.Free.{length_filter_le, free_unused, free_within}
use Rattle.state_laws.proofs.Tests.{named}

any_step : (b c any more : Bool) → (b ≡ true → c ≡ true) → (any ≡ true → more ≡ true) → (b || any) ≡ true → (c || more) ≡ true
any_step true c any more one rest e = ap (λ x. x || more) (one refl)
any_step false true any more one rest e = refl
any_step false false any more one rest e = rest e

pub any_implies : {X : Type 0} (p q : X → Bool) → ((x : X) → p x ≡ true → q x ≡ true) → (xs : List X) → list_any p xs ≡ true → list_any q xs ≡ true
any_implies p q f [] e = e
any_implies p q f (x ∷ xs) e = any_step (p x) (q x) (list_any p xs) (list_any q xs) (f x) (any_implies p q f xs) e

pub length_mapped : {X Y : Type 0} (f : X → Y) (xs : List X) → length (map f xs) ≡ length xs
length_mapped f [] = refl
length_mapped f (x ∷ xs) = ap suc (length_mapped f xs)

pub free_index_unused : (kind : Kind) (actions : List Action) → is_live kind (free_index kind actions) actions ≡ false
free_index_unused kind actions =
    let long = length_mapped (λ (a : Action). a.index) actions in
    free_unused (λ index. is_live kind index actions) (length actions) (map (λ (a : Action). a.index) actions) 1 (omega arith)
    (λ m low is. any_map (λ x. x == m) (λ (a : Action). a.index) actions ∙ any_implies (is_named kind m) (λ (a : Action). a.index == m) (λ a e. eq-eqb a.index m (named kind m a e).1) actions is)

pub free_index_within : (kind : Kind) (actions : List Action) → (1 ≤ free_index kind actions) × (free_index kind actions ≤ 1 + length actions)
free_index_within kind actions = free_within (λ index. is_live kind index actions) (length actions) 1

pub free_handle_unused : (hook : Hook) (chain pref : ℕ) (rows : List Row) → list_any (has_handle (free_handle hook chain pref rows)) (filter (in_table hook chain pref) rows) ≡ false
free_handle_unused hook chain pref rows =
    let mine : List Row = filter (in_table hook chain pref) rows in
    let long = length_mapped (λ (r : Row). r.handle) mine in
    let short = length_filter_le (in_table hook chain pref) rows in
    free_unused (λ handle. list_any (has_handle handle) mine) (length rows) (map (λ (r : Row). r.handle) mine) 1 (omega arith)
    (λ m low is. any_map (λ x. x == m) (λ (r : Row). r.handle) mine ∙ is)

pub free_handle_within : (hook : Hook) (chain pref : ℕ) (rows : List Row) → (1 ≤ free_handle hook chain pref rows) × (free_handle hook chain pref rows ≤ 1 + length rows)
free_handle_within hook chain pref rows = free_within (λ handle. list_any (has_handle handle) (filter (in_table hook chain pref) rows)) (length rows) 1
