-- What an edit asks of the rows, asked of the table of its chain and pref.
use Rattle.std.proofs.Common.{◌≡◌, ℕ, ◌&&◌, Bool, true, false, not, List, [], length, Option, Some, None, option_map, is_some, refl, ◌∙◌, ap, subst}
use Rattle.std.specs.Prelude.{nat_le, find, filter}
use Rattle.std.specs.List.{list_any}
use Rattle.std.proofs.lemmas.Option.{none-some, same_Some}
use Rattle.tc_base.specs.declared.hook.Hook.{Hook}
use Rattle.tc_base.specs.declared.hook.Proto.{Proto}
use Rattle.filter_state.specs.States.{Row}
use Rattle.filter_state.specs.declared.refusal.Refusal.{Refusal}
use Rattle.filter_state.specs.declared.refusal.Refusal.TheVariants as refusals
use Rattle.filter_state.specs.Tables.{protocol_eq, table_row, in_table, has_match, first_where, distinct, masks_of, mask_row, mask_count}
use Rattle.filter_state.specs.Refusals.{when, clash_with, protocol_clash, exists_but, masks_full, is_left_out}
use Rattle.filter_index.specs.Listed.{has_key}
use Rattle.filter_tables.specs.Plain.{PlainMask, PlainTable}
use Rattle.filter_tables.specs.Places.{item_at, place_where}
use Rattle.filter_tables.specs.Changes.{has_words, is_table}
use Rattle.filter_tables.specs.Rows.{tables_on, all_rows}
use Rattle.row_laws.specs.OfLookups.Asked.{unless_left_out}
use Rattle.row_laws.proofs.OfLookups.Found.{rows_missing}
use Rattle.row_laws.proofs.OfLookups.Tables.{protocol_found, row_missing}
use Rattle.row_laws.proofs.OfLookups.Masks.{mask_some, masks_counted}
use Rattle.row_laws.proofs.OfLookups.Matches.{match_found, match_missing, match_nowhere}
use Rattle.hook_lists.specs.declared.kept.Kept.{Kept}
use Rattle.hook_lists.specs.States.{both_of, state_of, AreKept}
use Rattle.hook_lists.proofs.Sought.{place_nowhere, its_names}

-- the table of that chain and pref stands at that place
pub record IsAt (kept : Kept) (hook : Hook) (chain pref place : ℕ) (t : PlainTable) : Type 0 where
  pub found : place_where (is_table chain pref) (tables_on hook (both_of kept)) ≡ Some place
  pub there : item_at (tables_on hook (both_of kept)) place ≡ Some t

-- there is none
abbrev pub IsNowhere : Kept → Hook → ℕ → ℕ → Type 0
IsNowhere kept hook chain pref = place_where (is_table chain pref) (tables_on hook (both_of kept)) ≡ None

-- what is said of a table's own chain and pref is said of those that it was found by
by_names : {V : Type 0} (says : ℕ → ℕ → V) (v : V) (kept : Kept) (hook : Hook) (chain pref place : ℕ) (t : PlainTable) → IsAt kept hook chain pref place t
    → says t.chain t.pref ≡ v → says chain pref ≡ v
by_names says v kept hook chain pref place t at said =
    let names = its_names (tables_on hook (both_of kept)) chain pref place t at.found at.there in
    subst (λ n. says chain n ≡ v) names.1 (subst (λ n. says n t.pref ≡ v) names.0 said)

missing : (kept : Kept) (hook : Hook) (chain pref : ℕ) → IsNowhere kept hook chain pref → list_any (is_table chain pref) (tables_on hook (both_of kept)) ≡ false
missing kept hook chain pref nowhere = place_nowhere (is_table chain pref) (tables_on hook (both_of kept)) nowhere

-- ---- protocols
clash_of : (row : Option Row) (protocol its : Proto) → option_map (λ (r : Row). r.protocol) row ≡ Some its → clash_with protocol row ≡ when (not (protocol_eq its protocol)) (refusals.ProtocolClash its)
clash_of None protocol its e = absurd (none-some its e)
clash_of (Some row) protocol its e = ap (λ p. when (not (protocol_eq p protocol)) (refusals.ProtocolClash p)) (same_Some row.protocol its e)

pub clash_found : (kept : Kept) (hook : Hook) (chain pref place : ℕ) (t : PlainTable) (protocol : Proto) → AreKept kept → IsAt kept hook chain pref place t
    → protocol_clash (state_of kept) hook chain pref protocol ≡ when (not (protocol_eq t.protocol protocol)) (refusals.ProtocolClash t.protocol)
clash_found kept hook chain pref place t protocol are at =
    by_names (λ n m. protocol_clash (state_of kept) hook n m protocol) (when (not (protocol_eq t.protocol protocol)) (refusals.ProtocolClash t.protocol)) kept hook chain pref place t at
    (clash_of (table_row hook t.chain t.pref (all_rows (both_of kept))) protocol t.protocol (protocol_found (both_of kept) hook place t are.whole at.there))

pub clash_nowhere : (kept : Kept) (hook : Hook) (chain pref : ℕ) (protocol : Proto) → IsNowhere kept hook chain pref → protocol_clash (state_of kept) hook chain pref protocol ≡ None
clash_nowhere kept hook chain pref protocol nowhere = ap (clash_with protocol) (row_missing (both_of kept) hook chain pref (missing kept hook chain pref nowhere))

-- ---- masks
full_none : (hook : Hook) (chain pref : ℕ) (words : List ℕ) (rows : List Row) → filter (in_table hook chain pref) rows ≡ [] → (b : Bool)
    → (not b && nat_le 16 (length (distinct (masks_of (filter (in_table hook chain pref) rows))))) ≡ false
full_none hook chain pref words rows none true = refl
full_none hook chain pref words rows none false = ap (λ (left : List Row). nat_le 16 (length (distinct (masks_of left)))) none

pub full_nowhere : (kept : Kept) (hook : Hook) (chain pref : ℕ) (words : List ℕ) → IsNowhere kept hook chain pref → masks_full (state_of kept) hook chain pref words ≡ None
full_nowhere kept hook chain pref words nowhere =
    ap (λ b. when b refusals.MasksFull)
    (full_none hook chain pref words (all_rows (both_of kept)) (rows_missing (both_of kept) hook chain pref (missing kept hook chain pref nowhere))
    (is_some (mask_row hook chain pref words (all_rows (both_of kept)))))

pub full_found : (kept : Kept) (hook : Hook) (chain pref place : ℕ) (words : List ℕ) (t : PlainTable) → AreKept kept → IsAt kept hook chain pref place t
    → masks_full (state_of kept) hook chain pref words ≡ when (not (is_some (place_where (has_words words) t.masks)) && nat_le 16 (length t.masks)) refusals.MasksFull
full_found kept hook chain pref place words t are at =
    by_names (λ n m. masks_full (state_of kept) hook n m words) (when (not (is_some (place_where (has_words words) t.masks)) && nat_le 16 (length t.masks)) refusals.MasksFull) kept hook chain pref place t at
    (ap (λ b. when (not b && nat_le 16 (mask_count hook t.chain t.pref (all_rows (both_of kept)))) refusals.MasksFull) (mask_some (both_of kept) hook place words t are.whole at.there)
    ∙ ap (λ n. when (not (is_some (place_where (has_words words) t.masks)) && nat_le 16 n) refusals.MasksFull) (masks_counted (both_of kept) hook place t are.whole at.there))

-- ---- filters of one mask and key
abbrev pub existing : Option ℕ → Option Refusal
existing handle = option_map (λ (n : ℕ). refusals.Exists n) handle

exists_of : (row : Option Row) → option_map (λ (r : Row). refusals.Exists r.handle) row ≡ existing (option_map (λ (r : Row). r.handle) row)
exists_of None = refl
exists_of (Some row) = refl

pub exists_nowhere : (kept : Kept) (hook : Hook) (chain pref : ℕ) (left : Option ℕ) (words key : List ℕ) → IsNowhere kept hook chain pref
    → exists_but (state_of kept) hook chain pref left words key ≡ None
exists_nowhere kept hook chain pref left words key nowhere =
    ap (λ (row : Option Row). option_map (λ (r : Row). refusals.Exists r.handle) row) (match_nowhere (both_of kept) hook chain pref left words key (missing kept hook chain pref nowhere))

pub exists_unmasked : (kept : Kept) (hook : Hook) (chain pref place : ℕ) (left : Option ℕ) (words key : List ℕ) (t : PlainTable) → AreKept kept → IsAt kept hook chain pref place t
    → place_where (has_words words) t.masks ≡ None → exists_but (state_of kept) hook chain pref left words key ≡ None
exists_unmasked kept hook chain pref place left words key t are at none =
    by_names (λ n m. exists_but (state_of kept) hook n m left words key) None kept hook chain pref place t at
    (ap (λ (row : Option Row). option_map (λ (r : Row). refusals.Exists r.handle) row) (match_missing (both_of kept) hook place left words key t are.whole at.there none))

pub exists_found : (kept : Kept) (hook : Hook) (chain pref place within : ℕ) (left : Option ℕ) (words key : List ℕ) (t : PlainTable) (m : PlainMask) → AreKept kept → IsAt kept hook chain pref place t
    → place_where (has_words words) t.masks ≡ Some within → item_at t.masks within ≡ Some m
    → exists_but (state_of kept) hook chain pref left words key ≡ existing (unless_left_out left (find (has_key key) m.filters))
exists_found kept hook chain pref place within left words key t m are at found there =
    by_names (λ n m. exists_but (state_of kept) hook n m left words key) (existing (unless_left_out left (find (has_key key) m.filters))) kept hook chain pref place t at
    (exists_of (first_where (λ row. in_table hook t.chain t.pref row && (has_match words key row && not (is_left_out left row))) (all_rows (both_of kept)))
    ∙ ap existing (match_found (both_of kept) hook place within left words key t m are.whole are.sound.together at.there found there))
