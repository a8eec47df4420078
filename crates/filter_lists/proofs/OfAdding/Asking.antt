-- What an addition asks of the rows, asked of the tables.
use Rattle.std.proofs.Common.{◌≡◌, ℕ, ◌≤◌, ◌==◌, ◌&&◌, not, List, [], ◌∷◌, length, Option, Some, None, option_map, is_some, false, refl, sym, ◌∙◌, ap, subst, arith}
use Rattle.std.specs.Prelude.{nat_le, find}
use Rattle.std.specs.List.{flat_map, list_any}
use Rattle.std.proofs.lemmas.List.{length-append, length-map}
use Rattle.tc_base.specs.declared.hook.Hook.{Hook}
use Rattle.tc_base.specs.declared.hook.Hook.TheVariants as hooks
use Rattle.filter_state.specs.declared.refusal.Refusal.TheVariants as refusals
use Rattle.filter_state.specs.Tables.{in_table, table_count}
use Rattle.filter_state.specs.Refusals.{when, handle_taken, tables_full}
use Rattle.filter_state.specs.Steps.{pref_below, pref_for}
use Rattle.filter_tables.specs.Plain.{PlainMask, PlainTable}
use Rattle.filter_tables.specs.Places.{item_at, place_where}
use Rattle.filter_tables.specs.Changes.{count_of, has_handle_in, is_table}
use Rattle.filter_tables.specs.Room.{TableRoom}
use Rattle.filter_tables.specs.Rows.{tables_on, row_of, rows_of_mask, all_rows}
use Rattle.row_laws.proofs.OfLookups.Placed.{place_any}
use Rattle.filter_state.proofs.Free.{length_filter_le}
use Rattle.row_laws.proofs.OfLookups.Found.{rows_found, rows_any}
use Rattle.row_laws.proofs.OfLookups.Tables.{count_found}
use Rattle.row_laws.proofs.OfLookups.Lowest.{lowest_found}
use Rattle.row_laws.proofs.OfLookups.Handles.{handle_found, handle_missing}
use Rattle.hook_lists.specs.declared.kept.Kept.{Kept}
use Rattle.hook_lists.specs.States.{both_of, room_on, state_of, AreKept}
use Rattle.hook_lists.proofs.Sought.{place_nowhere, its_names}
use Rattle.hook_lists.proofs.Asked.{IsAt, IsNowhere}

-- what is said of a table's own chain and pref is said of those that it was found by
pub by_names : {V : Type 0} (says : ℕ → ℕ → V) (v : V) (kept : Kept) (hook : Hook) (chain pref place : ℕ) (t : PlainTable) → IsAt kept hook chain pref place t
    → says t.chain t.pref ≡ v → says chain pref ≡ v
by_names says v kept hook chain pref place t at said =
    let names = its_names (tables_on hook (both_of kept)) chain pref place t at.found at.there in
    subst (λ n. says chain n ≡ v) names.1 (subst (λ n. says n t.pref ≡ v) names.0 said)

pub missing : (kept : Kept) (hook : Hook) (chain pref : ℕ) → IsNowhere kept hook chain pref → list_any (is_table chain pref) (tables_on hook (both_of kept)) ≡ false
missing kept hook chain pref nowhere = place_nowhere (is_table chain pref) (tables_on hook (both_of kept)) nowhere

pub tables_same : (hook : Hook) (kept : Kept) → (room_on hook kept).tables ≡ tables_on hook (both_of kept)
tables_same hooks.Ingress kept = refl
tables_same hooks.Egress kept = refl

-- ---- handles
pub taken_found : (kept : Kept) (hook : Hook) (chain pref place handle : ℕ) (t : PlainTable) → AreKept kept → IsAt kept hook chain pref place t
    → handle_taken (state_of kept) hook chain pref (Some handle) ≡ when (is_some (place_where (has_handle_in handle) t.masks)) refusals.HandleTaken
taken_found kept hook chain pref place handle t are at =
    by_names (λ n m. handle_taken (state_of kept) hook n m (Some handle)) (when (is_some (place_where (has_handle_in handle) t.masks)) refusals.HandleTaken) kept hook chain pref place t at
    (ap (λ b. when b refusals.HandleTaken) (handle_found (both_of kept) hook place handle t are.whole at.there ∙ sym (place_any (has_handle_in handle) t.masks)))

pub taken_nowhere : (kept : Kept) (hook : Hook) (chain pref : ℕ) (given : Option ℕ) → IsNowhere kept hook chain pref → handle_taken (state_of kept) hook chain pref given ≡ None
taken_nowhere kept hook chain pref None nowhere = refl
taken_nowhere kept hook chain pref (Some handle) nowhere =
    ap (λ b. when b refusals.HandleTaken) (handle_missing (both_of kept) hook chain pref handle (missing kept hook chain pref nowhere))

-- ---- tables
pub full_is : (kept : Kept) (hook : Hook) (chain pref : ℕ) → AreKept kept
    → tables_full (state_of kept) hook chain pref
    ≡ when (not (is_some (place_where (is_table chain pref) (tables_on hook (both_of kept)))) && nat_le 256 (length (tables_on hook (both_of kept)))) refusals.TablesFull
full_is kept hook chain pref are =
    ap (λ b. when (not b && nat_le 256 (table_count hook (all_rows (both_of kept)))) refusals.TablesFull)
    (rows_any (both_of kept) hook chain pref are.whole ∙ sym (place_any (is_table chain pref) (tables_on hook (both_of kept))))
    ∙ ap (λ n. when (not (is_some (place_where (is_table chain pref) (tables_on hook (both_of kept)))) && nat_le 256 n) refusals.TablesFull)
    (count_found (both_of kept) hook are.whole are.sound.together)

pub pref_is : (kept : Kept) (hook : Hook) (chain : ℕ) (given lowest : Option ℕ) (room : TableRoom) → AreKept kept → room ≡ room_on hook kept
    → lowest ≡ option_map (λ (t : PlainTable). t.pref) (find (λ (t : PlainTable). t.chain == chain) room.tables) → given ≡ None
    → pref_below lowest ≡ pref_for (state_of kept) hook chain given
pref_is kept hook chain given lowest room are same is none =
    ap pref_below
    (is ∙ ap (λ (ts : List PlainTable). option_map (λ (t : PlainTable). t.pref) (find (λ (t : PlainTable). t.chain == chain) ts)) (ap (λ (r : TableRoom). r.tables) same ∙ tables_same hook kept)
    ∙ sym (lowest_found (both_of kept) hook chain are.whole))
    ∙ ap (pref_for (state_of kept) hook chain) (sym none)

-- ---- few filters
length_rows : (hook : Hook) (t : PlainTable) (masks : List PlainMask) → length (flat_map (rows_of_mask hook t) masks) ≡ count_of masks
length_rows hook t [] = refl
length_rows hook t (m ∷ masks) =
    omega (arith, length-append (rows_of_mask hook t m) (flat_map (rows_of_mask hook t) masks), length-map m.filters (row_of hook t m), length_rows hook t masks)

pub few_in_table : (kept : Kept) (hook : Hook) (place : ℕ) (t : PlainTable) → AreKept kept → item_at (tables_on hook (both_of kept)) place ≡ Some t → count_of t.masks ≤ 4096
few_in_table kept hook place t are there =
    let same = ap length (rows_found (both_of kept) hook place t are.whole there) in
    omega (arith, same, length_filter_le (in_table hook t.chain t.pref) (all_rows (both_of kept)), length_rows hook t t.masks, are.sound.filters)
