-- How many tables a hook has, and how many masks a table.
use Rattle.std.proofs.Common.{◌≡◌, ◌∙◌, ℕ, zero, suc, ◌<◌, ◌≤◌, List, [], ◌∷◌, length, get_or, Some, refl, sym, ap, subst, arith}
use Rattle.std.specs.Prelude.{map}
use Rattle.std.proofs.lemmas.List.{length-map}
use Rattle.tc_base.specs.declared.hook.Hook.{Hook}
use Rattle.filter_tables.specs.declared.filter_table.FilterTable.{FilterTable}
use Rattle.filter_tables.specs.Plain.{PlainTable}
use Rattle.filter_tables.specs.Places.{item_at}
use Rattle.filter_tables.specs.Rows.{tables_on}
use Rattle.filter_tables.specs.Seen.{plain_table}
use Rattle.hook_lists.specs.declared.kept.Kept.{Kept}
use Rattle.hook_lists.specs.States.{both_of, AreKept}
use Rattle.row_laws.proofs.OfLookups.Tables.{count_found}
use Rattle.row_laws.proofs.OfLookups.Masks.{masks_counted}

few_tables : (kept : Kept) (hook : Hook) → AreKept kept → length (tables_on hook (both_of kept)) ≤ 256
few_tables kept hook is =
    let sound = is.sound in
    subst (λ n. n ≤ 256) (count_found (both_of kept) hook is.whole sound.together) (sound.tables hook)

few_masks : (kept : Kept) (hook : Hook) (place : ℕ) (t : PlainTable) → AreKept kept → item_at (tables_on hook (both_of kept)) place ≡ Some t → length t.masks ≤ 16
few_masks kept hook place t is there =
    let sound = is.sound in
    subst (λ n. n ≤ 16) (masks_counted (both_of kept) hook place t is.whole there) (sound.masks hook t.chain t.pref)

-- ---- tables as they are lent
pub item_seen : (tables : List FilterTable) (place : ℕ) (d : FilterTable) → place < length tables → item_at (map plain_table tables) place ≡ Some (plain_table (get_or tables place d))
item_seen [] place d within = absurd (omega arith)
item_seen (t ∷ tables) zero d within = refl
item_seen (t ∷ tables) (suc place) d within = item_seen tables place d (omega arith)

pub tables_fit : (kept : Kept) (hook : Hook) (tables : List FilterTable) → AreKept kept → map plain_table tables ≡ tables_on hook (both_of kept) → length tables ≤ 256
tables_fit kept hook tables is seen =
    let few = few_tables kept hook is in
    let count : length (map plain_table tables) ≡ length tables = length-map tables plain_table in
    omega (arith, ap length seen, few, count)

pub masks_fit : (kept : Kept) (hook : Hook) (tables : List FilterTable) (place : ℕ) (table : FilterTable) → AreKept kept → map plain_table tables ≡ tables_on hook (both_of kept) →
    place < length tables → table ≡ get_or tables place table → length (plain_table table).masks ≤ 16
masks_fit kept hook tables place table is seen within at =
    few_masks kept hook place (plain_table table) is (ap (λ ts. item_at ts place) (sym seen) ∙ item_seen tables place table within ∙ ap (λ t. Some (plain_table t)) (sym at))
