-- The numbers of the tables of a sound state are in their ranges.
use Rattle.std.proofs.Common.{◌≡◌, ℕ, ◌==◌, Bool, true, false, List, [], ◌∷◌, slice_get, Some, subst, sym}
use Rattle.std.specs.Prelude.{if◌then◌else◌}
use Rattle.tc_base.specs.declared.hook.Hook.{Hook}
use Rattle.tc_base.specs.declared.hook.Proto.{Proto}
use Rattle.act_kinds.specs.Ranges.{IsChain}
use Rattle.filter_state.specs.Lines.{IsPref, IsProtocol}
use Rattle.filter_state.specs.States.{Row, State}
use Rattle.filter_state.specs.Sound.{Each, IsRow, Sound}
use Rattle.filter_state.proofs.Pairs.{each_weaker}
use Rattle.row_laws.proofs.OfLookups.Found.{item_each}
use Rattle.walk_rules.specs.Questions.{Head}
use Rattle.walk_rules.specs.Heads.{head_with, in_front, with_row, heads_in, heads_on}
use Rattle.walk_rules.proofs.KeptHeads.{rows_on, on_have}
use Rattle.miniq_pair.specs.Heads.{hook_number}
use Rattle.hook_law.specs.Records.{StatedTable}
use Rattle.hook_store_law.specs.Stated.{TableNames, table_stated, tables_at}
use Rattle.desk_masks.proofs.OfMaskResizes.Resizing.{mapped_at}
use Rattle.desk_heads.proofs.OfHeadCommits.Places.{get_item, of_hook}

abbrev pub AreInRange : ℕ → ℕ → Proto → Type 0
AreInRange chain pref protocol = IsChain chain × IsPref pref × IsProtocol protocol

with_range : (x : Row) (heads : List Head) → AreInRange x.chain x.pref x.protocol → Each (λ (h : Head). AreInRange h.chain h.pref h.protocol) heads
    → Each (λ (h : Head). AreInRange h.chain h.pref h.protocol) (with_row x heads)
with_range x [] own all = (own, tt)
with_range x (h ∷ hs) own all = pick (h.serial == x.table)
  where
    pick : (t : Bool) → Each (λ (g : Head). AreInRange g.chain g.pref g.protocol) (if t then head_with x (in_front x.mask_serial h.masks) ∷ hs else head_with x (x.mask_serial ∷ []) ∷ h ∷ hs)
    pick true = (own, all.1)
    pick false = (own, all)

heads_range : (rows : List Row) → Each (λ (row : Row). AreInRange row.chain row.pref row.protocol) rows → Each (λ (h : Head). AreInRange h.chain h.pref h.protocol) (heads_in rows)
heads_range [] all = tt
heads_range (x ∷ rows) all = with_range x (heads_in rows) all.0 (heads_range rows all.1)

on_range : (s : State) (hook : Hook) → Sound s → Each (λ (h : Head). AreInRange h.chain h.pref h.protocol) (heads_on hook s)
on_range s hook sound = heads_range (rows_on hook s.rows)
    (each_weaker (λ (row : Row). (row.hook ≡ hook) × AreInRange row.chain row.pref row.protocol) (λ (row : Row). AreInRange row.chain row.pref row.protocol) (λ row both. both.1) (rows_on hook s.rows)
    (on_have (λ (row : Row). AreInRange row.chain row.pref row.protocol) hook s.rows
    (each_weaker (IsRow s) (λ (row : Row). AreInRange row.chain row.pref row.protocol) (λ row is. (is.chain, is.pref, is.protocol)) s.rows sound.rows)))

pub table_range : (s : State) (hook : Hook) (place : ℕ) (t : StatedTable TableNames) → Sound s → slice_get (tables_at s (hook_number hook)) place ≡ Some t → AreInRange t.names.chain t.names.pref t.names.protocol
table_range s hook place t sound at =
    let x = mapped_at table_stated (heads_on hook s) place t (subst (λ (ts : List (StatedTable TableNames)). slice_get ts place ≡ Some t) (of_hook s hook) at) in
    subst (λ (z : StatedTable TableNames). AreInRange z.names.chain z.names.pref z.names.protocol) (sym x.2)
    (item_each (λ (h : Head). AreInRange h.chain h.pref h.protocol) (heads_on hook s) place x.0 (on_range s hook sound) (get_item (heads_on hook s) place x.0 x.1))
