-- Tables put one behind the other.
use Rattle.std.proofs.Common.{◌≡◌, ◌∙◌, ℕ, ◌+◌, ◌<◌, ◌≤◌, List, [], ◌∷◌, ◌++◌, length, map, take, slice_get, Some, refl, sym, ap, subst, le_refl, arith}
use Rattle.std.proofs.lemmas.List.{take_all, take_more, map-append, length-map}
use Rattle.std.proofs.lemmas.Option.{slice_get_within, get_or_from_slice_get}
use Rattle.tc_base.specs.declared.hook.Hook.{Hook}
use Rattle.store_history.specs.declared.history.Commit.{Commit}
use Rattle.store_history.specs.History.{root_of, edits_of}
use Rattle.store_history.specs.Reads.{read_all}
use Rattle.block_codec.specs.OfReadings.Read.{table_in}
use Rattle.block_codec.specs.declared.table.StoredTable.{StoredTable}
use Rattle.visit_room.specs.declared.names.MaskName.{MaskName}
use Rattle.visit_room.specs.declared.table_head.TableHead.{TableHead}
use Rattle.visit_room.specs.Heads.{last_masks, with_mask_behind, IsBelow}
use Rattle.miniq_pair.specs.Heads.{PlainTable, plain, head_root, TellsHead}

-- a table of which these masks were told
abbrev pub told_with : StoredTable → List MaskName → TableHead
told_with table masks = record { serial = table.serial; chain = table.chain; pref = table.pref; protocol = table.protocol; masks = masks }

pub last_of : (front : List TableHead) (table : StoredTable) (masks : List MaskName) → last_masks (front ++ told_with table masks ∷ []) ≡ Some masks
last_of [] table masks = refl
last_of (head ∷ []) table masks = refl
last_of (head ∷ next ∷ front) table masks = last_of (next ∷ front) table masks

pub mask_behind : (front : List TableHead) (table : StoredTable) (masks : List MaskName) (mask : MaskName)
    → with_mask_behind mask (front ++ told_with table masks ∷ []) ≡ front ++ told_with table (masks ++ mask ∷ []) ∷ []
mask_behind [] table masks mask = refl
mask_behind (head ∷ []) table masks mask = refl
mask_behind (head ∷ next ∷ front) table masks mask = ap (λ hs. head ∷ hs) (mask_behind (next ∷ front) table masks mask)

-- there is room for one mask more
pub below : (heads : List TableHead) (masks : List MaskName) → last_masks heads ≡ Some masks → length masks < 16 → IsBelow 16 (last_masks heads)
below heads masks is few = subst (IsBelow 16) (sym is) few

-- a table at a place is the next of those up to it
pub one_more : {A B : Type 0} (f : A → B) (xs : List A) (place : ℕ) (x : A) → slice_get xs place ≡ Some x → map f (take (place + 1) xs) ≡ map f (take place xs) ++ f x ∷ []
one_more f xs place x at = ap (map f) (take_more xs place x (slice_get_within xs place x at) ∙ ap (λ y. take place xs ++ y ∷ []) (get_or_from_slice_get xs place x x at)) ∙ map-append f (take place xs) (x ∷ [])

-- ---- what the law tells of the end
pub record AtEnd {E : Type 0} (heads : ℕ → List PlainTable) (h : List (Commit E)) (hook : Hook) : Type 0 where
  pub tables : List StoredTable
  pub read : read_all table_in (root_of h (head_root hook)).chain ≡ Some tables
  pub early : (root_of h (head_root hook)).stamp ≤ length (edits_of h)
  pub are : (k : ℕ) → (root_of h (head_root hook)).stamp ≤ k → k ≤ length (edits_of h) → map plain tables ≡ heads k

pub at_end : {E : Type 0} (heads : ℕ → List PlainTable) (h : List (Commit E)) (hook : Hook) → TellsHead heads (root_of (take (length h) h) (head_root hook)) (length (edits_of (take (length h) h))) → AtEnd heads h hook
at_end {E} heads h hook tells = record { tables = now.tables; read = now.read; early = now.early; are = now.are }
  where
    same : take (length h) h ≡ h
    same = take_all (length h) h (le_refl (length h))

    now : TellsHead heads (root_of h (head_root hook)) (length (edits_of h))
    now = subst (λ (g : List (Commit E)). TellsHead heads (root_of g (head_root hook)) (length (edits_of g))) same tells

-- so there are few
pub few_tables : {E : Type 0} (heads : ℕ → List PlainTable) (h : List (Commit E)) (hook : Hook) (end : AtEnd heads h hook) → ((k : ℕ) → length (heads k) ≤ 256) → length end.tables ≤ 256
few_tables heads h hook end few = let is = end.are (root_of h (head_root hook)).stamp (le_refl _) end.early in
    let same = length-map end.tables plain in let long = ap length is in let low = few (root_of h (head_root hook)).stamp in omega arith
