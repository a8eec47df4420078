-- Where a mask stands among the tables of a state: a mask that two tables name stands at one place.
use Rattle.std.proofs.Common.{◌≡◌, ◌∙◌, ◌⊎◌, inl, inr, ℕ, zero, suc, ◌<◌, List, [], ◌∷◌, map, slice_get, Option, Some, refl, sym, ap, subst, le_refl}
use Rattle.std.proofs.lemmas.Option.{same_Some}
use Rattle.tc_base.specs.declared.hook.Hook.{Hook}
use Rattle.tc_base.specs.declared.hook.Hook.TheVariants as hooks
use Rattle.store_history.specs.declared.history.Link.{Link}
use Rattle.store_history.specs.declared.history.Commit.{Commit}
use Rattle.store_history.specs.History.{root_of}
use Rattle.visit_room.specs.declared.names.MaskName.{MaskName}
use Rattle.filter_state.specs.declared.edit.Edit.{Edit}
use Rattle.filter_state.specs.States.{State}
use Rattle.filter_state.specs.Sound.{Sound}
use Rattle.filter_tables.specs.Places.{item_at}
use Rattle.block_codec.specs.declared.table.StoredTable.{StoredTable}
use Rattle.walk_rules.specs.Heads.{heads_on}
use Rattle.head_laws.specs.Heads as heads
use Rattle.head_laws.proofs.OnePlace.{mask_once}
use Rattle.miniq_pair.specs.Heads.{hook_number}
use Rattle.hook_law.specs.Places.{head_root}
use Rattle.hook_law.specs.Records.{Slotted, TableRecord, StatedTable, stated_table}
use Rattle.hook_law.specs.Chains.{masks_in, masks_read}
use Rattle.hook_law.specs.Meaning.{point_of}
use Rattle.hook_law.specs.Standing.{Head as HeadRole, IsIn, Names}
use Rattle.hook_law.specs.Telling.{ReadsHead}
use Rattle.hook_law.specs.Keeping.{Present}
use Rattle.hook_store_law.specs.Stated.{TableNames, hook_meaning, table_stated, tables_at}
use Rattle.hook_store_law.specs.Blocks.{mask_slotted, hook_codec}
use Rattle.hook_store_law.specs.OfEdits.Premises.{now}
use Rattle.root_pool_laws.proofs.Apart.{in_append, in_left, in_right}
use Rattle.desk_masks.proofs.OfMaskResizes.Resizing.{mapped_at}
use Rattle.desk_masks.specs.OfHeadChains.Chains.{stated_of, IsNamedIn}
use Rattle.desk_heads.specs.OfHeadCommits.Listed.{HasSerial}

pub get_item : {X : Type 0} (xs : List X) (n : ℕ) (x : X) → slice_get xs n ≡ Some x → item_at xs n ≡ Some x
get_item [] n x e = absurd (cc e)
get_item (z ∷ zs) zero x e = e
get_item (z ∷ zs) (suc n) x e = get_item zs n x e

pub item_get : {X : Type 0} (xs : List X) (n : ℕ) (x : X) → item_at xs n ≡ Some x → slice_get xs n ≡ Some x
item_get [] n x e = absurd (cc e)
item_get (z ∷ zs) zero x e = e
item_get (z ∷ zs) (suc n) x e = item_get zs n x e

pub map_at : {A B : Type 0} (f : A → B) (xs : List A) (j : ℕ) (x : A) → slice_get xs j ≡ Some x → slice_get (map f xs) j ≡ Some (f x)
map_at f [] j x e = absurd (cc e)
map_at f (z ∷ zs) zero x e = let same : z ≡ x = cc e in ap (λ v. Some (f v)) same
map_at f (z ∷ zs) (suc j) x e = map_at f zs j x e

-- ---- the tables of a state
pub of_hook : (s : State) (hook : Hook) → tables_at s (hook_number hook) ≡ map table_stated (heads_on hook s)
of_hook s hooks.Ingress = refl
of_hook s hooks.Egress = refl

-- so they stand among its heads
stands_among : (s : State) (hook : Hook) (m : ℕ) (h : HasSerial (tables_at s (hook_number hook)) m) → heads.IsMaskAt (heads_on hook s) h.place h.among m
stands_among s hook m h =
    let x = mapped_at table_stated (heads_on hook s) h.place h.table (subst (λ (ts : List (StatedTable TableNames)). slice_get ts h.place ≡ Some h.table) (of_hook s hook) h.there) in record {
      head = x.0;
      table_there = get_item (heads_on hook s) h.place x.0 x.1;
      mask_there = get_item x.0.masks h.among m (subst (λ (t : StatedTable TableNames). slice_get t.masks h.among ≡ Some m) x.2 h.has);
    }

-- and in a sound state at one place of one hook
pub one_place : (s : State) → Sound s → (hook other : Hook) (m : ℕ) (x : HasSerial (tables_at s (hook_number hook)) m) (z : HasSerial (tables_at s (hook_number other)) m)
    → (hook ≡ other) × (x.place ≡ z.place) × (x.among ≡ z.among)
one_place s sound hook other m x z = mask_once s sound hook other m x.place z.place x.among z.among (stands_among s hook m x) (stands_among s other m z)

-- ---- the names of a chain
in_masks : (ts : List (TableRecord TableNames)) (x : Slotted) → IsIn x (masks_in ts) → (place : ℕ) × (among : ℕ) × (t : TableRecord TableNames) × (slice_get ts place ≡ Some t) × (slice_get t.masks among ≡ Some x)
in_masks [] x i = let e = i.1 in absurd (cc e)
in_masks (t ∷ ts) x i = pick (in_append t.masks (masks_in ts) x i) (in_masks ts x)
  where
    Found : List (TableRecord TableNames) → Type 0
    Found rs = (place : ℕ) × (among : ℕ) × (r : TableRecord TableNames) × (slice_get rs place ≡ Some r) × (slice_get r.masks among ≡ Some x)

    pick : IsIn x t.masks ⊎ IsIn x (masks_in ts) → (IsIn x (masks_in ts) → Found ts) → Found (t ∷ ts)
    pick (inl own) more = (0, own.0, t, refl, own.1)
    pick (inr rest) more = let r = more rest in (suc r.0, r.1, r.2, r.3, r.4)

-- a chain that reads as a hook's tables names masks of these alone
pub chain_has : (hook : ℕ) (chain : List Link) (s : State) (m slot : ℕ) → ReadsHead hook_meaning hook_codec hook chain s → Names hook_codec chain m slot → HasSerial (tables_at s hook) m
chain_has hook chain s m slot o names =
    let x : Slotted = record { serial = m; slot = slot } in
    let i = in_masks o.tables x (subst (λ (r : Option (List (TableRecord TableNames))). IsIn x (masks_read r)) o.read names) in record {
      place = i.0;
      among = i.1;
      table = stated_table i.2;
      there = subst (λ (ts : List (StatedTable TableNames)). slice_get ts i.0 ≡ Some (stated_table i.2)) o.are (map_at stated_table o.tables i.0 i.2 i.3);
      has = map_at (λ (z : Slotted). z.serial) i.2.masks i.1 x i.4;
    }

-- so does the root of a head
pub root_has : (h : List (Commit Edit)) (m slot other : ℕ) → Present hook_meaning hook_codec h → other < 2 → Names hook_codec (root_of h (head_root other)).chain m slot → HasSerial (tables_at (now h) other) m
root_has h m slot other p one names = let t = p.tells (head_root other) (HeadRole other) (one, refl) in
    chain_has other (root_of h (head_root other)).chain (now h) m slot (t.reads (point_of h) t.early (le_refl (point_of h))) names

-- ---- the names of stored tables
module _ (s : State) (hook : Hook) (tables : List StoredTable) (are : map stated_of tables ≡ tables_at s (hook_number hook)) (m : ℕ) where
  -- a mask that they name is one of the state's tables, at the same place
  abbrev pub state_has : (slot : ℕ) → IsNamedIn tables m slot → HasSerial (tables_at s (hook_number hook)) m
  state_has slot n = record {
    place = n.place;
    among = n.among;
    table = stated_of n.table;
    there = subst (λ (ts : List (StatedTable TableNames)). slice_get ts n.place ≡ Some (stated_of n.table)) are (map_at stated_of tables n.place n.table n.there);
    has = map_at (λ (z : Slotted). z.serial) (map mask_slotted n.table.masks) n.among (mask_slotted n.name) (map_at mask_slotted n.table.masks n.among n.name n.has) ∙ ap Some n.serial_is;
  }

  -- tables of a sound state name a mask with one slot
  pub one_slot : Sound s → (slot other : ℕ) → IsNamedIn tables m slot → IsNamedIn tables m other → slot ≡ other
  one_slot sound slot other n k =
      let at = one_place s sound hook hook m (state_has slot n) (state_has other k) in
      let table : n.table ≡ k.table = same_Some n.table k.table (sym n.there ∙ (ap (slice_get tables) at.1 ∙ k.there)) in
      let name : n.name ≡ k.name = same_Some n.name k.name (sym n.has ∙ ((λ t. slice_get (table t).masks (at.2 t)) ∙ k.has)) in
      sym n.slot_is ∙ (ap (λ (z : MaskName). z.slot) name ∙ k.slot_is)

-- a mask of the tables' serials is named by them with a slot
pub has_named : (tables : List StoredTable) (m : ℕ) → HasSerial (map stated_of tables) m → (slot : ℕ) × IsNamedIn tables m slot
has_named tables m h =
    let t = mapped_at stated_of tables h.place h.table h.there in
    let n = mapped_at (λ (z : Slotted). z.serial) (map mask_slotted t.0.masks) h.among m (subst (λ (z : StatedTable TableNames). slice_get z.masks h.among ≡ Some m) t.2 h.has) in
    let k = mapped_at mask_slotted t.0.masks h.among n.0 n.1 in
    (k.0.slot, record { place = h.place; among = h.among; table = t.0; name = k.0; there = t.1; has = k.1; serial_is = sym (n.2 ∙ ap (λ (z : Slotted). z.serial) k.2); slot_is = refl })

-- and the chain of a head's root names a mask of the state's tables
masks_have : (ts : List (TableRecord TableNames)) (place among : ℕ) (t : TableRecord TableNames) (x : Slotted) → slice_get ts place ≡ Some t → slice_get t.masks among ≡ Some x → IsIn x (masks_in ts)
masks_have [] place among t x e f = absurd (cc e)
masks_have (r ∷ ts) zero among t x e f = in_left r.masks (masks_in ts) x (among, subst (λ (z : TableRecord TableNames). slice_get z.masks among ≡ Some x) (sym (same_Some r t e)) f)
masks_have (r ∷ ts) (suc place) among t x e f = in_right r.masks (masks_in ts) x (masks_have ts place among t x e f)

has_chain : (hook : ℕ) (chain : List Link) (s : State) (m : ℕ) → ReadsHead hook_meaning hook_codec hook chain s → HasSerial (tables_at s hook) m → (slot : ℕ) × Names hook_codec chain m slot
has_chain hook chain s m o h =
    let t = mapped_at stated_table o.tables h.place h.table (subst (λ (ts : List (StatedTable TableNames)). slice_get ts h.place ≡ Some h.table) (sym o.are) h.there) in
    let x = mapped_at (λ (z : Slotted). z.serial) t.0.masks h.among m (subst (λ (z : StatedTable TableNames). slice_get z.masks h.among ≡ Some m) t.2 h.has) in (
      x.0.slot,
      subst (λ (r : Option (List (TableRecord TableNames))). IsIn (record { serial = m; slot = x.0.slot }) (masks_read r)) (sym o.read)
          (subst (λ (n : ℕ). IsIn (record { serial = n; slot = x.0.slot }) (masks_in o.tables)) (sym x.2) (masks_have o.tables h.place h.among t.0 x.0 t.1 x.1)),
    )

pub has_root : (h : List (Commit Edit)) (m other : ℕ) → Present hook_meaning hook_codec h → other < 2 → HasSerial (tables_at (now h) other) m → (slot : ℕ) × Names hook_codec (root_of h (head_root other)).chain m slot
has_root h m other p one has = let t = p.tells (head_root other) (HeadRole other) (one, refl) in
    has_chain other (root_of h (head_root other)).chain (now h) m (t.reads (point_of h) t.early (le_refl (point_of h))) has
