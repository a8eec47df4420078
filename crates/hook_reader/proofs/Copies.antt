-- Tables copied one behind the other, and tables that were read before.
use Rattle.std.proofs.Common.{◌≡◌, ◌∙◌, ℕ, ◌≤◌, true, is_some, List, [], ◌∷◌, ◌++◌, length, Option, Some, None, refl, sym, ap, subst, arith, le_refl}
use mathlib.Core.List.{IsPrefix}
use Rattle.store_history.specs.declared.history.Named.{Named}
use Rattle.store_history.specs.declared.history.Commit.{Commit}
use Rattle.store_history.specs.History.{root_of, first_block}
use Rattle.store_history.specs.Reads.{read_all}
use Rattle.store_history.proofs.Histories.{prefix_none, prefix_self, prefix_trans}
use Rattle.tc_base.specs.declared.hook.Hook.{Hook}
use Rattle.visit_room.specs.declared.names.MaskName.{MaskName}
use Rattle.visit_room.specs.declared.table_head.TableHead.{TableHead}
use Rattle.visit_room.specs.Heads.{last_masks, with_mask_behind}
use Rattle.filter_state.specs.declared.edit.Edit.{Edit}
use Rattle.block_codec.specs.declared.table.StoredTable.{StoredTable}
use Rattle.block_codec.specs.OfReadings.Read.{table_in}
use Rattle.miniq_pair.specs.Heads.{plain, told_of, head_root, HeadTold}
use Rattle.hook_store_law.proofs.Heading.{heads_most}
use Rattle.std.proofs.lemmas.List.{length-map}
use Rattle.miniq_pair.proofs.Putting as putting
use Rattle.root_word_laws.specs.Words.{StampsRise}
use Rattle.root_word_laws.proofs.Words.{one_stamp}
use Rattle.hook_law.specs.Keeping.{Keeps}
use Rattle.hook_store_law.specs.Stated.{hook_meaning}
use Rattle.hook_store_law.specs.Blocks.{hook_codec}
use Rattle.hook_store_law.specs.Told.{heads_after}
use Rattle.hook_store_law.proofs.OfVisits.Heads.{kept_told}
use Rattle.tc_base.specs.declared.hook.Hook.TheVariants as hooks
use Rattle.hook_reader.specs.KeptHeads.{Kept, IsKept, KeepsHeads}

-- ---- a head with fewer masks
abbrev pub as_stored : TableHead → StoredTable
as_stored head = record { serial = head.serial; chain = head.chain; pref = head.pref; protocol = head.protocol; masks = head.masks }

abbrev pub with_masks : TableHead → List MaskName → TableHead
with_masks head masks = putting.told_with (as_stored head) masks

pub last_is : (front : List TableHead) (head : TableHead) (masks : List MaskName) → last_masks (front ++ with_masks head masks ∷ []) ≡ Some masks
last_is front head masks = putting.last_of front (as_stored head) masks

pub mask_put : (front : List TableHead) (head : TableHead) (masks : List MaskName) (mask : MaskName) → with_mask_behind mask (front ++ with_masks head masks ∷ []) ≡ front ++ with_masks head (masks ++ mask ∷ []) ∷ []
mask_put front head masks mask = putting.mask_behind front (as_stored head) masks mask

-- ---- what is kept
pub none_kept : (h : List (Commit Edit)) (root : ℕ) → IsKept h root (record { stamp = 0; tables = [] })
none_kept h root = record { then = []; seen = prefix_none h; stamp = refl; stored = []; read = refl; told = refl }

pub kept_longer : (g h : List (Commit Edit)) (root : ℕ) (kept : Kept) → IsPrefix g h → IsKept g root kept → IsKept h root kept
kept_longer g h root kept prefix k = record { then = k.then; seen = prefix_trans k.then g h k.seen prefix; stamp = k.stamp; stored = k.stored; read = k.read; told = k.told }

pub now_kept : (h : List (Commit Edit)) (hook : Hook) (told : List TableHead) (stamp : ℕ) → stamp ≡ (root_of h (head_root hook)).stamp → HeadTold (λ k. heads_after h k hook) h hook told stamp
    → IsKept h (head_root hook) (record { stamp = stamp; tables = told })
now_kept h hook told stamp is t = record { then = h; seen = prefix_self h; stamp = is; stored = t.tables; read = t.read; told = t.told_are }

-- THE KEPT HEAD IS TOLD AGAIN where the root has its stamp, and some block
pub told_again : (h : List (Commit Edit)) (b block : ℕ) (hook : Hook) (kept : Kept) → Keeps hook_meaning hook_codec h b → b ≤ length h → StampsRise h → IsKept h (head_root hook) kept
    → (root_of h (head_root hook)).stamp ≡ kept.stamp → first_block (root_of h (head_root hook)).chain ≡ Some block
    → HeadTold (λ k. heads_after h k hook) h hook kept.tables kept.stamp
told_again h b block hook kept keeps low rise k stamp some =
    let root = head_root hook in
    let same : root_of k.then root ≡ root_of h root = one_stamp k.then h root block k.seen rise (sym (stamp ∙ k.stamp)) some in
    let read : read_all table_in (root_of h root).chain ≡ Some k.stored = subst (λ (n : Named). read_all table_in n.chain ≡ Some k.stored) same k.read in
    subst (λ (n : ℕ). HeadTold (λ j. heads_after h j hook) h hook kept.tables n) stamp
    (subst (λ (ts : List TableHead). HeadTold (λ j. heads_after h j hook) h hook ts (root_of h root).stamp) (sym k.told) (kept_told h b hook k.stored keeps low read))

-- a hook has few tables
pub few_told : (h : List (Commit Edit)) (b : ℕ) (hook : Hook) (told : List TableHead) (stamp : ℕ) → Keeps hook_meaning hook_codec h b → b ≤ length h → HeadTold (λ k. heads_after h k hook) h hook told stamp → length told ≤ 256
few_told h b hook told stamp keeps low t =
    let most = heads_most h b stamp hook keeps low in let are = ap length (t.are stamp (le_refl stamp) t.early) in
    let one = length-map t.tables plain in let two = ap length t.told_are in let three = length-map t.tables told_of in omega (arith, most, are, one, two, three)

-- the same, by the word that was loaded
pub told_by_word : (old h : List (Commit Edit)) (b root stamp : ℕ) (hook : Hook) (first : Option ℕ) (kept : Kept) (into : List TableHead) → IsPrefix old h → Keeps hook_meaning hook_codec h b → b ≤ length h → StampsRise h
    → root ≡ head_root hook → first ≡ first_block (root_of h root).chain → stamp ≡ (root_of h root).stamp → IsKept old (head_root hook) kept → is_some first ≡ true → stamp ≡ kept.stamp → into ≡ kept.tables
    → HeadTold (λ k. heads_after h k hook) h hook into stamp
told_by_word old h b root stamp hook first kept into prefix keeps low rise root_is first_is stamp_is k some same tables = pick first refl some
  where
    pick : (o : Option ℕ) → first ≡ o → is_some o ≡ true → HeadTold (λ j. heads_after h j hook) h hook into stamp
    pick None e some = absurd (cc some)
    pick (Some block) e some = subst (λ (ts : List TableHead). HeadTold (λ j. heads_after h j hook) h hook ts stamp) (sym tables)
        (subst (λ (n : ℕ). HeadTold (λ j. heads_after h j hook) h hook kept.tables n) (sym same)
        (told_again h b block hook kept keeps low rise (kept_longer old h (head_root hook) kept prefix k)
        (subst (λ (r : ℕ). (root_of h r).stamp ≡ kept.stamp) root_is (sym stamp_is ∙ same))
        (subst (λ (r : ℕ). first_block (root_of h r).chain ≡ Some block) root_is (sym first_is ∙ e))))

pub heads_longer : (g h : List (Commit Edit)) (ingress egress : Kept) → IsPrefix g h → KeepsHeads g ingress egress → KeepsHeads h ingress egress
heads_longer g h ingress egress prefix k = (kept_longer g h (head_root hooks.Ingress) ingress prefix k.0, kept_longer g h (head_root hooks.Egress) egress prefix k.1)

pub no_heads : (h : List (Commit Edit)) (ingress egress : Kept) → ingress ≡ record { stamp = 0; tables = [] } → egress ≡ record { stamp = 0; tables = [] } → KeepsHeads h ingress egress
no_heads h ingress egress one two = (subst (IsKept h (head_root hooks.Ingress)) (sym one) (none_kept h (head_root hooks.Ingress)), subst (IsKept h (head_root hooks.Egress)) (sym two) (none_kept h (head_root hooks.Egress)))
