-- Heads that are told one after the other, each with its masks.
use Rattle.std.proofs.Common.{◌≡◌, ◌∙◌, ℕ, ◌+◌, ◌<◌, ◌≤◌, List, [], ◌∷◌, ◌++◌, length, take, append_assoc, append-nil, Option, Some, None, option_map, refl, sym, ap, arith}
use Rattle.std.specs.Prelude.{map}
use Rattle.std.proofs.lemmas.List.{length-map, length_push, length-take-le}
use Rattle.std.proofs.lemmas.Option.{none-some, same_Some}
use Rattle.tc_base.specs.declared.hook.Proto.{Proto}
use Rattle.visit_room.specs.declared.names.MaskName.{MaskName}
use Rattle.visit_room.specs.declared.table_head.TableHead.{TableHead}
use Rattle.visit_room.specs.Heads.{bare_head, last_masks, with_mask_behind, IsBelow}
use Rattle.filter_tables.specs.declared.mask_list.MaskList.{MaskList}
use Rattle.filter_tables.specs.declared.filter_table.FilterTable.{FilterTable}
use Rattle.filter_tables.specs.Seen.{plain_table}
use Rattle.filter_tables.specs.SeenMask.{plain_mask}
use Rattle.walk_rules.specs.Questions.{Head}
use Rattle.walk_steps.specs.Told.{head_told, heads_told, mask_serials}
use Rattle.head_laws.specs.Heads.{serials_of, head_of}
use Rattle.classify_walk.specs.Heads.{with_masks_behind}

serials_more : (masks : List MaskName) (mask : MaskName) → mask_serials (masks ++ (mask ∷ [])) ≡ mask_serials masks ++ (mask.serial ∷ [])
serials_more [] mask = refl
serials_more (m ∷ masks) mask = ap (λ ns. m.serial ∷ ns) (serials_more masks mask)

abbrev with_serials : TableHead → List ℕ → Head
with_serials head masks = record { serial = head.serial; chain = head.chain; pref = head.pref; protocol = head.protocol; masks = masks }

pub told_more : (mask : MaskName) (heads : List TableHead) → heads_told (with_mask_behind mask heads) ≡ with_masks_behind (mask.serial ∷ []) (heads_told heads)
told_more mask [] = refl
told_more mask (head ∷ []) = ap (λ ns. with_serials head ns ∷ []) (serials_more head.masks mask)
told_more mask (head ∷ next ∷ heads) = ap (λ hs. head_told head ∷ hs) (told_more mask (next ∷ heads))

abbrev with_masks : Head → List ℕ → Head
with_masks head masks = record head { masks = masks }

pub behind_both : (xs ys : List ℕ) (heads : List Head) → with_masks_behind ys (with_masks_behind xs heads) ≡ with_masks_behind (xs ++ ys) heads
behind_both xs ys [] = refl
behind_both xs ys (head ∷ []) = ap (λ ns. with_masks head ns ∷ []) (append_assoc head.masks xs ys)
behind_both xs ys (head ∷ next ∷ []) = ap (λ hs. head ∷ hs) (behind_both xs ys (next ∷ []))
behind_both xs ys (head ∷ next ∷ third ∷ heads) = ap (λ hs. head ∷ hs) (behind_both xs ys (next ∷ third ∷ heads))

pub last_more : (mask : MaskName) (heads : List TableHead) → last_masks (with_mask_behind mask heads) ≡ option_map (λ masks. masks ++ (mask ∷ [])) (last_masks heads)
last_more mask [] = refl
last_more mask (head ∷ []) = refl
last_more mask (head ∷ next ∷ []) = last_more mask (next ∷ [])
last_more mask (head ∷ next ∷ third ∷ heads) = last_more mask (next ∷ third ∷ heads)

pub last_pushed : (heads : List TableHead) (serial chain pref : ℕ) (protocol : Proto) → last_masks (heads ++ (bare_head serial chain pref protocol ∷ [])) ≡ Some []
last_pushed [] serial chain pref protocol = refl
last_pushed (head ∷ []) serial chain pref protocol = refl
last_pushed (head ∷ next ∷ heads) serial chain pref protocol = last_pushed (next ∷ heads) serial chain pref protocol

pub told_pushed : (heads : List TableHead) (serial chain pref : ℕ) (protocol : Proto) (masks : List ℕ) →
    with_masks_behind masks (heads_told (heads ++ (bare_head serial chain pref protocol ∷ [])))
    ≡ heads_told heads ++ (record { serial = serial; chain = chain; pref = pref; protocol = protocol; masks = masks } ∷ [])
told_pushed [] serial chain pref protocol masks = refl
told_pushed (head ∷ []) serial chain pref protocol masks = refl
told_pushed (head ∷ next ∷ heads) serial chain pref protocol masks = ap (λ hs. head_told head ∷ hs) (told_pushed (next ∷ heads) serial chain pref protocol masks)

pub behind_none : (heads : List Head) → with_masks_behind [] heads ≡ heads
behind_none [] = refl
behind_none (head ∷ []) = ap (λ ns. with_masks head ns ∷ []) (append-nil head.masks)
behind_none (head ∷ next ∷ heads) = ap (λ hs. head ∷ hs) (behind_none (next ∷ heads))

-- a mask more, where some were told
pub mask_told : (masks : List MaskList) (at : ℕ) (mask : MaskList) (slot : ℕ) (start old new : List TableHead) → take (at + 1) masks ≡ take at masks ++ (mask ∷ []) →
    new ≡ with_mask_behind (record { serial = mask.serial; slot = slot }) old →
    heads_told old ≡ with_masks_behind (serials_of (map plain_mask (take at masks))) (heads_told start) →
    heads_told new ≡ with_masks_behind (serials_of (map plain_mask (take (at + 1) masks))) (heads_told start)
mask_told masks at mask slot start old new taken is so_far =
    ap heads_told is ∙ told_more (record { serial = mask.serial; slot = slot }) old ∙ ap (with_masks_behind (mask.serial ∷ [])) so_far
    ∙ behind_both (serials_of (map plain_mask (take at masks))) (mask.serial ∷ []) (heads_told start)
    ∙ ap (λ ns. with_masks_behind ns (heads_told start)) (sym (ap (λ ms. serials_of (map plain_mask ms)) taken ∙ all_more (take at masks)))
  where
    all_more : (front : List MaskList) → serials_of (map plain_mask (front ++ (mask ∷ []))) ≡ serials_of (map plain_mask front) ++ (mask.serial ∷ [])
    all_more [] = refl
    all_more (m ∷ front) = ap (λ ns. m.serial ∷ ns) (all_more front)

pub count_more : (mask : MaskName) (at : ℕ) (old new : List TableHead) → new ≡ with_mask_behind mask old → option_map length (last_masks old) ≡ Some at →
    option_map length (last_masks new) ≡ Some (at + 1)
count_more mask at old new is so_far = ap (λ hs. option_map length (last_masks hs)) is ∙ ap (option_map length) (last_more mask old) ∙ counted (last_masks old) so_far
  where
    counted : (masks : Option (List MaskName)) → option_map length masks ≡ Some at → option_map length (option_map (λ ms. ms ++ (mask ∷ [])) masks) ≡ Some (at + 1)
    counted None e = absurd (none-some at e)
    counted (Some ms) e = ap Some (length_push ms mask ∙ ap (λ n. n + 1) (same_Some (length ms) at e))

pub below : (at : ℕ) (masks : Option (List MaskName)) → option_map length masks ≡ Some at → at < 16 → IsBelow 16 masks
below at None e less = absurd (none-some at e)
below at (Some ms) e less = let is = same_Some (length ms) at e in omega (arith, is)

-- a table more with its masks, where some were told
pub table_told : (tables : List FilterTable) (at : ℕ) (t : FilterTable) (old bare new : List TableHead) → take (at + 1) tables ≡ take at tables ++ (t ∷ []) →
    bare ≡ old ++ (bare_head t.serial t.chain t.pref t.protocol ∷ []) →
    heads_told new ≡ with_masks_behind (serials_of (plain_table t).masks) (heads_told bare) →
    heads_told old ≡ map head_of (map plain_table (take at tables)) → heads_told new ≡ map head_of (map plain_table (take (at + 1) tables))
table_told tables at t old bare new taken is_bare is_new so_far =
    is_new ∙ ap (λ hs. with_masks_behind (serials_of (plain_table t).masks) (heads_told hs)) is_bare
    ∙ told_pushed old t.serial t.chain t.pref t.protocol (serials_of (plain_table t).masks)
    ∙ ap (λ hs. hs ++ (head_of (plain_table t) ∷ [])) so_far
    ∙ sym (ap (λ ts. map head_of (map plain_table ts)) taken ∙ all_more (take at tables))
  where
    all_more : (front : List FilterTable) → map head_of (map plain_table (front ++ (t ∷ []))) ≡ map head_of (map plain_table front) ++ (head_of (plain_table t) ∷ [])
    all_more [] = refl
    all_more (u ∷ front) = ap (λ hs. head_of (plain_table u) ∷ hs) (all_more front)

pub told_count : (tables : List FilterTable) (at : ℕ) (heads : List TableHead) → at ≤ length tables → heads_told heads ≡ map head_of (map plain_table (take at tables)) → length heads ≡ at
told_count tables at heads le told =
    sym (length-map heads head_told) ∙ ap length told ∙ length-map (map plain_table (take at tables)) head_of ∙ length-map (take at tables) plain_table ∙ length-take-le at tables le
