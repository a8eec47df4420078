-- A mask stands in a sound state where it is among the tables of a hook.
use Rattle.std.proofs.Common.{◌≡◌, ◌∙◌, ℕ, suc, ◌<◌, ◌==◌, ◌||◌, Bool, true, false, cond, List, [], ◌∷◌, length, map, filter, slice_get, Some, refl, sym, ap, subst, arith, eqb-true, eq-eqb}
use Rattle.std.specs.List.{list_any}
use Rattle.std.specs.Prelude.{if◌then◌else◌}
use Rattle.std.proofs.lemmas.Bool.{or_left, or_right}
use Rattle.std.proofs.lemmas.List.{length-map}
use Rattle.tc_base.specs.declared.hook.Hook.{Hook}
use Rattle.tc_base.specs.declared.hook.Hook.TheVariants as hooks
use Rattle.filter_state.specs.States.{Row, State}
use Rattle.filter_state.specs.Tables.{hook_eq, in_hook}
use Rattle.filter_state.specs.Order.{of_mask}
use Rattle.filter_state.specs.Sound.{Each, Sound}
use Rattle.filter_state.proofs.Pairs.{each_weaker}
use Rattle.row_laws.specs.OfOrder.Rows.{row_before}
use Rattle.row_laws.proofs.OfLookups.Found.{item_each}
use Rattle.hook_store_law.specs.OfEffects.Parts.{Stands, filter_of}
use Rattle.walk_rules.specs.Questions.{Head}
use Rattle.walk_rules.specs.Heads.{head_with, in_front, with_row, heads_in, heads_on}
use Rattle.walk_rules.proofs.Deciding.{is_among, IsKept}
use Rattle.walk_rules.proofs.Listed.{any_has, each_both, unkept, unsorted}
use Rattle.walk_rules.proofs.KeptHeads.{rows_on, heads_kept}
use Rattle.miniq_pair.specs.Heads.{hook_number}
use Rattle.hook_law.specs.Records.{StatedTable}
use Rattle.hook_store_law.specs.Stated.{TableNames, table_stated, filter_stated, tables_at, filters_at}
use Rattle.desk_masks.proofs.OfMaskResizes.Resizing.{mapped_at}
use Rattle.desk_heads.specs.OfHeadCommits.Listed.{HasSerial}
use Rattle.desk_heads.proofs.OfHeadCommits.Places.{map_at, get_item, of_hook}

-- ---- each row's mask is among the tables of some rows
abbrev HasMaskIn : ℕ → List Head → Type 0
HasMaskIn m heads = list_any (λ (h : Head). is_among m h.masks) heads ≡ true

front_has : (m : ℕ) (masks : List ℕ) → is_among m (in_front m masks) ≡ true
front_has m [] = or_left (m == m) false (eq-eqb m m refl)
front_has m (first ∷ masks) = pick (first == m) refl
  where
    pick : (t : Bool) → (first == m) ≡ t → is_among m (if t then first ∷ masks else m ∷ first ∷ masks) ≡ true
    pick true is = or_left (m == first) (is_among m masks) (eq-eqb m first (sym (eqb-true first m is)))
    pick false is = or_left (m == m) (is_among m (first ∷ masks)) (eq-eqb m m refl)

front_keeps : (n m : ℕ) (masks : List ℕ) → is_among n masks ≡ true → is_among n (in_front m masks) ≡ true
front_keeps n m [] among = absurd (cc among)
front_keeps n m (first ∷ masks) among = pick (first == m)
  where
    pick : (t : Bool) → is_among n (if t then first ∷ masks else m ∷ first ∷ masks) ≡ true
    pick true = among
    pick false = or_right (n == m) (is_among n (first ∷ masks)) among

own_in : (x : Row) (heads : List Head) → HasMaskIn x.mask_serial (with_row x heads)
own_in x [] = or_left (is_among x.mask_serial (x.mask_serial ∷ [])) false (front_has x.mask_serial [])
own_in x (h ∷ hs) = pick (h.serial == x.table)
  where
    pick : (t : Bool) → HasMaskIn x.mask_serial (if t then head_with x (in_front x.mask_serial h.masks) ∷ hs else head_with x (x.mask_serial ∷ []) ∷ h ∷ hs)
    pick true = or_left (is_among x.mask_serial (in_front x.mask_serial h.masks)) (list_any (λ (g : Head). is_among x.mask_serial g.masks) hs) (front_has x.mask_serial h.masks)
    pick false = or_left (is_among x.mask_serial (x.mask_serial ∷ [])) (list_any (λ (g : Head). is_among x.mask_serial g.masks) (h ∷ hs)) (front_has x.mask_serial [])

still_in : (n : ℕ) (x : Row) (heads : List Head) → HasMaskIn n heads → HasMaskIn n (with_row x heads)
still_in n x [] has = absurd (cc has)
still_in n x (h ∷ hs) has = pick (h.serial == x.table) (is_among n h.masks) refl has
  where
    pick : (t u : Bool) → is_among n h.masks ≡ u → (u || list_any (λ (g : Head). is_among n g.masks) hs) ≡ true → HasMaskIn n (if t then head_with x (in_front x.mask_serial h.masks) ∷ hs else head_with x (x.mask_serial ∷ []) ∷ h ∷ hs)
    pick true true own some = or_left (is_among n (in_front x.mask_serial h.masks)) (list_any (λ (g : Head). is_among n g.masks) hs) (front_keeps n x.mask_serial h.masks own)
    pick true false own some = or_right (is_among n (in_front x.mask_serial h.masks)) (list_any (λ (g : Head). is_among n g.masks) hs) some
    pick false u own some = or_right (is_among n (x.mask_serial ∷ [])) (list_any (λ (g : Head). is_among n g.masks) (h ∷ hs)) has

all_in : (rows : List Row) → Each (λ (row : Row). HasMaskIn row.mask_serial (heads_in rows)) rows
all_in [] = tt
all_in (x ∷ rows) = (own_in x (heads_in rows), each_weaker (λ (row : Row). HasMaskIn row.mask_serial (heads_in rows)) (λ (row : Row). HasMaskIn row.mask_serial (heads_in (x ∷ rows))) (λ row has. still_in row.mask_serial x (heads_in rows) has) rows (all_in rows))

true_hook : (a b : Hook) → a ≡ b → hook_eq a b ≡ true
true_hook hooks.Ingress hooks.Ingress e = refl
true_hook hooks.Egress hooks.Egress e = refl
true_hook hooks.Ingress hooks.Egress e = absurd (cc e)
true_hook hooks.Egress hooks.Ingress e = absurd (cc e)

all_on : (s : State) (hook : Hook) → Each (λ (row : Row). row.hook ≡ hook → HasMaskIn row.mask_serial (heads_on hook s)) s.rows
all_on s hook = each_weaker (λ (row : Row). in_hook hook row ≡ true → HasMaskIn row.mask_serial (heads_on hook s)) (λ (row : Row). row.hook ≡ hook → HasMaskIn row.mask_serial (heads_on hook s)) (λ row has is. has (true_hook row.hook hook is)) s.rows
    (unkept (λ (row : Row). HasMaskIn row.mask_serial (heads_on hook s)) (in_hook hook) s.rows (unsorted (λ (row : Row). HasMaskIn row.mask_serial (heads_on hook s)) row_before (filter (in_hook hook) s.rows) (all_in (rows_on hook s.rows))))

-- ---- a place of the mask
among_at : (m : ℕ) (ms : List ℕ) → is_among m ms ≡ true → (among : ℕ) × (slice_get ms among ≡ Some m)
among_at m [] e = absurd (cc e)
among_at m (x ∷ xs) e = pick (m == x) refl e (among_at m xs)
  where
    pick : (t : Bool) → (m == x) ≡ t → (t || is_among m xs) ≡ true → (is_among m xs ≡ true → (among : ℕ) × (slice_get xs among ≡ Some m)) → (among : ℕ) × (slice_get (x ∷ xs) among ≡ Some m)
    pick true is some rest = (0, ap Some (sym (eqb-true m x is)))
    pick false is some rest = let r = rest some in (suc r.0, r.1)

heads_at : (m : ℕ) (hs : List Head) → HasMaskIn m hs → (place : ℕ) × (among : ℕ) × (h : Head) × (slice_get hs place ≡ Some h) × (slice_get h.masks among ≡ Some m)
heads_at m [] e = absurd (cc e)
heads_at m (h ∷ hs) e = pick (is_among m h.masks) refl e (heads_at m hs)
  where
    Found : List Head → Type 0
    Found gs = (place : ℕ) × (among : ℕ) × (g : Head) × (slice_get gs place ≡ Some g) × (slice_get g.masks among ≡ Some m)

    pick : (t : Bool) → is_among m h.masks ≡ t → (t || list_any (λ (g : Head). is_among m g.masks) hs) ≡ true → (HasMaskIn m hs → Found hs) → Found (h ∷ hs)
    pick true is some rest = let a = among_at m h.masks is in (0, a.0, h, refl, a.1)
    pick false is some rest = let r = rest some in (suc r.0, r.1, r.2, r.3, r.4)

has_there : (s : State) (hook : Hook) (m : ℕ) → HasMaskIn m (heads_on hook s) → HasSerial (tables_at s (hook_number hook)) m
has_there s hook m has = let f = heads_at m (heads_on hook s) has in record {
  place = f.0;
  among = f.1;
  table = table_stated f.2;
  there = subst (λ (ts : List (StatedTable TableNames)). slice_get ts f.0 ≡ Some (table_stated f.2)) (sym (of_hook s hook)) (map_at table_stated (heads_on hook s) f.0 f.2 f.3);
  has = f.4;
}

-- a mask that stands is among the tables of a hook
pub listed : (s : State) (m : ℕ) → Stands s m → (hook : Hook) × HasSerial (tables_at s (hook_number hook)) m
listed s m stands =
    let one = any_has (λ (row : Row). (row.hook ≡ hooks.Ingress → HasMaskIn row.mask_serial (heads_on hooks.Ingress s)) × (row.hook ≡ hooks.Egress → HasMaskIn row.mask_serial (heads_on hooks.Egress s))) (of_mask m) s.rows
    (each_both (λ (row : Row). row.hook ≡ hooks.Ingress → HasMaskIn row.mask_serial (heads_on hooks.Ingress s)) (λ (row : Row). row.hook ≡ hooks.Egress → HasMaskIn row.mask_serial (heads_on hooks.Egress s)) s.rows
    (all_on s hooks.Ingress) (all_on s hooks.Egress)) stands in
    let is : one.0.mask_serial ≡ m = eqb-true one.0.mask_serial m one.1 in
    pick one.0.hook refl one.0 is one.2
  where
    pick : (hook : Hook) → hook ≡ hook → (row : Row) → row.mask_serial ≡ m
        → (row.hook ≡ hooks.Ingress → HasMaskIn row.mask_serial (heads_on hooks.Ingress s)) × (row.hook ≡ hooks.Egress → HasMaskIn row.mask_serial (heads_on hooks.Egress s))
        → (k : Hook) × HasSerial (tables_at s (hook_number k)) m
    pick hook same row is both = by row.hook refl
      where
        by : (k : Hook) → row.hook ≡ k → (j : Hook) × HasSerial (tables_at s (hook_number j)) m
        by hooks.Ingress e = (hooks.Ingress, has_there s hooks.Ingress m (subst (λ (n : ℕ). HasMaskIn n (heads_on hooks.Ingress s)) is (both.0 e)))
        by hooks.Egress e = (hooks.Egress, has_there s hooks.Egress m (subst (λ (n : ℕ). HasMaskIn n (heads_on hooks.Egress s)) is (both.1 e)))

-- and what is among them stands
pub standing : (s : State) (hook : Hook) (m : ℕ) → Sound s → HasSerial (tables_at s (hook_number hook)) m → Stands s m
standing s hook m sound h =
    let x = mapped_at table_stated (heads_on hook s) h.place h.table (subst (λ (ts : List (StatedTable TableNames)). slice_get ts h.place ≡ Some h.table) (of_hook s hook) h.there) in
    let kept : IsKept s.rows x.0 = item_each (IsKept s.rows) (heads_on hook s) h.place x.0 (heads_kept hook s sound) (get_item (heads_on hook s) h.place x.0 x.1) in
    item_each (λ (n : ℕ). list_any (of_mask n) s.rows ≡ true) x.0.masks h.among m kept.stand
    (get_item x.0.masks h.among m (subst (λ (t : StatedTable TableNames). slice_get t.masks h.among ≡ Some m) x.2 h.has))

-- ---- a mask stands where it has filters
some_left : {X : Type 0} (p : X → Bool) (xs : List X) → list_any p xs ≡ true → 0 < length (filter p xs)
some_left p [] e = absurd (cc e)
some_left p (x ∷ xs) e = pick (p x) refl e (some_left p xs)
  where
    pick : (t : Bool) → p x ≡ t → (t || list_any p xs) ≡ true → (list_any p xs ≡ true → 0 < length (filter p xs)) → 0 < length (cond t (x ∷ filter p xs) (filter p xs))
    pick true is some rest = omega arith
    pick false is some rest = rest some

left_some : {X : Type 0} (p : X → Bool) (xs : List X) → 0 < length (filter p xs) → list_any p xs ≡ true
left_some p [] less = absurd (omega arith)
left_some p (x ∷ xs) less = pick (p x) refl less (left_some p xs)
  where
    pick : (t : Bool) → p x ≡ t → 0 < length (cond t (x ∷ filter p xs) (filter p xs)) → (0 < length (filter p xs) → list_any p xs ≡ true) → (t || list_any p xs) ≡ true
    pick true is some rest = refl
    pick false is some rest = rest some

count_is : (s : State) (m : ℕ) → length (filters_at s m) ≡ length (filter (of_mask m) s.rows)
count_is s m = length-map (map filter_of (filter (of_mask m) s.rows)) filter_stated ∙ length-map (filter (of_mask m) s.rows) filter_of

pub stands_filters : (s : State) (m : ℕ) → Stands s m → 0 < length (filters_at s m)
stands_filters s m stands = let some = some_left (of_mask m) s.rows stands in let same = count_is s m in omega (arith, some, same)

pub filters_stand : (s : State) (m : ℕ) → 0 < length (filters_at s m) → Stands s m
filters_stand s m some = let same = count_is s m in left_some (of_mask m) s.rows (omega (arith, some, same))

-- so it goes on where it keeps them
pub stands_on : (s t : State) (m : ℕ) → filters_at t m ≡ filters_at s m → Stands s m → Stands t m
stands_on s t m same stands = let some = stands_filters s m stands in let count = ap length same in filters_stand t m (omega (arith, some, count))
