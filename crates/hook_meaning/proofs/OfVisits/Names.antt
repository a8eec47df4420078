-- What is known of names.
use Rattle.std.proofs.Common.{◌≡◌, ℕ, zero, suc, ◌≤◌, List, [], ◌∷◌, length, take, drop, refl, sym, ap, subst, arith, length-append, le_refl}
use mathlib.Core.Logic.{dite}
use native.Mathlib.Decide.{dec_le}
use Rattle.std.proofs.lemmas.List.{take_all}
use mathlib.Core.List.{IsPrefix}
use Rattle.store_history.specs.declared.history.Commit.{Commit}
use Rattle.store_history.specs.History.{edits_of}
use Rattle.store_history.proofs.Histories.{prefix_take, prefix_length}
use Rattle.filter_state.specs.declared.edit.Edit.{Edit}
use Rattle.mask_table.specs.Told.{edits_by}
use Rattle.hook_law.specs.Places.{mask_root}
use Rattle.hook_law.specs.Meaning as law
use Rattle.hook_law.specs.Standing.{Mask, IsSlotOf}
use Rattle.hook_law.specs.Keeping.{Keeps}
use Rattle.hook_law.proofs.Growing.{edits_parts}
use Rattle.hook_meaning.specs.Stated.{hook_meaning}
use Rattle.hook_meaning.specs.Blocks.{hook_codec}
use Rattle.hook_meaning.specs.Told.{stands_at}
use Rattle.hook_meaning.specs.OfVisits.Known.{MaskStood, ActionLived}

-- ---- edits by a number of commits
take_twice : (xs : List (Commit Edit)) (i j : ℕ) → i ≤ j → take i (take j xs) ≡ take i xs
take_twice xs zero j le = refl
take_twice [] (suc i) zero le = refl
take_twice [] (suc i) (suc j) le = refl
take_twice (x ∷ xs) (suc i) zero le = absurd (omega (arith, le))
take_twice (x ∷ xs) (suc i) (suc j) le = ap (λ (l : List (Commit Edit)). x ∷ l) (take_twice xs i j (omega (arith, le)))

pub edits_rise : (h : List (Commit Edit)) (m n : ℕ) → m ≤ n → edits_by h m ≤ edits_by h n
edits_rise h m n le = let parts = edits_parts m (take n h) in let all = ap length parts in let both = length-append (edits_of (take m (take n h))) (edits_of (drop m (take n h))) in
    let same : edits_by h m ≡ length (edits_of (take m (take n h))) = ap (λ (l : List (Commit Edit)). length (edits_of l)) (sym (take_twice h m n le)) in omega (arith, all, both, same)

pub edits_all : (h : List (Commit Edit)) (at : ℕ) → at ≤ length h → edits_by h at ≤ law.point_of h
edits_all h at made = let whole : edits_by h (length h) ≡ law.point_of h = ap (λ (x : List (Commit Edit)). length (edits_of x)) (take_all (length h) h (le_refl (length h))) in
    let e = edits_rise h at (length h) made in omega (arith, e, whole)

-- ---- more commits
module _ (h longer : List (Commit Edit)) (b point slot serial : ℕ) (prefix : IsPrefix h longer) where
  more_made : (at : ℕ) → at ≤ length h → at ≤ length longer
  more_made at made = let l = prefix_length h longer prefix in omega (arith, made, l)

  same_edits : (at : ℕ) → at ≤ length h → edits_by h at ≡ edits_by longer at
  same_edits at made = ap (λ (x : List (Commit Edit)). length (edits_of x)) (sym (prefix_take h longer at prefix made))

  pub mask_longer : MaskStood h b point slot serial → MaskStood longer b point slot serial
  mask_longer o = record {
    at = o.at;
    late = o.late;
    made = more_made o.at o.made;
    there = subst (λ (x : List (Commit Edit)). stands_at x slot serial) (sym (prefix_take h longer o.at prefix o.made)) o.there;
    reached = subst (λ (n : ℕ). point ≤ n) (same_edits o.at o.made) o.reached;
  }

  pub action_longer : ActionLived h b point slot serial → ActionLived longer b point slot serial
  action_longer o = let same = sym (prefix_take h longer o.at prefix o.made) in record {
    at = o.at;
    late = o.late;
    made = more_made o.at o.made;
    there = subst (λ (x : List (Commit Edit)). IsSlotOf hook_codec x serial slot) same o.there;
    live = subst (λ (x : List (Commit Edit)). law.IsLive hook_meaning (law.now_of hook_meaning x) serial) same o.live;
    reached = subst (λ (n : ℕ). point ≤ n) (same_edits o.at o.made) o.reached;
  }

-- ---- slots and masks
mask_in : (x y : ℕ) → Mask x ≡ Mask y → x ≡ y
mask_in x y e = cc e

pub one_mask : (h : List (Commit Edit)) (b point later slot serial other : ℕ) → Keeps hook_meaning hook_codec h b → MaskStood h b point slot serial → MaskStood h b later slot other → serial ≡ other
one_mask h b point later slot serial other keeps one two = dite (dec_le one.at two.at)
    (λ (before : one.at ≤ two.at). mask_in serial other
    (keeps.apart one.at two.at (mask_root slot) (Mask serial) (Mask other) one.late before two.made (slot, one.there, refl) (slot, two.there, refl)))
    (λ (after : one.at ≤ two.at → ⊥). sym (mask_in other serial
    (keeps.apart two.at one.at (mask_root slot) (Mask other) (Mask serial) two.late (omega arith) one.made (slot, two.there, refl) (slot, one.there, refl))))

pub one_slot : (h : List (Commit Edit)) (b at slot other serial : ℕ) → Keeps hook_meaning hook_codec h b → b ≤ at → at ≤ length h → stands_at (take at h) slot serial
    → stands_at (take at h) other serial → slot ≡ other
one_slot h b at slot other serial keeps late made one two = (keeps.present at late made).one_mask serial slot other one two
