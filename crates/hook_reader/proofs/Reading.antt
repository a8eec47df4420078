-- What holds of each reader.
use Rattle.std.proofs.Common.{◌≡◌, ◌∙◌, ℕ, ◌≤◌, List, length, replicate, Option, Some, None, IfSome, sym, ap, subst, arith, le_refl}
use Rattle.std.specs.Prelude.{All}
use Rattle.std.proofs.lemmas.List.Elements.{All-replicate, All-weaker}
use Rattle.std.proofs.lemmas.List.{length-replicate, take_all}
use mathlib.Core.List.{IsPrefix}
use Rattle.atomic_table.specs.declared.shared.Seat.{Seat}
use Rattle.store_history.specs.declared.history.Commit.{Commit}
use Rattle.store_history.specs.History.{edits_of}
use Rattle.store_history.proofs.Histories.{prefix_length, prefix_take}
use Rattle.store_history.specs.declared.places.TheConstants.{MASK_SLOTS}
use Rattle.pin_store.specs.declared.view.View.{View}
use Rattle.pin_store.specs.Calls.{seen_by, floor_start, floor_of, start_in}
use Rattle.filter_state.specs.declared.edit.Edit.{Edit}
use Rattle.hook_law.specs.Meaning.{point_of}
use Rattle.mask_table.specs.Told.{edits_by}
use Rattle.hook_store_law.proofs.OfVisits.Names.{edits_all}
use Rattle.hook_reader.specs.Seats.{FirstHead, IsHeadOf, IsReading}

abbrev pub Place : Type 0
Place = Seat (Unit {0}) (View Edit)

-- ---- points of longer lists
pub point_longer : (g h : List (Commit Edit)) → IsPrefix g h → point_of g ≤ point_of h
point_longer g h prefix =
    let all = edits_all h (length g) (prefix_length g h prefix) in
    let same : edits_by h (length g) ≡ point_of g = ap (λ (x : List (Commit Edit)). length (edits_of x)) (prefix_take g h (length g) prefix (le_refl (length g)) ∙ take_all (length g) g (le_refl (length g))) in
    omega (arith, all, same)

pub start_none : (p : Place) → floor_of p ≡ None → floor_start p ≡ 0
start_none p none = ap start_in none

-- ---- before a walk, into it and out
pub new_reading : (p : Place) (points : List ℕ) → floor_of p ≡ None → points ≡ replicate MASK_SLOTS 0 → IsReading (record { place = p; visits = 0; latest = 0; head = None; points = points })
new_reading p points none empty = let start = start_none p none in record {
  recent = omega (arith, start);
  late = omega arith;
  head = tt;
  wide = ap length empty ∙ length-replicate {A = ℕ} MASK_SLOTS 0;
  each = subst (All (λ point. point ≤ 0)) (sym empty) (All-replicate (λ point. point ≤ 0) MASK_SLOTS 0 (omega arith));
}

pub entered_reading : (p q : Place) (visits latest : ℕ) (points : List ℕ) → IsPrefix (seen_by p) (seen_by q) → floor_start q ≤ length (seen_by q) → latest ≤ point_of (seen_by p) → points ≡ replicate MASK_SLOTS 0
    → IsReading (record { place = q; visits = visits; latest = latest; head = None; points = points })
entered_reading p q visits latest points longer recent late empty = let on = point_longer (seen_by p) (seen_by q) longer in record {
  recent = recent;
  late = omega (arith, on, late);
  head = tt;
  wide = ap length empty ∙ length-replicate {A = ℕ} MASK_SLOTS 0;
  each = subst (All (λ point. point ≤ latest)) (sym empty) (All-replicate (λ point. point ≤ latest) MASK_SLOTS 0 (omega arith));
}

-- a reader that has left, or learnt, without a floor
pub outside_reading : (p q : Place) (visits latest more : ℕ) (head : Option FirstHead) (points : List ℕ) → IsReading (record { place = p; visits = visits; latest = latest; head = head; points = points })
    → IsPrefix (seen_by p) (seen_by q) → floor_start q ≤ floor_start p → latest ≤ more → more ≤ point_of (seen_by q)
    → IsReading (record { place = q; visits = visits; latest = more; head = head; points = points })
outside_reading p q visits latest more head points is longer floor grown late = let long = prefix_length (seen_by p) (seen_by q) longer in let recent = is.recent in record {
  recent = omega (arith, recent, long, floor);
  late = late;
  head = pick head is.head;
  wide = is.wide;
  each = All-weaker (λ point. point ≤ latest) (λ point. point ≤ more) (λ point low. omega (arith, low, grown)) points is.each;
}
  where
    pick : (o : Option FirstHead) → IfSome o (IsHeadOf (record { place = p; visits = visits; latest = latest; head = head; points = points }))
        → IfSome o (IsHeadOf (record { place = q; visits = visits; latest = more; head = head; points = points }))
    pick None tt = tt
    pick (Some first) o = let a = o.point in let b = o.late in let d = o.made in let long = prefix_length (seen_by p) (seen_by q) longer in
        record { point = omega (arith, a, grown); late = omega (arith, b, floor); made = omega (arith, d, long) }
