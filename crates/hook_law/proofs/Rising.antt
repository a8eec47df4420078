-- The stamp of a root at which something stood since the base never falls.
use Rattle.std.proofs.Common.{◌≡◌, ◌≢◌, ℕ, zero, suc, ◌+◌, ◌-◌, ◌≤◌, inl, inr, List, [], ◌∷◌, ◌++◌, length, take, slice_get, Option, Some, None, refl, sym, ap, ◌∙◌, subst, arith, length-append}
use mathlib.Core.Logic.{dite}
use native.Mathlib.Decide.{ℕ_discrete}
use Rattle.std.proofs.Math.Seq.{take-append_seam}
use Rattle.std.proofs.lemmas.List.{take-append-le, take_all}
use Rattle.std.proofs.lemmas.Option.{slice_get_within}
use Rattle.store_history.specs.declared.history.Commit.{Commit}
use Rattle.store_history.specs.declared.history.Named.{Named}
use Rattle.store_history.specs.History.{root_of, edits_of}
use Rattle.store_history.proofs.Lists.{take_next, get_some}
use Rattle.store_history.proofs.Histories.{root_other}
use Rattle.hook_law.specs.Records.{Codec}
use Rattle.hook_law.specs.Meaning.{Meaning, point_of}
use Rattle.hook_law.specs.Standing.{Role, Stands}
use Rattle.hook_law.specs.Keeping.{IsStamped, Keeps}
use Rattle.hook_law.proofs.Growing.{edits_still, edits_more, root_same}

module _ {E : Type 0} where
  -- a commit more doesn't lower the point
  point_on : (h : List (Commit E)) (c : Commit E) (e : Option (ℕ × E)) → c.edit ≡ e → point_of h ≤ point_of (h ++ c ∷ [])
  point_on h c None is = let same = ap length (edits_still h c is) in omega arith
  point_on h c (Some numbered) is = let more = ap length (edits_more h c numbered.0 numbered.1 is) in omega (arith, more, length-append (edits_of h) (numbered.1 ∷ []))

  -- a commit's stamp is at least the point before it
  stamp_late : (point stamp : ℕ) (e : Option (ℕ × E)) → IsStamped point e stamp → point ≤ stamp
  stamp_late point stamp None (inl is) = omega arith
  stamp_late point stamp None (inr is) = omega arith
  stamp_late point stamp (Some numbered) is = let s = is.1 in omega arith

  taken : (h : List (Commit E)) (m : ℕ) (c : Commit E) → slice_get h m ≡ Some c → take (m + 1) h ≡ take m h ++ c ∷ []
  taken h m c at = let one : suc m ≡ m + 1 = omega arith in subst (λ (z : ℕ). take z h ≡ take m h ++ c ∷ []) one (take_next h m c at)

  -- what the root's stamp is after so many commits
  abbrev stamp_at : List (Commit E) → ℕ → ℕ → ℕ
  stamp_at h r m = (root_of (take m h) r).stamp

  -- it is no more than the point then
  abbrev IsEarly : List (Commit E) → ℕ → ℕ → Type 0
  IsEarly h r m = stamp_at h r m ≤ point_of (take m h)

module _ {E S N P : Type 0} (K : Meaning E S N P) (R : Codec N P) (h : List (Commit E)) (b n r : ℕ) (x : Role) (k : Keeps K R h b) (low : b ≤ n) (stands : Stands K R (take n h) r x) where
  -- a commit to the root: its stamp is at least the point before, and the root tells what stands there
  to_root : (m : ℕ) (c : Commit E) → n ≤ m → slice_get h m ≡ Some c → IsEarly h r m → c.root ≡ r → (stamp_at h r m ≤ stamp_at h r (m + 1)) × IsEarly h r (m + 1)
  to_root m c late at early is =
      let named : root_of (take (m + 1) h) r ≡ c.named = ap (λ (z : List (Commit E)). root_of z r) (taken h m c at) ∙ root_same (take m h) c r is in
      let stamp = ap (λ (z : Named). z.stamp) named in
      let least = stamp_late (point_of (take m h)) c.named.stamp c.edit (k.stamped m c at) in
      let still : Stands K R (take (m + 1) h) r x =
      subst (λ (z : ℕ). Stands K R (take (m + 1) h) z x) is (k.alone n m c x low late at (subst (λ (z : ℕ). Stands K R (take n h) z x) (sym is) stands)) in
      let within = slice_get_within h m c at in
      (omega (arith, stamp, least, early), ((k.present (m + 1) (omega arith) (omega (arith, within))).tells r x still).early)

  -- a commit to another root leaves it
  to_other : (m : ℕ) (c : Commit E) → slice_get h m ≡ Some c → IsEarly h r m → c.root ≢ r → (stamp_at h r m ≤ stamp_at h r (m + 1)) × IsEarly h r (m + 1)
  to_other m c at early other =
      let same : root_of (take (m + 1) h) r ≡ root_of (take m h) r = ap (λ (z : List (Commit E)). root_of z r) (taken h m c at) ∙ root_other (take m h) c r other in
      let stamp = ap (λ (z : Named). z.stamp) same in
      let grows : point_of (take m h) ≤ point_of (take (m + 1) h) = subst (λ (z : List (Commit E)). point_of (take m h) ≤ point_of z) (sym (taken h m c at)) (point_on (take m h) c c.edit refl) in
      (omega (arith, stamp), omega (arith, stamp, early, grows))

  one_on : (m : ℕ) (c : Commit E) → n ≤ m → slice_get h m ≡ Some c → IsEarly h r m → (stamp_at h r m ≤ stamp_at h r (m + 1)) × IsEarly h r (m + 1)
  one_on m c late at early = dite (ℕ_discrete c.root r) (to_root m c late at early) (to_other m c at early)

  so_many_on : (d m : ℕ) → n ≤ m → m + d ≤ length h → IsEarly h r m → (stamp_at h r m ≤ stamp_at h r (m + d)) × IsEarly h r (m + d)
  so_many_on zero m late within early =
      let same : m ≡ m + 0 = omega arith in subst (λ (z : ℕ). (stamp_at h r m ≤ stamp_at h r z) × IsEarly h r z) same (omega arith, early)
  so_many_on (suc d) m late within early =
      let there = get_some h m (omega arith) in
      let first = one_on m there.0 late there.1 early in
      let rest = so_many_on d (m + 1) (omega arith) (omega arith) first.1 in
      let same : m + 1 + d ≡ m + suc d = omega arith in
      subst (λ (z : ℕ). (stamp_at h r m ≤ stamp_at h r z) × IsEarly h r z) same (omega (arith, first.0, rest.0), rest.1)

  pub stamp_rises : (m later : ℕ) → n ≤ m → m ≤ later → later ≤ length h → stamp_at h r m ≤ stamp_at h r later
  stamp_rises m later late order within =
      let begun = (so_many_on (m - n) n (omega arith) (omega arith) ((k.present n low (omega arith)).tells r x stands).early).1 in
      let there : n + (m - n) ≡ m = omega arith in
      let on = (so_many_on (later - m) m late (omega arith) (subst (IsEarly h r) there begun)).0 in
      let end : m + (later - m) ≡ later = omega arith in
      subst (λ (z : ℕ). stamp_at h r m ≤ stamp_at h r z) end on

-- the same, said of a history and what came behind it
pub stamps_rise_behind : {E S N P : Type 0} (K : Meaning E S N P) (R : Codec N P) (h more : List (Commit E)) (b n r : ℕ) (x : Role) → Keeps K R (h ++ more) b → b ≤ n → n ≤ length h
    → Stands K R (take n h) r x → (root_of h r).stamp ≤ (root_of (h ++ more) r).stamp
stamps_rise_behind {E = E} K R h more b n r x k low within stands =
    let all = length-append h more in
    let rise = stamp_rises K R (h ++ more) b n r x k low (subst (λ (z : List (Commit E)). Stands K R z r x) (sym (take-append-le n h more within)) stands)
    (length h) (length (h ++ more)) within (omega (arith, all)) (omega arith) in
    let front : (root_of (take (length h) (h ++ more)) r).stamp ≡ (root_of h r).stamp = ap (λ (z : List (Commit E)). (root_of z r).stamp) (take-append_seam h more) in
    let whole : (root_of (take (length (h ++ more)) (h ++ more)) r).stamp ≡ (root_of (h ++ more) r).stamp = ap (λ (z : List (Commit E)). (root_of z r).stamp) (take_all (length (h ++ more)) (h ++ more) (omega arith)) in
    omega (arith, rise, front, whole)
