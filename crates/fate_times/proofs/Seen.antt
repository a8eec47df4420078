-- The fates that were seen in the states between, so far.
use Rattle.std.proofs.Common.{◌≡◌, ◌∙◌, ℕ, suc, ◌+◌, ◌-◌, ◌<◌, ◌≤◌, ◌||◌, Bool, true, false, List, [], ◌∷◌}
use Rattle.std.proofs.Common.{◌⊎◌, inl, inr, Option, Some, None, refl, sym, ap, subst, arith}
use Rattle.std.specs.List.{list_any}
use Rattle.std.proofs.lemmas.Bool.{cases_lt}
use Rattle.tc_base.specs.declared.hook.Hook.{Hook}
use Rattle.point_walks.specs.Over.{Answering}
use Rattle.slot_pasts.specs.Next.{IsBefore}
use Rattle.walk_fate_laws.specs.declared.kinds.When.{When}
use Rattle.walk_fate_laws.specs.declared.kinds.When.TheVariants as whens
use Rattle.walk_fate_laws.specs.Fates.{Fate}
use Rattle.walk_fate_laws.specs.Stays.{fate_there}
use Rattle.walk_fate_laws.specs.Times.{is_fate, is_had_at, when_by, points_between, when_of}
use Rattle.walk_fate_laws.specs.Kinds.{is_mixed}
use Rattle.walk_fate_laws.proofs.Members.{in_row, of_row}
use Rattle.walk_fate_laws.proofs.Timing.{found_any, any_of}
use Rattle.fate_search.specs.Found.{Found, fate_found}
use Rattle.fate_times.specs.Marks.{marked_by, times_of, marked}
use Rattle.fate_times.proofs.OneByOne.{times_same, seen_before, seen_after, seen_between}

-- ---- booleans
either_true : (a b : Bool) → (a || b) ≡ true → (a ≡ true) ⊎ (b ≡ true)
either_true true b is = inl refl
either_true false b is = inr is

or_left : (a b : Bool) → a ≡ true → (a || b) ≡ true
or_left a b is = λ x. is x || b

or_right : (a b : Bool) → b ≡ true → (a || b) ≡ true
or_right true b is = refl
or_right false b is = is

-- what was seen is there, and what is there was seen, or is had before
when_any : (old new seen some : Bool) → (seen ≡ true → some ≡ true)
    → (some ≡ true → (old ≡ true) ⊎ (seen ≡ true)) → when_by old new seen ≡ when_by old new some
when_any true true seen some sound complete = refl
when_any true false seen some sound complete = refl
when_any false true seen some sound complete = refl
when_any false false true true sound complete = refl
when_any false false true false sound complete = absurd (cc (sound refl))
when_any false false false true sound complete = elim (complete refl) [
  | inl is ↦ absurd (cc is)
  | inr is ↦ absurd (cc is)
]
when_any false false false false sound complete = refl

when_found : (old new seen some : Bool) → (seen ≡ true → some ≡ true)
    → is_mixed (when_by old new seen) ≡ false → when_by old new seen ≡ when_by old new some
when_found true true seen some sound is = refl
when_found true false seen some sound is = refl
when_found false true seen some sound is = refl
when_found false false true true sound is = refl
when_found false false true false sound is = absurd (cc (sound refl))
when_found false false false some sound is = absurd (cc is)

neither_true : (a b : Bool) → (a || b) ≡ false → (a ≡ false) × (b ≡ false)
neither_true true b is = absurd (cc is)
neither_true false b is = (refl, is)

times_found : (one other : Fate → When) (fates : List Found) → list_any is_mixed (times_of one fates) ≡ false
    → ((fate : Fate) → is_mixed (one fate) ≡ false → one fate ≡ other fate)
    → times_of one fates ≡ times_of other fates
times_found one other [] none same = refl
times_found one other (found ∷ fates) none same =
    let parts = neither_true (is_mixed (one (fate_found found))) (list_any is_mixed (times_of one fates))
    none in
    let rest = times_found one other fates parts.1 same in
    let first = same (fate_found found) parts.0 in λ x. first x ∷ rest x

-- ---- numbers
before_weaker : (low high : ℕ) (next : Option ℕ) → low ≤ high → IsBefore high next → IsBefore low next
before_weaker low high None order is = tt
before_weaker low high (Some next) order is = omega (arith, order, is)

above_is : (before ceiling point : ℕ) → before < point → point < ceiling
    → point < suc before + (ceiling - suc before)
above_is before ceiling point above below = omega (arith, above, below)

below_is : (before ceiling point : ℕ) → suc before ≤ point → point < suc before + (ceiling - suc before)
    → point < ceiling
below_is before ceiling point above below = omega (arith, above, below)

pub past_some : (next : Option ℕ) (last ceiling : ℕ) → next ≡ Some last → ceiling ≤ last → (point : ℕ)
    → point < ceiling → IsBefore point next
past_some next last ceiling is past point below =
    let less : point < last = omega (arith, past, below) in
    subst (λ (o : Option ℕ). IsBefore point o) (sym is) less

pub past_none : (next : Option ℕ) → next ≡ None → (point : ℕ) → IsBefore point next
past_none next is point = subst (λ (o : Option ℕ). IsBefore point o) (sym is) tt

module _ (answers : Answering) (hook : Hook) (bytes : List ℕ) (before ceiling : ℕ) where
  abbrev had : Fate → ℕ → Bool
  had fate = is_had_at answers hook bytes fate

  abbrev pub time_by : (Fate → Bool) → Fate → When
  time_by middle fate = when_by (had fate before) (had fate ceiling) (middle fate)

  -- the states before a point were looked at
  pub record AreSeen (next : Option ℕ) (fates : List Found) (all : List When) : Type 0 where
    pub middle : Fate → Bool
    pub are : all ≡ times_of (time_by middle) fates
    pub sound : (fate : Fate) → middle fate ≡ true
        → (point : ℕ) × (before < point) × (point < ceiling)
        × (is_had_at answers hook bytes fate point ≡ true)
    pub complete : (fate : Fate) (point : ℕ) → before < point → IsBefore point next
        → is_had_at answers hook bytes fate point ≡ true
        → (is_had_at answers hook bytes fate before ≡ true) ⊎ (middle fate ≡ true)
    pub ahead : IsBefore before next

  -- ---- at first
  pub first_seen : (next : Option ℕ) (fates : List Found) (all : List When)
      → all ≡ times_of (λ (fate : Fate). when_by (is_had_at answers hook bytes fate before)
      (is_had_at answers hook bytes fate ceiling) false) fates
      → IsBefore before next
      → ((later : ℕ) → before ≤ later → IsBefore later next
      → fate_there answers hook bytes later ≡ fate_there answers hook bytes before)
      → AreSeen next fates all
  first_seen next fates all are ahead same = record {
    middle = λ fate. false;
    are = are;
    sound = λ fate is. absurd (cc is);
    complete = λ fate point above early is.
        inl (sym (ap (is_fate fate) (same point (omega (arith, above)) early))
        ∙ is);
    ahead = ahead;
  }

  -- by the walks over the states before and after
  pub two_seen : (fates : List Found) (all first second : List When) (old new : Option Fate)
      → all ≡ times_of (λ fate. whens.Mixed) fates → fate_there answers hook bytes before ≡ old
      → fate_there answers hook bytes ceiling ≡ new
      → ((when : Fate → When) → all ≡ times_of when fates
      → first ≡ times_of (marked old whens.Before when) fates)
      → ((when : Fate → When) → first ≡ times_of when fates
      → second ≡ times_of (marked new whens.After when) fates)
      → second ≡ times_of (λ (fate : Fate). when_by (is_had_at answers hook bytes fate before)
      (is_had_at answers hook bytes fate ceiling) false) fates
  two_seen fates all first second old new none old_is new_is marks_first marks_second =
      let one : first ≡ times_of (λ (fate : Fate). when_by (had fate before) false false) fates =
      marks_first (λ fate. whens.Mixed) none
      ∙ times_same (marked old whens.Before (λ fate. whens.Mixed))
      (λ (fate : Fate). when_by (had fate before) false false) fates
      (λ fate. ap (λ (there : Option Fate). marked_by (is_fate fate there) whens.Mixed whens.Before)
      (sym old_is) ∙ seen_before (had fate before)) in
      marks_second (λ (fate : Fate). when_by (had fate before) false false) one
      ∙ times_same (marked new whens.After (λ (fate : Fate). when_by (had fate before) false false))
      (λ (fate : Fate). when_by (had fate before) (had fate ceiling) false) fates
      (λ fate. ap (λ (there : Option Fate). marked_by (is_fate fate there)
      (when_by (had fate before) false false) whens.After) (sym new_is)
      ∙ seen_after (had fate before) (had fate ceiling))

  -- ---- one walk more
  pub more_seen : (point : ℕ) (next : Option ℕ) (fates : List Found) (all now : List When) (end : Option Fate)
      → AreSeen (Some point) fates all → point < ceiling
      → ((later : ℕ) → point ≤ later → IsBefore later next → fate_there answers hook bytes later ≡ end)
      → IsBefore point next
      → ((when : Fate → When) → all ≡ times_of when fates
      → now ≡ times_of (marked end whens.Between when) fates)
      → AreSeen next fates now
  more_seen point next fates all now end seen below same behind marks = record {
    middle = λ fate. seen.middle fate || had fate point;
    are = marks (time_by seen.middle) seen.are
        ∙ times_same (marked end whens.Between (time_by seen.middle))
        (time_by (λ fate. seen.middle fate || had fate point)) fates each;
    sound = λ fate is. elim (either_true (seen.middle fate) (had fate point) is) [
      | inl old ↦ seen.sound fate old
      | inr now_had ↦ (point, seen.ahead, below, now_had)
    ];
    complete = complete;
    ahead = before_weaker before point next (let above = seen.ahead in omega (arith, above)) behind;
  }
    where
      here : fate_there answers hook bytes point ≡ end
      here = same point (omega arith) behind

      each : (fate : Fate) → marked end whens.Between (time_by seen.middle) fate
          ≡ time_by (λ other. seen.middle other || had other point) fate
      each fate =
          ap (λ (there : Option Fate). marked there whens.Between (time_by seen.middle) fate) (sym here)
          ∙ seen_between (had fate before) (had fate ceiling) (seen.middle fate) (had fate point)

      by_order : (fate : Fate) (at : ℕ) → before < at → IsBefore at next → had fate at ≡ true
          → (at < point) ⊎ (point ≤ at)
          → (had fate before ≡ true) ⊎ ((seen.middle fate || had fate point) ≡ true)
      by_order fate at above early is (inl less) = elim (seen.complete fate at above less is) [
        | inl old ↦ inl old
        | inr old ↦ inr (or_left (seen.middle fate) (had fate point) old)
      ]
      by_order fate at above early is (inr more) = inr (or_right (seen.middle fate) (had fate point)
          (ap (is_fate fate) (here ∙ sym (same at more early)) ∙ is))

      complete : (fate : Fate) (at : ℕ) → before < at → IsBefore at next → had fate at ≡ true
          → (had fate before ≡ true) ⊎ ((seen.middle fate || had fate point) ≡ true)
      complete fate at above early is = by_order fate at above early is (cases_lt at point)

  -- ---- at last
  some_there : (fate : Fate) → ((point : ℕ) × (before < point) × (point < ceiling) × (had fate point ≡ true))
      → list_any (had fate) (points_between before ceiling) ≡ true
  some_there fate it = any_of (had fate) (points_between before ceiling) it.0
      (in_row it.0 (suc before) (ceiling - suc before) it.1 (above_is before ceiling it.0 it.1 it.2)) it.3

  of_some : (fate : Fate) → list_any (had fate) (points_between before ceiling) ≡ true
      → (point : ℕ) × (before < point) × (point < ceiling) × (had fate point ≡ true)
  of_some fate is =
      let it = found_any (had fate) (points_between before ceiling) is in
      let row = of_row it.0 (suc before) (ceiling - suc before) it.1 in
      (it.0, row.0, below_is before ceiling it.0 row.0 row.1, it.2)

  pub all_seen : (next : Option ℕ) (fates : List Found) (all : List When) → AreSeen next fates all
      → ((point : ℕ) → point < ceiling → IsBefore point next)
      → all ≡ times_of (when_of answers before ceiling hook bytes) fates
  all_seen next fates all seen past = seen.are
      ∙ times_same (time_by seen.middle) (when_of answers before ceiling hook bytes) fates
      (λ fate. when_any (had fate before) (had fate ceiling) (seen.middle fate)
      (list_any (had fate) (points_between before ceiling))
      (λ is. some_there fate (seen.sound fate is))
      (λ is. let it = of_some fate is in seen.complete fate it.0 it.1 (past it.0 it.2) it.3))

  pub found_all : (next : Option ℕ) (fates : List Found) (all : List When) → AreSeen next fates all
      → list_any is_mixed all ≡ false
      → all ≡ times_of (when_of answers before ceiling hook bytes) fates
  found_all next fates all seen none = seen.are
      ∙ times_found (time_by seen.middle) (when_of answers before ceiling hook bytes) fates
      (subst (λ (whens : List When). list_any is_mixed whens ≡ false) seen.are none)
      (λ fate is. when_found (had fate before) (had fate ceiling) (seen.middle fate)
      (list_any (had fate) (points_between before ceiling))
      (λ seen_is. some_there fate (seen.sound fate seen_is)) is)
