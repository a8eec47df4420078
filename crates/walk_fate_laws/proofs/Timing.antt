-- When the fates of a packet are had.
use Rattle.std.proofs.Common.{◌≡◌, ◌∙◌, ℕ, suc, ◌+◌, ◌-◌, ◌<◌, ◌≤◌, ◌||◌, Bool, true, false, List, [], ◌∷◌}
use Rattle.std.proofs.Common.{map, ◌⊎◌, inl, inr, Some, refl, sym, ap, subst, arith}
use Rattle.std.specs.Prelude.{◌≢◌, ◌↔◌}
use Rattle.std.specs.List.{list_any}
use Rattle.tc_base.specs.declared.hook.Hook.{Hook}
use Rattle.filter_state.specs.States.{State}
use Rattle.point_walks.specs.Over.{Answering}
use Rattle.walk_fate_laws.specs.declared.kinds.When.{When}
use Rattle.walk_fate_laws.specs.declared.kinds.When.TheVariants as whens
use Rattle.walk_fate_laws.specs.Fates.{Fate, same_fate}
use Rattle.walk_fate_laws.specs.Firsts.{IsAmong}
use Rattle.walk_fate_laws.specs.Walks.{answers_over}
use Rattle.walk_fate_laws.specs.Told.{Told, told_fates, has_more}
use Rattle.walk_fate_laws.specs.Stays.{fate_there, plain_fate}
use Rattle.walk_fate_laws.specs.Times.{is_fate, is_had_at, when_by, points_between, when_of, whens_at}
use Rattle.walk_fate_laws.specs.Kinds.{AreSound, IsNeither, IsOfOneBetween, kind_of, kind_at}
use Rattle.walk_fate_laws.proofs.Members.{in_row, of_row}
use Rattle.walk_fate_laws.proofs.Same.{fate_exact, fate_itself}
use Rattle.walk_fate_laws.proofs.Staying.{plain_there}

-- ---- some element passes a test
pub found_any : {X : Type 0} (test : X → Bool) (xs : List X) → list_any test xs ≡ true
    → (x : X) × IsAmong x xs × (test x ≡ true)
found_any test [] is = absurd (cc is)
found_any {X = X} test (x ∷ xs) is = by_test (test x) refl is (λ rest. found_any test xs rest)
  where
    by_test : (b : Bool) → test x ≡ b → (b || list_any test xs) ≡ true
        → (list_any test xs ≡ true → (y : X) × IsAmong y xs × (test y ≡ true))
        → (y : X) × IsAmong y (x ∷ xs) × (test y ≡ true)
    by_test true passes any rest = (x, inl refl, passes)
    by_test false fails any rest = (let it = rest any in (it.0, inr it.1, it.2))

pub none_of : {X : Type 0} (test : X → Bool) (xs : List X) (y : X) → list_any test xs ≡ false → IsAmong y xs
    → test y ≡ false
none_of test [] y is there = absurd there
none_of {X = X} test (x ∷ xs) y is there = by_test (test x) refl is
    (λ rest later. none_of test xs y rest later)
  where
    by_test : (b : Bool) → test x ≡ b → (b || list_any test xs) ≡ false
        → (list_any test xs ≡ false → IsAmong y xs → test y ≡ false) → test y ≡ false
    by_test true passes any rest = absurd (cc any)
    by_test false fails any rest = elim there [
      | inl same ↦ subst (λ (z : X). test z ≡ false) (sym same) fails
      | inr later ↦ rest any later
    ]

pub not_true : (b : Bool) → b ≡ false → b ≡ true → ⊥
not_true b is other = absurd (cc (is, other))

pub else_false : (b : Bool) → (b ≡ true → ⊥) → b ≡ false
else_false true never = absurd (never refl)
else_false false never = refl

pub any_of : {X : Type 0} (test : X → Bool) (xs : List X) (y : X) → IsAmong y xs → test y ≡ true
    → list_any test xs ≡ true
any_of test xs y there passes = by_any (list_any test xs) refl
  where
    by_any : (b : Bool) → list_any test xs ≡ b → b ≡ true
    by_any true is = refl
    by_any false is = absurd (not_true (test y) (none_of test xs y is there) passes)

-- ---- by whether it is had
before_is : (b c m : Bool) → when_by b c m ≡ whens.Before → (b ≡ true) × (c ≡ false)
before_is true true m is = absurd (cc is)
before_is true false m is = (refl, refl)
before_is false true m is = absurd (cc is)
before_is false false true is = absurd (cc is)
before_is false false false is = absurd (cc is)

after_is : (b c m : Bool) → when_by b c m ≡ whens.After → (b ≡ false) × (c ≡ true)
after_is true true m is = absurd (cc is)
after_is true false m is = absurd (cc is)
after_is false true m is = (refl, refl)
after_is false false true is = absurd (cc is)
after_is false false false is = absurd (cc is)

both_is : (b c m : Bool) → when_by b c m ≡ whens.Both → (b ≡ true) × (c ≡ true)
both_is true true m is = (refl, refl)
both_is true false m is = absurd (cc is)
both_is false true m is = absurd (cc is)
both_is false false true is = absurd (cc is)
both_is false false false is = absurd (cc is)

between_is : (b c m : Bool) → when_by b c m ≡ whens.Between → (b ≡ false) × (c ≡ false) × (m ≡ true)
between_is true true m is = absurd (cc is)
between_is true false m is = absurd (cc is)
between_is false true m is = absurd (cc is)
between_is false false true is = (refl, refl, refl)
between_is false false false is = absurd (cc is)

mixed_is : (b c m : Bool) → when_by b c m ≡ whens.Mixed → (b ≡ false) × (c ≡ false) × (m ≡ false)
mixed_is true true m is = absurd (cc is)
mixed_is true false m is = absurd (cc is)
mixed_is false true m is = absurd (cc is)
mixed_is false false true is = absurd (cc is)
mixed_is false false false is = (refl, refl, refl)

when_is : (b c m b' c' m' : Bool) → b ≡ b' → c ≡ c' → m ≡ m' → when_by b c m ≡ when_by b' c' m'
when_is b c m b' c' m' one other last = λ x. when_by (one x) (other x) (last x)

is_before : (b c m : Bool) → b ≡ true → c ≡ false → when_by b c m ≡ whens.Before
is_before b c m one other = λ x. when_by (one x) (other x) m

is_after : (b c m : Bool) → b ≡ false → c ≡ true → when_by b c m ≡ whens.After
is_after b c m one other = λ x. when_by (one x) (other x) m

is_both : (b c m : Bool) → b ≡ true → c ≡ true → when_by b c m ≡ whens.Both
is_both b c m one other = λ x. when_by (one x) (other x) m

-- ---- over sound states
above_is : (before ceiling point : ℕ) → before < point → point < ceiling
    → point < suc before + (ceiling - suc before)
above_is before ceiling point above below = omega (arith, above, below)

below_is : (before ceiling point : ℕ) → suc before ≤ point → point < suc before + (ceiling - suc before)
    → point < ceiling
below_is before ceiling point above below = omega (arith, above, below)

module _ (states : ℕ → State) (before ceiling : ℕ) (hook : Hook) (bytes : List ℕ)
    (sound : AreSound states before ceiling) (order : before ≤ ceiling) where
  abbrev at : ℕ → Fate
  at = plain_fate states hook bytes

  abbrev had : Fate → ℕ → Bool
  had fate = is_had_at (answers_over states) hook bytes fate

  pub fate_is_plain : (point : ℕ) → before ≤ point → point ≤ ceiling
      → fate_there (answers_over states) hook bytes point ≡ Some (plain_fate states hook bytes point)
  fate_is_plain point least most = plain_there (answers_over states) point hook (states point)
      (record { tables = refl; filters = λ table mask values. refl; actions = λ serial. refl }) bytes
      (sound point least most)

  had_plain : (fate : Fate) (point : ℕ) → before ≤ point → point ≤ ceiling
      → had fate point ≡ same_fate fate (at point)
  had_plain fate point least most = ap (is_fate fate) (fate_is_plain point least most)

  of_had : (fate : Fate) (point : ℕ) → before ≤ point → point ≤ ceiling → had fate point ≡ true
      → fate ≡ at point
  of_had fate point least most is =
      fate_exact fate (at point) (sym (had_plain fate point least most) ∙ is)

  to_had : (fate : Fate) (point : ℕ) → before ≤ point → point ≤ ceiling → fate ≡ at point
      → had fate point ≡ true
  to_had fate point least most is = had_plain fate point least most
      ∙ subst (λ (other : Fate). same_fate fate other ≡ true) is (fate_itself fate)

  of_not_had : (fate : Fate) (point : ℕ) → before ≤ point → point ≤ ceiling → had fate point ≡ false
      → fate ≢ at point
  of_not_had fate point least most is same =
      not_true (had fate point) is (to_had fate point least most same)

  to_not_had : (fate : Fate) (point : ℕ) → before ≤ point → point ≤ ceiling → fate ≢ at point
      → had fate point ≡ false
  to_not_had fate point least most differs =
      else_false (had fate point) (λ is. differs (of_had fate point least most is))

  -- at the two points
  least_first : before ≤ before
  least_first = omega arith

  most_last : ceiling ≤ ceiling
  most_last = omega arith

  -- strictly between
  abbrev middle : Fate → Bool
  middle fate = list_any (had fate) (points_between before ceiling)

  less : (n m : ℕ) → n < m → n ≤ m
  less n m is = omega (arith, is)

  of_middle : (fate : Fate) → middle fate ≡ true → IsOfOneBetween at before ceiling fate
  of_middle fate is =
      let it = found_any (had fate) (points_between before ceiling) is in
      let row = of_row it.0 (suc before) (ceiling - suc before) it.1 in
      let below = below_is before ceiling it.0 row.0 row.1 in
      (it.0, row.0, below, of_had fate it.0 (less before it.0 row.0) (less it.0 ceiling below) it.2)

  to_middle : (fate : Fate) → IsOfOneBetween at before ceiling fate → middle fate ≡ true
  to_middle fate it = any_of (had fate) (points_between before ceiling) it.0
      (in_row it.0 (suc before) (ceiling - suc before) it.1 (above_is before ceiling it.0 it.1 it.2))
      (to_had fate it.0 (less before it.0 it.1) (less it.0 ceiling it.2) it.3)

  abbrev when : Fate → When
  when fate = when_of (answers_over states) before ceiling hook bytes fate

  pub means_before : (fate : Fate)
      → (when_of (answers_over states) before ceiling hook bytes fate ≡ whens.Before)
      ↔ ((fate ≡ plain_fate states hook bytes before) × (fate ≢ plain_fate states hook bytes ceiling))
  means_before fate = (
    (λ is. let it = before_is (had fate before) (had fate ceiling) (middle fate) is in
        (of_had fate before least_first order it.0, of_not_had fate ceiling order most_last it.1)),
    (λ it. is_before (had fate before) (had fate ceiling) (middle fate)
        (to_had fate before least_first order it.0) (to_not_had fate ceiling order most_last it.1)),
  )

  pub means_after : (fate : Fate)
      → (when_of (answers_over states) before ceiling hook bytes fate ≡ whens.After)
      ↔ ((fate ≢ plain_fate states hook bytes before) × (fate ≡ plain_fate states hook bytes ceiling))
  means_after fate = (
    (λ is. let it = after_is (had fate before) (had fate ceiling) (middle fate) is in
        (of_not_had fate before least_first order it.0, of_had fate ceiling order most_last it.1)),
    (λ it. is_after (had fate before) (had fate ceiling) (middle fate)
        (to_not_had fate before least_first order it.0) (to_had fate ceiling order most_last it.1)),
  )

  pub means_both : (fate : Fate)
      → (when_of (answers_over states) before ceiling hook bytes fate ≡ whens.Both)
      ↔ ((fate ≡ plain_fate states hook bytes before) × (fate ≡ plain_fate states hook bytes ceiling))
  means_both fate = (
    (λ is. let it = both_is (had fate before) (had fate ceiling) (middle fate) is in
        (of_had fate before least_first order it.0, of_had fate ceiling order most_last it.1)),
    (λ it. is_both (had fate before) (had fate ceiling) (middle fate)
        (to_had fate before least_first order it.0) (to_had fate ceiling order most_last it.1)),
  )

  pub means_between : (fate : Fate)
      → (when_of (answers_over states) before ceiling hook bytes fate ≡ whens.Between)
      ↔ (IsNeither (plain_fate states hook bytes before) (plain_fate states hook bytes ceiling) fate
      × IsOfOneBetween (plain_fate states hook bytes) before ceiling fate)
  means_between fate = (
    (λ is. let it = between_is (had fate before) (had fate ceiling) (middle fate) is in (
      (of_not_had fate before least_first order it.0, of_not_had fate ceiling order most_last it.1),
      of_middle fate it.2,
    )),
    (λ it. when_is (had fate before) (had fate ceiling) (middle fate) false false true
        (to_not_had fate before least_first order it.0.0) (to_not_had fate ceiling order most_last it.0.1)
        (to_middle fate it.1)),
  )

  pub means_mixed : (fate : Fate)
      → (when_of (answers_over states) before ceiling hook bytes fate ≡ whens.Mixed)
      ↔ (IsNeither (plain_fate states hook bytes before) (plain_fate states hook bytes ceiling) fate
      × (IsOfOneBetween (plain_fate states hook bytes) before ceiling fate → ⊥))
  means_mixed fate = (
    (λ is. let it = mixed_is (had fate before) (had fate ceiling) (middle fate) is in (
      (of_not_had fate before least_first order it.0, of_not_had fate ceiling order most_last it.1),
      λ some. not_true (middle fate) it.2 (to_middle fate some),
    )),
    (λ it. when_is (had fate before) (had fate ceiling) (middle fate) false false false
        (to_not_had fate before least_first order it.0.0) (to_not_had fate ceiling order most_last it.0.1)
        (else_false (middle fate) (λ is. it.1 (of_middle fate is)))),
  )

  -- a fate that is neither is between, or mixed
  pub neither_is : (fate : Fate)
      → IsNeither (plain_fate states hook bytes before) (plain_fate states hook bytes ceiling) fate
      → (when_of (answers_over states) before ceiling hook bytes fate ≡ whens.Between)
      ⊎ (when_of (answers_over states) before ceiling hook bytes fate ≡ whens.Mixed)
  neither_is fate neither = by_middle (middle fate) refl
    where
      by_middle : (b : Bool) → middle fate ≡ b → (when fate ≡ whens.Between) ⊎ (when fate ≡ whens.Mixed)
      by_middle true is = inl (when_is (had fate before) (had fate ceiling) (middle fate) false false true
          (to_not_had fate before least_first order neither.0)
          (to_not_had fate ceiling order most_last neither.1) is)
      by_middle false is = inr (when_is (had fate before) (had fate ceiling) (middle fate) false false false
          (to_not_had fate before least_first order neither.0)
          (to_not_had fate ceiling order most_last neither.1) is)

-- ---- answers that agree
any_same : {X : Type 0} (one other : X → Bool) (xs : List X)
    → ((x : X) → IsAmong x xs → one x ≡ other x) → list_any one xs ≡ list_any other xs
any_same one other [] same = refl
any_same one other (x ∷ xs) same =
    let rest = any_same one other xs (λ y there. same y (inr there)) in
    let first = same x (inl refl) in λ i. first i || rest i

map_same : {X Y : Type 0} (one other : X → Y) (xs : List X) → ((x : X) → one x ≡ other x)
    → map one xs ≡ map other xs
map_same one other [] same = refl
map_same one other (x ∷ xs) same =
    let rest = map_same one other xs same in let first = same x in λ i. first i ∷ rest i

module _ (answers others : Answering) (before ceiling : ℕ) (hook : Hook) (bytes : List ℕ)
    (order : before ≤ ceiling)
    (same : (point : ℕ) → before ≤ point → point ≤ ceiling
    → fate_there answers hook bytes point ≡ fate_there others hook bytes point) where
  had_same : (fate : Fate) (point : ℕ) → before ≤ point → point ≤ ceiling
      → is_had_at answers hook bytes fate point ≡ is_had_at others hook bytes fate point
  had_same fate point least most = ap (is_fate fate) (same point least most)

  between_same : (fate : Fate) (point : ℕ) → IsAmong point (points_between before ceiling)
      → is_had_at answers hook bytes fate point ≡ is_had_at others hook bytes fate point
  between_same fate point there =
      let row = of_row point (suc before) (ceiling - suc before) there in
      let above = row.0 in
      let below = below_is before ceiling point row.0 row.1 in
      had_same fate point (omega (arith, above)) (omega (arith, below))

  when_same : (fate : Fate)
      → when_of answers before ceiling hook bytes fate ≡ when_of others before ceiling hook bytes fate
  when_same fate = when_is _ _ _ _ _ _ (had_same fate before (omega arith) order)
      (had_same fate ceiling order (omega arith))
      (any_same (is_had_at answers hook bytes fate) (is_had_at others hook bytes fate)
      (points_between before ceiling) (between_same fate))

  pub whens_agree : told_fates answers before ceiling hook bytes ≡ told_fates others before ceiling hook bytes
      → whens_at answers before ceiling hook bytes ≡ whens_at others before ceiling hook bytes
  whens_agree told =
      ap (λ (all : List Told). map (λ (one : Told). when_of answers before ceiling hook bytes one.key) all) told
      ∙ map_same (λ (one : Told). when_of answers before ceiling hook bytes one.key)
      (λ (one : Told). when_of others before ceiling hook bytes one.key)
      (told_fates others before ceiling hook bytes) (λ one. when_same one.key)

  pub kinds_agree : told_fates answers before ceiling hook bytes ≡ told_fates others before ceiling hook bytes
      → has_more answers before ceiling hook bytes ≡ has_more others before ceiling hook bytes
      → kind_at answers before ceiling hook bytes ≡ kind_at others before ceiling hook bytes
  kinds_agree told more = let times = whens_agree told in λ x. kind_of (more x) (times x)
