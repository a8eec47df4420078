-- What a packet's kind says of its fates.
use Rattle.std.proofs.Common.{◌≡◌, ◌∙◌, ℕ, ◌<◌, ◌≤◌, ◌==◌, nat_lt, Bool, true, false, List, []}
use Rattle.std.proofs.Common.{◌∷◌, map, length, ◌⊎◌, inl, inr, refl, sym, ap, subst, arith}
use Rattle.std.specs.Prelude.{◌≢◌, ◌↔◌, if◌then◌else◌}
use Rattle.std.specs.List.{list_any}
use Rattle.std.proofs.lemmas.Bool.Decides.{nat_tests}
use Rattle.tc_base.specs.declared.hook.Hook.{Hook}
use Rattle.filter_state.specs.States.{State}
use Rattle.walk_fate_laws.specs.declared.limits.TheConstants.{WAYS_MAX}
use Rattle.walk_fate_laws.specs.declared.kinds.When.{When}
use Rattle.walk_fate_laws.specs.declared.kinds.When.TheVariants as whens
use Rattle.walk_fate_laws.specs.declared.kinds.Kind.{Kind}
use Rattle.walk_fate_laws.specs.declared.kinds.Kind.TheVariants as kinds
use Rattle.walk_fate_laws.specs.Fates.{Fate, same_fate}
use Rattle.walk_fate_laws.specs.Firsts.{IsAmong}
use Rattle.walk_fate_laws.specs.Meeting.{CanHave}
use Rattle.walk_fate_laws.specs.Walks.{answers_over, ways_of}
use Rattle.walk_fate_laws.specs.Told.{Told, told_fates, has_more}
use Rattle.walk_fate_laws.specs.Stays.{plain_fate}
use Rattle.walk_fate_laws.specs.Times.{when_of, whens_at}
use Rattle.walk_fate_laws.specs.Kinds.{is_between, is_mixed, kind_at, AreSound, IsNeither, HasNoMore}
use Rattle.walk_fate_laws.specs.Kinds.{HasOneFate, HasOldAndNew, HasBetween, HasNeither, NoneIsBetween}
use Rattle.walk_fate_laws.proofs.Members.{in_map, of_map}
use Rattle.walk_fate_laws.proofs.Same.{fate_exact, fate_itself}
use Rattle.walk_fate_laws.proofs.Telling.{AreOnce, can_have, had_is_told, told_once}
use Rattle.walk_fate_laws.proofs.Rounding.{state_is_had}
use Rattle.walk_fate_laws.proofs.Timing.{found_any, any_of, not_true, else_false, means_between, means_mixed}
use Rattle.walk_fate_laws.proofs.Timing.{neither_is}

-- ---- which tests lead to a kind
abbrev Chosen : Bool → Bool → Bool → Bool → Kind
Chosen between mixed more one = if between then kinds.Between else if mixed then kinds.Mixed
    else if more then kinds.Open else if one then kinds.Steady else kinds.Moved

between_is : (b m more one : Bool) → Chosen b m more one ≡ kinds.Between → b ≡ true
between_is true m more one is = refl
between_is false true more one is = absurd (cc is)
between_is false false true one is = absurd (cc is)
between_is false false false true is = absurd (cc is)
between_is false false false false is = absurd (cc is)

mixed_is : (b m more one : Bool) → Chosen b m more one ≡ kinds.Mixed → (b ≡ false) × (m ≡ true)
mixed_is true m more one is = absurd (cc is)
mixed_is false true more one is = (refl, refl)
mixed_is false false true one is = absurd (cc is)
mixed_is false false false true is = absurd (cc is)
mixed_is false false false false is = absurd (cc is)

open_is : (b m more one : Bool) → Chosen b m more one ≡ kinds.Open
    → (b ≡ false) × (m ≡ false) × (more ≡ true)
open_is true m more one is = absurd (cc is)
open_is false true more one is = absurd (cc is)
open_is false false true one is = (refl, refl, refl)
open_is false false false true is = absurd (cc is)
open_is false false false false is = absurd (cc is)

steady_is : (b m more one : Bool) → Chosen b m more one ≡ kinds.Steady → (more ≡ false) × (one ≡ true)
steady_is true m more one is = absurd (cc is)
steady_is false true more one is = absurd (cc is)
steady_is false false true one is = absurd (cc is)
steady_is false false false true is = (refl, refl)
steady_is false false false false is = absurd (cc is)

moved_is : (b m more one : Bool) → Chosen b m more one ≡ kinds.Moved
    → (b ≡ false) × (m ≡ false) × (more ≡ false) × (one ≡ false)
moved_is true m more one is = absurd (cc is)
moved_is false true more one is = absurd (cc is)
moved_is false false true one is = absurd (cc is)
moved_is false false false true is = absurd (cc is)
moved_is false false false false is = (refl, refl, refl, refl)

is_open : (b m more one : Bool) → b ≡ false → m ≡ false → more ≡ true → Chosen b m more one ≡ kinds.Open
is_open b m more one first second third = λ x. Chosen (first x) (second x) (third x) one

few : (n : ℕ) → nat_lt WAYS_MAX n ≡ false → n ≤ WAYS_MAX
few n is = grind (arith, nat_tests, is)

many : (n : ℕ) → nat_lt WAYS_MAX n ≡ true → WAYS_MAX < n
many n is = grind (arith, nat_tests, is)

is_many : (n : ℕ) → WAYS_MAX < n → nat_lt WAYS_MAX n ≡ true
is_many n is = grind (arith, nat_tests, is)

not_both : (n : ℕ) → n ≤ WAYS_MAX → WAYS_MAX < n → ⊥
not_both n one other = omega (arith, one, other)

-- ---- times
between_when : (when : When) → is_between when ≡ true → when ≡ whens.Between
between_when whens.Before is = absurd (cc is)
between_when whens.After is = absurd (cc is)
between_when whens.Both is = absurd (cc is)
between_when whens.Between is = refl
between_when whens.Mixed is = absurd (cc is)

mixed_when : (when : When) → is_mixed when ≡ true → when ≡ whens.Mixed
mixed_when whens.Before is = absurd (cc is)
mixed_when whens.After is = absurd (cc is)
mixed_when whens.Both is = absurd (cc is)
mixed_when whens.Between is = absurd (cc is)
mixed_when whens.Mixed is = refl

-- ---- one element
just_one : {X : Type 0} (xs : List X) (x y : X) → (length xs == 1) ≡ true → IsAmong x xs → IsAmong y xs
    → x ≡ y
just_one [] x y is there also = absurd there
just_one (z ∷ []) x y is there also = elim there [
  | inl same ↦ elim also [
    | inl equal ↦ same ∙ sym equal
    | inr none ↦ absurd none
  ]
  | inr none ↦ absurd none
]
just_one (z ∷ w ∷ xs) x y is there also =
    let more : length (z ∷ w ∷ xs) ≡ 1 = grind (arith, nat_tests, is) in absurd (omega (arith, more))

map_length : {X Y : Type 0} (f : X → Y) (xs : List X) → length (map f xs) ≡ length xs
map_length f [] = refl
map_length f (x ∷ xs) = let rest = map_length f xs in omega (arith, rest)

-- ---- of a packet
module _ (states : ℕ → State) (before ceiling : ℕ) (hook : Hook) (bytes : List ℕ) where
  abbrev told : List Told
  told = told_fates (answers_over states) before ceiling hook bytes

  abbrev time : Told → When
  time one = when_of (answers_over states) before ceiling hook bytes one.key

  abbrev times : List When
  times = whens_at (answers_over states) before ceiling hook bytes

  abbrev more : Bool
  more = has_more (answers_over states) before ceiling hook bytes

  abbrev ways_count : ℕ
  ways_count = length (ways_of (answers_over states) before ceiling hook bytes)

  abbrev kind : Kind
  kind = kind_at (answers_over states) before ceiling hook bytes

  abbrev some_between : Bool
  some_between = list_any is_between times

  abbrev some_mixed : Bool
  some_mixed = list_any is_mixed times

  abbrev Had : Fate → Type 0
  Had fate = CanHave states before ceiling hook bytes fate

  abbrev at : ℕ → Fate
  at = plain_fate states hook bytes

  pub all_looked_at : (kind_at (answers_over states) before ceiling hook bytes ≡ kinds.Steady)
      ⊎ (kind_at (answers_over states) before ceiling hook bytes ≡ kinds.Moved)
      → HasNoMore states before ceiling hook bytes
  all_looked_at either = elim either [
    | inl is ↦ few ways_count (steady_is some_between some_mixed more (length times == 1) is).0
    | inr is ↦ few ways_count (moved_is some_between some_mixed more (length times == 1) is).2
  ]

  -- a fate that is told at such a time
  abbrev ToldWhen : When → Type 0
  ToldWhen when = (one : Told) × IsAmong one told × (time one ≡ when)

  told_between : some_between ≡ true → ToldWhen whens.Between
  told_between is =
      let it = found_any is_between times is in
      let one = of_map time it.0 told it.1 in
      (one.0, one.1, sym one.2 ∙ between_when it.0 it.2)

  told_mixed : some_mixed ≡ true → ToldWhen whens.Mixed
  told_mixed is =
      let it = found_any is_mixed times is in
      let one = of_map time it.0 told it.1 in
      (one.0, one.1, sym one.2 ∙ mixed_when it.0 it.2)

  between_told : (one : Told) → IsAmong one told → time one ≡ whens.Between → some_between ≡ true
  between_told one there is = any_of is_between times (time one) (in_map time one told there) (ap is_between is)

  mixed_told : (one : Told) → IsAmong one told → time one ≡ whens.Mixed → some_mixed ≡ true
  mixed_told one there is = any_of is_mixed times (time one) (in_map time one told there) (ap is_mixed is)

  -- two keys differ, so where all are one fate there is one of them
  one_alone : (list : List Told) (fate : Fate) → AreOnce states before ceiling hook bytes list
      → ((one : Told) → IsAmong one list → one.key ≡ fate) → (one : Told) → IsAmong one list
      → length list ≡ 1
  one_alone [] fate once all one there = absurd there
  one_alone (t ∷ []) fate once all one there = refl
  one_alone (t ∷ u ∷ list) fate once all one there =
      absurd ((once.0 u (inl refl)).1 (all t (inl refl) ∙ sym (all u (inr (inl refl)))))

  module _ (sound : AreSound states before ceiling) (order : before ≤ ceiling) where
    state_had : (point : ℕ) → before ≤ point → point ≤ ceiling → Had (at point)
    state_had point least most =
        state_is_had states ceiling hook before point bytes least most (sound point least most)

    old_had : Had (at before)
    old_had = state_had before (omega arith) order

    new_had : Had (at ceiling)
    new_had = state_had ceiling order (omega arith)

    less : (n m : ℕ) → n < m → n ≤ m
    less n m is = omega (arith, is)

    -- ---- what a time that is told says
    has_between : some_between ≡ true → HasBetween Had at before ceiling
    has_between is =
        let one = told_between is in
        let it = (means_between states before ceiling hook bytes sound order one.0.key).0 one.2 in
        let point = it.1.0 in
        let same : one.0.key ≡ at point = it.1.3 in (
          point,
          it.1.1,
          it.1.2,
          state_had point (less before point it.1.1) (less point ceiling it.1.2),
          ((λ equal. it.0.0 (same ∙ equal)), (λ equal. it.0.1 (same ∙ equal))),
        )

    has_neither : some_mixed ≡ true → HasNeither Had (at before) (at ceiling)
    has_neither is =
        let one = told_mixed is in
        let it = (means_mixed states before ceiling hook bytes sound order one.0.key).0 one.2 in
        (one.0.key, can_have states before ceiling hook bytes one.0 one.1, it.0)

    -- a fate that is told is one of the two, where none is told as between or mixed
    abbrev IsEither : Fate → Type 0
    IsEither fate = (fate ≡ at before) ⊎ (fate ≡ at ceiling)

    either_or_not : (fate : Fate) → IsEither fate ⊎ IsNeither (at before) (at ceiling) fate
    either_or_not fate = by_tests (same_fate fate (at before)) refl (same_fate fate (at ceiling)) refl
      where
        differs : (other : Fate) → same_fate fate other ≡ false → fate ≢ other
        differs other is same = not_true (same_fate fate other) is
            (subst (λ (f : Fate). same_fate fate f ≡ true) same (fate_itself fate))

        by_tests : (b : Bool) → same_fate fate (at before) ≡ b → (c : Bool) → same_fate fate (at ceiling) ≡ c
            → IsEither fate ⊎ IsNeither (at before) (at ceiling) fate
        by_tests true one c other = inl (inl (fate_exact fate (at before) one))
        by_tests false one true other = inl (inr (fate_exact fate (at ceiling) other))
        by_tests false one false other = inr (differs (at before) one, differs (at ceiling) other)

    told_either : some_between ≡ false → some_mixed ≡ false → (one : Told) → IsAmong one told
        → IsEither one.key
    told_either no_between no_mixed one there = elim (either_or_not one.key) [
      | inl either ↦ either
      | inr neither ↦ elim (neither_is states before ceiling hook bytes sound order one.key neither) [
        | inl is ↦ absurd (not_true some_between no_between (between_told one there is))
        | inr is ↦ absurd (not_true some_mixed no_mixed (mixed_told one there is))
      ]
    ]

    -- ---- open
    abbrev AllEither : Type 0
    AllEither = (one : Told) → IsAmong one told → IsEither one.key

    none_between : AllEither → some_between ≡ true → ⊥
    none_between all is =
        let one = told_between is in
        let it = (means_between states before ceiling hook bytes sound order one.0.key).0 one.2 in
        elim (all one.0 one.1) [
          | inl old ↦ it.0.0 old
          | inr new ↦ it.0.1 new
        ]

    none_mixed : AllEither → some_mixed ≡ true → ⊥
    none_mixed all is =
        let one = told_mixed is in
        let it = (means_mixed states before ceiling hook bytes sound order one.0.key).0 one.2 in
        elim (all one.0 one.1) [
          | inl old ↦ it.0.0 old
          | inr new ↦ it.0.1 new
        ]

    pub open_means : (kind_at (answers_over states) before ceiling hook bytes ≡ kinds.Open)
        ↔ ((WAYS_MAX < length (ways_of (answers_over states) before ceiling hook bytes))
        × ((one : Told) → IsAmong one (told_fates (answers_over states) before ceiling hook bytes)
        → (one.key ≡ plain_fate states hook bytes before)
        ⊎ (one.key ≡ plain_fate states hook bytes ceiling)))
    open_means = (
      (λ is. let it = open_is some_between some_mixed more (length times == 1) is in
          (many ways_count it.2, told_either it.0 it.1)),
      (λ it. is_open some_between some_mixed more (length times == 1)
          (else_false some_between (none_between it.1)) (else_false some_mixed (none_mixed it.1))
          (is_many ways_count it.0)),
    )

    -- ---- whatever ways there are
    pub found_means : (kind_at (answers_over states) before ceiling hook bytes ≡ kinds.Between
        → HasBetween (CanHave states before ceiling hook bytes) (plain_fate states hook bytes) before ceiling)
        × (kind_at (answers_over states) before ceiling hook bytes ≡ kinds.Mixed
        → HasNeither (CanHave states before ceiling hook bytes) (plain_fate states hook bytes before)
        (plain_fate states hook bytes ceiling))
    found_means = (
      (λ is. has_between (between_is some_between some_mixed more (length times == 1) is)),
      (λ is. has_neither (mixed_is some_between some_mixed more (length times == 1) is).1),
    )

    -- ---- where all are looked at
    module _ (no_more : HasNoMore states before ceiling hook bytes) where
      as_told : (fate : Fate) → Had fate → (one : Told) × IsAmong one told × (one.key ≡ fate)
      as_told fate had = had_is_told states before ceiling hook bytes no_more fate had

      one_told : (length times == 1) ≡ true → (length told == 1) ≡ true
      one_told is = subst (λ (n : ℕ). (n == 1) ≡ true) (map_length time told) is

      then_steady : kind ≡ kinds.Steady → HasOneFate Had
      then_steady is =
          let one = one_told (steady_is some_between some_mixed more (length times == 1) is).1 in
          let old = as_told (at before) old_had in (
            at before,
            old_had,
            λ other had. let it = as_told other had in
                sym it.2 ∙ ap (λ (t : Told). t.key) (just_one told it.0 old.0 one it.1 old.1) ∙ old.2,
          )

      single : (n : ℕ) → n ≡ 1 → (n == 1) ≡ true
      single n is = grind (arith, nat_tests, is)

      moved_differ : AllEither → (length times == 1) ≡ false → at before ≢ at ceiling
      moved_differ all not_one same =
          let old = as_told (at before) old_had in
          let one = one_alone told (at before) (told_once states before ceiling hook bytes)
          (λ t there. elim (all t there) [
            | inl is ↦ is
            | inr is ↦ is ∙ sym same
          ]) old.0 old.1 in
          not_true (length times == 1) not_one (single (length times) (map_length time told ∙ one))

      then_moved : kind ≡ kinds.Moved → HasOldAndNew Had (at before) (at ceiling)
      then_moved is =
          let it = moved_is some_between some_mixed more (length times == 1) is in
          let all = told_either it.0 it.1 in (
            old_had,
            new_had,
            moved_differ all it.3,
            λ fate had. let one = as_told fate had in
                subst (λ (f : Fate). IsEither f) one.2 (all one.0 one.1),
          )

      then_between : kind ≡ kinds.Between → HasBetween Had at before ceiling
      then_between is = found_means.0 is

      between_there : HasBetween Had at before ceiling → some_between ≡ true
      between_there it =
          let one = as_told (at it.0) it.3 in
          let when = (means_between states before ceiling hook bytes sound order (at it.0)).1
          (it.4, (it.0, it.1, it.2, refl)) in
          between_told one.0 one.1
          (subst (λ (f : Fate). when_of (answers_over states) before ceiling hook bytes f ≡ whens.Between)
          (sym one.2) when)

      none_is_between : some_between ≡ false → NoneIsBetween at before ceiling
      none_is_between is point above below = elim (either_or_not (at point)) [
        | inl either ↦ either
        | inr neither ↦ absurd (not_true some_between is (between_there (
          point,
          above,
          below,
          state_had point (less before point above) (less point ceiling below),
          neither,
        )))
      ]

      abbrev HasMixed : Type 0
      HasMixed = HasNeither Had (at before) (at ceiling) × NoneIsBetween at before ceiling

      then_mixed : kind ≡ kinds.Mixed → HasMixed
      then_mixed is =
          let it = mixed_is some_between some_mixed more (length times == 1) is in
          (has_neither it.1, none_is_between it.0)

      never_open : kind ≡ kinds.Open → ⊥
      never_open is = not_both ways_count no_more (many ways_count
          (open_is some_between some_mixed more (length times == 1) is).2)

      -- no two of these together
      abbrev Neither : Type 0
      Neither = HasNeither Had (at before) (at ceiling)

      of_between : HasBetween Had at before ceiling → Neither
      of_between it = (at it.0, it.3, it.4)

      one_or_moved : HasOneFate Had → HasOldAndNew Had (at before) (at ceiling) → ⊥
      one_or_moved one two = two.2 (one.2 (at before) two.0 ∙ sym (one.2 (at ceiling) two.1))

      one_or_neither : HasOneFate Had → Neither → ⊥
      one_or_neither one other = other.2.0 (one.2 other.0 other.1 ∙ sym (one.2 (at before) old_had))

      moved_or_neither : HasOldAndNew Had (at before) (at ceiling) → Neither → ⊥
      moved_or_neither two other = elim (two.3 other.0 other.1) [
        | inl old ↦ other.2.0 old
        | inr new ↦ other.2.1 new
      ]

      between_or_none : HasBetween Had at before ceiling → NoneIsBetween at before ceiling → ⊥
      between_or_none it none = elim (none it.0 it.1 it.2) [
        | inl old ↦ it.4.0 old
        | inr new ↦ it.4.1 new
      ]

      by_steady : HasOneFate Had → (k : Kind) → kind ≡ k → k ≡ kinds.Steady
      by_steady one kinds.Steady is = refl
      by_steady one kinds.Moved is = absurd (one_or_moved one (then_moved is))
      by_steady one kinds.Between is = absurd (one_or_neither one (of_between (then_between is)))
      by_steady one kinds.Mixed is = absurd (one_or_neither one (then_mixed is).0)
      by_steady one kinds.Open is = absurd (never_open is)

      by_moved : HasOldAndNew Had (at before) (at ceiling) → (k : Kind) → kind ≡ k → k ≡ kinds.Moved
      by_moved two kinds.Steady is = absurd (one_or_moved (then_steady is) two)
      by_moved two kinds.Moved is = refl
      by_moved two kinds.Between is = absurd (moved_or_neither two (of_between (then_between is)))
      by_moved two kinds.Mixed is = absurd (moved_or_neither two (then_mixed is).0)
      by_moved two kinds.Open is = absurd (never_open is)

      by_between : HasBetween Had at before ceiling → (k : Kind) → kind ≡ k → k ≡ kinds.Between
      by_between it kinds.Steady is = absurd (one_or_neither (then_steady is) (of_between it))
      by_between it kinds.Moved is = absurd (moved_or_neither (then_moved is) (of_between it))
      by_between it kinds.Between is = refl
      by_between it kinds.Mixed is = absurd (between_or_none it (then_mixed is).1)
      by_between it kinds.Open is = absurd (never_open is)

      by_mixed : HasMixed → (k : Kind) → kind ≡ k → k ≡ kinds.Mixed
      by_mixed it kinds.Steady is = absurd (one_or_neither (then_steady is) it.0)
      by_mixed it kinds.Moved is = absurd (moved_or_neither (then_moved is) it.0)
      by_mixed it kinds.Between is = absurd (between_or_none (then_between is) it.1)
      by_mixed it kinds.Mixed is = refl
      by_mixed it kinds.Open is = absurd (never_open is)

      pub steady_means : (kind_at (answers_over states) before ceiling hook bytes ≡ kinds.Steady)
          ↔ HasOneFate (CanHave states before ceiling hook bytes)
      steady_means = (then_steady, λ one. by_steady one kind refl)

      pub moved_means : (kind_at (answers_over states) before ceiling hook bytes ≡ kinds.Moved)
          ↔ HasOldAndNew (CanHave states before ceiling hook bytes) (plain_fate states hook bytes before)
          (plain_fate states hook bytes ceiling)
      moved_means = (then_moved, λ two. by_moved two kind refl)

      pub between_means : (kind_at (answers_over states) before ceiling hook bytes ≡ kinds.Between)
          ↔ HasBetween (CanHave states before ceiling hook bytes) (plain_fate states hook bytes) before ceiling
      between_means = (then_between, λ it. by_between it kind refl)

      pub mixed_means : (kind_at (answers_over states) before ceiling hook bytes ≡ kinds.Mixed)
          ↔ (HasNeither (CanHave states before ceiling hook bytes) (plain_fate states hook bytes before)
          (plain_fate states hook bytes ceiling)
          × NoneIsBetween (plain_fate states hook bytes) before ceiling)
      mixed_means = (then_mixed, λ it. by_mixed it kind refl)
