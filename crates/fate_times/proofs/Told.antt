-- A packet with one fate, where all its ways were looked at.
use Rattle.std.proofs.Common.{◌≡◌, ◌∙◌, ℕ, ◌≤◌, nat_lt, Bool, true, false, List, [], ◌∷◌, map, length}
use Rattle.std.proofs.Common.{inl, inr, refl, sym, ap, subst, arith}
use Rattle.std.specs.Prelude.{slice_set}
use Rattle.std.specs.List.{list_any}
use Rattle.std.proofs.lemmas.Bool.Decides.{nat_tests}
use Rattle.tc_base.specs.declared.hook.Hook.{Hook}
use Rattle.point_walks.specs.Over.{Answering}
use Rattle.walk_fate_laws.specs.declared.limits.TheConstants.{WAYS_MAX}
use Rattle.walk_fate_laws.specs.declared.kinds.When.{When}
use Rattle.walk_fate_laws.specs.declared.kinds.When.TheVariants as whens
use Rattle.walk_fate_laws.specs.Fates.{Fate, same_fate}
use Rattle.walk_fate_laws.specs.Firsts.{IsAmong}
use Rattle.walk_fate_laws.specs.Walks.{ways_of}
use Rattle.walk_fate_laws.specs.Told.{Told, told_fates, has_more}
use Rattle.walk_fate_laws.specs.Stays.{IsAnsweredAt}
use Rattle.walk_fate_laws.specs.Times.{is_fate, is_had_at, when_by, points_between, when_of, whens_at}
use Rattle.walk_fate_laws.proofs.Same.{fate_itself}
use Rattle.walk_fate_laws.proofs.Staying.{stay_is_told}
use Rattle.fate_search.specs.Found.{Found, all_found}
use Rattle.fate_times.specs.Marks.{times_of}

few : (n : ℕ) → nat_lt WAYS_MAX n ≡ false → n ≤ WAYS_MAX
few n is = grind (arith, nat_tests, is)

only : {X : Type 0} (x : X) (xs : List X) (y : X) → length xs ≡ 1 → IsAmong x xs → IsAmong y xs → x ≡ y
only x [] y one there also = absurd there
only x (z ∷ []) y one there also = elim there [
  | inl is ↦ elim also [
    | inl other ↦ is ∙ sym other
    | inr none ↦ absurd none
  ]
  | inr none ↦ absurd none
]
only x (z ∷ w ∷ xs) y one there also = absurd (omega (arith, one))

all_length : (all : List Told) → length (all_found all) ≡ length all
all_length [] = refl
all_length (told ∷ all) = let rest = all_length all in omega (arith, rest)

single : (fates : List Found) → length fates ≡ 1
    → slice_set (times_of (λ fate. whens.Mixed) fates) 0 whens.Both ≡ whens.Both ∷ []
single [] one = absurd (omega (arith, one))
single (found ∷ []) one = refl
single (found ∷ other ∷ fates) one = absurd (omega (arith, one))

is_both : (b c m : Bool) → b ≡ true → c ≡ true → when_by b c m ≡ whens.Both
is_both b c m one other = λ x. when_by (one x) (other x) m

module _ (answers : Answering) (before ceiling : ℕ) (hook : Hook) (bytes : List ℕ) (order : before ≤ ceiling)
    (ends : (point : ℕ) → before ≤ point → point ≤ ceiling → IsAnsweredAt answers hook bytes point)
    (no_more : has_more answers before ceiling hook bytes ≡ false) where
  abbrev all : List Told
  all = told_fates answers before ceiling hook bytes

  had_there : (told : Told) (point : ℕ) → length all ≡ 1 → IsAmong told all → before ≤ point
      → point ≤ ceiling → is_had_at answers hook bytes told.key point ≡ true
  had_there told point one there least most =
      let answered = ends point least most in
      let it = stay_is_told answers before ceiling hook bytes point answered.0
      (few (length (ways_of answers before ceiling hook bytes)) no_more) least most answered.1 in
      let same : answered.0 ≡ told.key =
      sym it.2 ∙ ap (λ (t : Told). t.key) (only it.0 all told one it.1 there) in
      ap (is_fate told.key) answered.1
      ∙ subst (λ (fate : Fate). same_fate told.key fate ≡ true) (sym same) (fate_itself told.key)

  both_there : (told : Told) → length all ≡ 1 → IsAmong told all
      → when_of answers before ceiling hook bytes told.key ≡ whens.Both
  both_there told one there = is_both (is_had_at answers hook bytes told.key before)
      (is_had_at answers hook bytes told.key ceiling)
      (list_any (is_had_at answers hook bytes told.key) (points_between before ceiling))
      (had_there told before one there (omega arith) order)
      (had_there told ceiling one there order (omega arith))

  one_time : (list : List Told) → length list ≡ 1
      → ((told : Told) → IsAmong told list → when_of answers before ceiling hook bytes told.key ≡ whens.Both)
      → map (λ (told : Told). when_of answers before ceiling hook bytes told.key) list ≡ whens.Both ∷ []
  one_time [] one each = absurd (omega (arith, one))
  one_time (told ∷ []) one each = ap (λ (when : When). when ∷ []) (each told (inl refl))
  one_time (told ∷ other ∷ list) one each = absurd (omega (arith, one))

  pub steady_time : (fates : List Found) → length fates ≡ 1
      → fates ≡ all_found (told_fates answers before ceiling hook bytes)
      → whens_at answers before ceiling hook bytes ≡ whens.Both ∷ []
  steady_time fates one are =
      let single : length all ≡ 1 = sym (all_length all) ∙ ap length (sym are) ∙ one in
      one_time all single (λ told there. both_there told single there)

  -- so the time of the one that there is stands for all
  pub steady_set : (fates : List Found) (times : List When) → length fates ≡ 1
      → fates ≡ all_found (told_fates answers before ceiling hook bytes)
      → times ≡ times_of (λ fate. whens.Mixed) fates
      → slice_set times 0 whens.Both ≡ whens_at answers before ceiling hook bytes
  steady_set fates times one are none = ap (λ (all : List When). slice_set all 0 whens.Both) none
      ∙ single fates one ∙ sym (steady_time fates one are)
