-- The search finds walks, and for each walk one with the same answers.
use Rattle.std.proofs.Common.{◌≡◌, ◌∙◌, ℕ, zero, suc, ◌+◌, ◌-◌, ◌<◌, ◌≤◌, List, [], ◌∷◌, map, length, Option}
use Rattle.std.proofs.Common.{Some, None, inl, inr, refl, sym, ap, subst, arith}
use Rattle.std.specs.List.{range_with_len}
use Rattle.std.proofs.lemmas.Option.{none-some, same_Some}
use Rattle.walk_fate_laws.specs.Firsts.{IsAmong, First}
use Rattle.walk_fate_laws.specs.Order.{AreAtMost}
use Rattle.walk_fate_laws.specs.Games.{Game, IsExact, raised, IsWalkFrom}
use Rattle.walk_fate_laws.specs.Ways.{Way, branches, put_before, ways_through, ways_by, ways_from}
use Rattle.walk_fate_laws.proofs.Members.{in_map, of_map, in_flat, of_flat, in_row, of_row, row_rises}
use Rattle.walk_fate_laws.proofs.Finding.{first_told, found}
use Rattle.walk_fate_laws.proofs.Bounds.{walk_below, earlier_less}

within : (low point ceiling : ℕ) → low ≤ point → point < low + ((ceiling + 1) - low) → point ≤ ceiling
within low point ceiling least less = omega (arith, least, less)

room : (low point ceiling : ℕ) → low ≤ point → point ≤ ceiling → point < low + ((ceiling + 1) - low)
room low point ceiling least most = omega (arith, least, most)

at_most : (one other : ℕ) → one ≡ other → one ≤ other
at_most one other is = omega (arith, is)

at_most_below : (one other : ℕ) → one < other → one ≤ other
at_most_below one other less = omega (arith, less)

-- ---- no question, or one
at_none : {S Q A : Type 0} (st : S) (o : Option Q) (more : Q → List (Way S A)) → o ≡ None
    → IsAmong (record { points = []; answers = []; end = st }) (ways_by st o more)
at_none st None more is = inl refl
at_none st (Some q) more is = absurd (none-some q (sym is))

at_some : {S Q A : Type 0} (st : S) (o : Option Q) (more : Q → List (Way S A)) (q : Q) (way : Way S A)
    → o ≡ Some q → IsAmong way (more q) → IsAmong way (ways_by st o more)
at_some st None more q way is there = absurd (none-some q is)
at_some st (Some r) more q way is there =
    subst (λ (v : _). IsAmong way (more v)) (sym (same_Some r q is)) there

module _ {S Q A : Type 0} (g : Game S Q A) (ceiling : ℕ) where
  -- ---- branches
  pub record IsBranch (low : Q → ℕ) (question : Q) (b : First ℕ A) : Type 0 where
    pub least : low question ≤ b.item
    pub most : b.item ≤ ceiling
    pub told : g.answer b.item question ≡ Some b.key

  pub is_branch : (low : Q → ℕ) (question : Q) (b : First ℕ A) → IsAmong b (branches g ceiling low question)
      → IsBranch low question b
  is_branch low question b there =
      let many = (ceiling + 1) - low question in
      let row = range_with_len (low question) many in
      let it = first_told g.same (λ point. g.answer point question) [] row b there in
      let bounds = of_row b.item (low question) many it.there in
      record {
        least = bounds.0;
        most = within (low question) b.item ceiling bounds.0 bounds.1;
        told = it.key;
      }

  pub record HasBranch (low : Q → ℕ) (question : Q) (point : ℕ) (answer : A) : Type 0 where
    pub branch : First ℕ A
    pub there : IsAmong branch (branches g ceiling low question)
    pub told : branch.key ≡ answer
    pub least : branch.item ≤ point

  pub has_branch : IsExact g → (low : Q → ℕ) (question : Q) (point : ℕ) (answer : A) → low question ≤ point
      → point ≤ ceiling → g.answer point question ≡ Some answer → HasBranch low question point answer
  has_branch exact low question point answer least most is =
      let many = (ceiling + 1) - low question in
      let row = range_with_len (low question) many in
      elim (found g.same (λ point. g.answer point question) exact.same ◌<◌ [] row point answer
      (row_rises (low question) many)
      (in_row point (low question) many least (room (low question) point ceiling least most)) is) [
        | inl none ↦ absurd none
        | inr it ↦ record {
          branch = it.0;
          there = it.1;
          told = it.2;
          least = elim it.3 [
            | inl same ↦ at_most it.0.item point same
            | inr less ↦ at_most_below it.0.item point less
          ];
        }
      ]

  -- what is behind a branch, and behind all of them
  abbrev pub ways_after : ℕ → S → (Q → ℕ) → Q → First ℕ A → List (Way S A)
  ways_after depth st low q b = ways_from g ceiling depth (g.after st b.key) (raised g low q b.item)

  abbrev pub ways_on : ℕ → S → (Q → ℕ) → Q → List (Way S A)
  ways_on depth st low q = ways_through (ways_after depth st low q) (branches g ceiling low q)

  -- ---- each way is a walk
  abbrev IsWalkedBy : S → (Q → ℕ) → Way S A → Type 0
  IsWalkedBy st low way = IsWalkFrom g ceiling st low way.points way.answers way.end

  by_question : (st : S) (low : Q → ℕ) (way : Way S A) (o : Option Q) (more : Q → List (Way S A))
      → g.question st ≡ o → IsAmong way (ways_by st o more)
      → ((q : Q) → g.question st ≡ Some q → IsAmong way (more q) → IsWalkedBy st low way)
      → IsWalkedBy st low way
  by_question st low way None more is there rest = elim there [
    | inl same ↦ subst (IsWalkedBy st low) (sym same) (is, refl, refl)
    | inr none ↦ absurd none
  ]
  by_question st low way (Some q) more is there rest = rest q is there

  pub way_is_walk : (depth : ℕ) (st : S) (low : Q → ℕ) (way : Way S A)
      → IsAmong way (ways_from g ceiling depth st low) → IsWalkedBy st low way
  unfolding ways_from
  way_is_walk zero st low way there =
      by_question st low way (g.question st) (λ q. []) refl there (λ q is none. absurd none)
  way_is_walk (suc depth) st low way there =
      by_question st low way (g.question st) (λ q. ways_on depth st low q) refl there
      (λ q is more. goes_on q is more
      (λ b v rest. way_is_walk depth (g.after st b.key) (raised g low q b.item) v rest))
    where
      goes_on : (q : Q) → g.question st ≡ Some q → IsAmong way (ways_on depth st low q)
          → ((b : First ℕ A) (v : Way S A) → IsAmong v (ways_after depth st low q b)
          → IsWalkedBy (g.after st b.key) (raised g low q b.item) v) → IsWalkedBy st low way
      goes_on q is more rest =
          let one = of_flat (λ (b : First ℕ A). map (put_before b) (ways_after depth st low q b)) way
          (branches g ceiling low q) more in
          let b = one.0 in
          let behind = of_map (put_before b) way (ways_after depth st low q b) one.2 in
          let it = is_branch low q b one.1 in
          subst (IsWalkedBy st low) (sym behind.2) (
            q,
            b.key,
            behind.0.answers,
            is,
            it.least,
            it.most,
            it.told,
            refl,
            rest b behind.0 behind.1,
          )

  -- ---- each walk has a way
  abbrev pub Reached : ℕ → S → (Q → ℕ) → List ℕ → List A → S → Type 0
  Reached depth st low points answers end = (way : Way S A) × IsAmong way (ways_from g ceiling depth st low)
      × (way.answers ≡ answers) × (way.end ≡ end) × AreAtMost way.points points

  ends_here : (depth : ℕ) (st end : S) (low : Q → ℕ) (answers : List A)
      → IsWalkFrom g ceiling st low [] answers end → Reached depth st low [] answers end
  unfolding ways_from
  ends_here zero st end low answers walk = (
    record { points = []; answers = []; end = st },
    at_none st (g.question st) (λ q. []) walk.0,
    sym walk.1,
    sym walk.2,
    tt,
  )
  ends_here (suc depth) st end low answers walk = (
    record { points = []; answers = []; end = st },
    at_none st (g.question st) (λ q. ways_on depth st low q) walk.0,
    sym walk.1,
    sym walk.2,
    tt,
  )

  pub walk_has_way : IsExact g → (depth : ℕ) (st end : S) (low : Q → ℕ) (points : List ℕ) (answers : List A)
      → IsWalkFrom g ceiling st low points answers end → length points ≤ depth
      → Reached depth st low points answers end
  unfolding ways_from
  walk_has_way exact depth st end low [] answers walk few = ends_here depth st end low answers walk
  walk_has_way exact zero st end low (p ∷ ps) answers walk few = absurd (omega (arith, few))
  walk_has_way exact (suc depth) st end low (p ∷ ps) answers walk few =
      let it = has_branch exact low walk.0 p walk.1 walk.4 walk.5 walk.6 in
      by_branch it (walk_has_way exact depth (g.after st it.branch.key) end
      (raised g low walk.0 it.branch.item)
      ps walk.2 (below it) (omega (arith, few)))
    where
      below : (it : HasBranch low walk.0 p walk.1)
          → IsWalkFrom g ceiling (g.after st it.branch.key) (raised g low walk.0 it.branch.item) ps walk.2 end
      below it =
          subst (λ (a : A). IsWalkFrom g ceiling (g.after st a)
          (raised g low walk.0 it.branch.item) ps walk.2 end)
          (sym it.told)
          (walk_below g ceiling ps walk.2 (g.after st walk.1) end (raised g low walk.0 it.branch.item)
          (raised g low walk.0 p) (earlier_less g low walk.0 it.branch.item p it.least) walk.8)

      by_branch : (it : HasBranch low walk.0 p walk.1)
          → Reached depth (g.after st it.branch.key) (raised g low walk.0 it.branch.item) ps walk.2 end
          → Reached (suc depth) st low (p ∷ ps) answers end
      by_branch it rest = (
        put_before it.branch rest.0,
        at_some st (g.question st) (λ q. ways_on depth st low q) walk.0 (put_before it.branch rest.0) walk.3
            (in_flat (λ (b : First ℕ A). map (put_before b) (ways_after depth st low walk.0 b)) it.branch
            (put_before it.branch rest.0) (branches g ceiling low walk.0) it.there
            (in_map (put_before it.branch) rest.0 (ways_after depth st low walk.0 it.branch) rest.1)),
        ap (λ (a : A). a ∷ rest.0.answers) it.told ∙ ap (λ (more : List A). walk.1 ∷ more) rest.2
            ∙ sym walk.7,
        rest.3,
        (it.least, rest.4),
      )
