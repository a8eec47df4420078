-- Ways rise, and so the first with an end is the least.
use Rattle.std.proofs.Common.{◌≡◌, ◌∙◌, ℕ, zero, suc, ◌+◌, ◌-◌, ◌<◌, ◌≤◌, Bool, true, false, List, [], ◌∷◌}
use Rattle.std.proofs.Common.{◌++◌, map, length, Option, Some, None, ◌⊎◌, inl, inr, refl, sym, ap, subst}
use Rattle.std.proofs.Common.{arith}
use Rattle.std.specs.Prelude.{if◌then◌else◌}
use Rattle.std.specs.List.{range_with_len}
use Rattle.std.proofs.lemmas.Bool.{cases_lt}
use Rattle.walk_fate_laws.specs.Firsts.{IsAmong, First}
use Rattle.walk_fate_laws.specs.Order.{IsEarlier, IsNoLater, AreAtMost}
use Rattle.walk_fate_laws.specs.Games.{Game, IsExact, raised, IsWalkFrom}
use Rattle.walk_fate_laws.specs.Ways.{Way, branches, put_before, ways_through, ways_by, ways_from, AreRising}
use Rattle.walk_fate_laws.specs.Ways.{first_way}
use Rattle.walk_fate_laws.proofs.Members.{of_map, of_flat, in_either, row_rises}
use Rattle.walk_fate_laws.proofs.Finding.{ItemsStand, firsts_stand}
use Rattle.walk_fate_laws.proofs.Searching.{ways_after, ways_on, walk_has_way}

-- ---- ways behind a branch, and behind rising branches
module _ {S A : Type 0} where
  put_rises : (b : First ℕ A) (ways : List (Way S A)) → AreRising ways → AreRising (map (put_before b) ways)
  put_rises b [] rise = tt
  put_rises b (way ∷ ways) rise = (behind, put_rises b ways rise.1)
    where
      behind : (other : Way S A) → IsAmong other (map (put_before b) ways)
          → IsEarlier (b.item ∷ way.points) other.points
      behind other there =
          let it = of_map (put_before b) other ways there in
          subst (λ (v : Way S A). IsEarlier (b.item ∷ way.points) v.points) (sym it.2)
          (inr (refl, rise.0 it.0 it.1))

  joined_rise : (ones others : List (Way S A)) → AreRising ones → AreRising others
      → ((one other : Way S A) → IsAmong one ones → IsAmong other others → IsEarlier one.points other.points)
      → AreRising (ones ++ others)
  joined_rise [] others rise more between = more
  joined_rise (way ∷ ones) others rise more between = (
    behind,
    joined_rise ones others rise.1 more
        (λ one other there later. between one other (inr there) later),
  )
    where
      behind : (other : Way S A) → IsAmong other (ones ++ others) → IsEarlier way.points other.points
      behind other there = elim (in_either other ones others there) [
        | inl own ↦ rise.0 other own
        | inr later ↦ between way other (inl refl) later
      ]

  through_rises : (more : First ℕ A → List (Way S A)) (bs : List (First ℕ A)) → ItemsStand ◌<◌ bs
      → ((b : First ℕ A) → AreRising (more b)) → AreRising (ways_through more bs)
  through_rises more [] rise each = tt
  through_rises more (b ∷ bs) rise each =
      joined_rise (map (put_before b) (more b)) (ways_through more bs) (put_rises b (more b) (each b))
      (through_rises more bs rise.1 each) between
    where
      between : (one other : Way S A) → IsAmong one (map (put_before b) (more b))
          → IsAmong other (ways_through more bs) → IsEarlier one.points other.points
      between one other there later =
          let it = of_map (put_before b) one (more b) there in
          let far = of_flat (λ (c : First ℕ A). map (put_before c) (more c)) other bs later in
          let its = of_map (put_before far.0) other (more far.0) far.2 in
          subst (λ (v : Way S A). IsEarlier v.points other.points) (sym it.2)
          (subst (λ (v : Way S A). IsEarlier (b.item ∷ it.0.points) v.points) (sym its.2)
          (inl (rise.0 far.0 far.1)))

  by_rises : {Q : Type 0} (st : S) (o : Option Q) (more : Q → List (Way S A)) → ((q : Q) → AreRising (more q))
      → AreRising (ways_by st o more)
  by_rises st None more each = ((λ other there. absurd there), tt)
  by_rises st (Some q) more each = each q

-- ---- all ways
module _ {S Q A : Type 0} (g : Game S Q A) (ceiling : ℕ) where
  branches_rise : (low : Q → ℕ) (q : Q) → ItemsStand ◌<◌ (branches g ceiling low q)
  branches_rise low q =
      let many = (ceiling + 1) - low q in
      firsts_stand g.same (λ point. g.answer point q) ◌<◌ [] (range_with_len (low q) many)
      (row_rises (low q) many)

  pub ways_rise : (depth : ℕ) (st : S) (low : Q → ℕ) → AreRising (ways_from g ceiling depth st low)
  unfolding ways_from
  ways_rise zero st low = by_rises st (g.question st) (λ q. []) (λ q. tt)
  ways_rise (suc depth) st low = by_rises st (g.question st) (λ q. ways_on g ceiling depth st low q)
      (λ q. through_rises (ways_after g ceiling depth st low q) (branches g ceiling low q)
      (branches_rise low q)
      (λ b. ways_rise depth (g.after st b.key) (raised g low q b.item)))

-- ---- the first is the least
pub at_most_no_later : (ones others : List ℕ) → AreAtMost ones others → IsNoLater ones others
at_most_no_later [] [] most = inl refl
at_most_no_later [] (other ∷ others) most = absurd most
at_most_no_later (one ∷ ones) [] most = absurd most
at_most_no_later (one ∷ ones) (other ∷ others) most = elim (cases_lt one other) [
  | inl less ↦ inr (inl less)
  | inr not_less ↦ (let least = most.0 in let is : one ≡ other = omega (arith, least, not_less) in
      elim (at_most_no_later ones others most.1) [
        | inl same ↦ inl (ap (λ (n : ℕ). n ∷ ones) is ∙ ap (λ (ns : List ℕ). other ∷ ns) same)
        | inr rest ↦ inr (inr (is, rest))
      ])
]

earlier_still : (ones middle others : List ℕ) → IsEarlier ones middle → AreAtMost middle others
    → IsEarlier ones others
earlier_still [] middle others less most = absurd less
earlier_still (one ∷ ones) [] others less most = absurd less
earlier_still (one ∷ ones) (m ∷ middle) [] less most = absurd most
earlier_still (one ∷ ones) (m ∷ middle) (other ∷ others) less most = elim less [
  | inl below ↦ (let least = most.0 in inl (omega (arith, below, least)))
  | inr rest ↦ elim (cases_lt m other) [
    | inl later ↦ (let is = rest.0 in inl (omega (arith, is, later)))
    | inr not_later ↦ (let is = rest.0 in let least = most.0 in
        inr (omega (arith, is, least, not_later), earlier_still ones middle others rest.1 most.1))
  ]
]

-- a way that is another, or earlier, is no later than what that is at most
pub no_later_still : {S A : Type 0} (way v : Way S A) (points : List ℕ)
    → (way ≡ v) ⊎ IsEarlier way.points v.points → AreAtMost v.points points → IsNoLater way.points points
no_later_still {S = S} {A = A} way v points either most = elim either [
  | inl same ↦ subst (λ (u : Way S A). IsNoLater u.points points) (sym same)
      (at_most_no_later v.points points most)
  | inr less ↦ inr (earlier_still way.points v.points points less most)
]

module _ {S A : Type 0} (test : S → Bool) where
  abbrev FoundFirst : Option (Way S A) → Way S A → Type 0
  FoundFirst o v = (way : Way S A) × (o ≡ Some way) × ((way ≡ v) ⊎ IsEarlier way.points v.points)

  found_first : (ways : List (Way S A)) (v : Way S A) → AreRising ways → IsAmong v ways → test v.end ≡ true
      → FoundFirst (first_way test ways) v
  found_first [] v rise there passes = absurd there
  found_first (x ∷ ways) v rise there passes =
      by_test (test x.end) refl (λ rest. found_first ways v rise.1 rest passes)
    where
      by_test : (t : Bool) → test x.end ≡ t → (IsAmong v ways → FoundFirst (first_way test ways) v)
          → FoundFirst (if t then Some x else first_way test ways) v
      by_test true is rest = elim there [
        | inl same ↦ (x, refl, inl (sym same))
        | inr later ↦ (x, refl, inr (rise.0 v later))
      ]
      by_test false is rest = elim there [
        | inl same ↦ absurd (cc (is, passes, ap (λ (u : Way S A). test u.end) same))
        | inr later ↦ rest later
      ]

pub first_is_least : {S Q A : Type 0} (g : Game S Q A) → IsExact g → (test : S → Bool) (depth ceiling : ℕ)
    (st end : S) (low : Q → ℕ) (points : List ℕ) (answers : List A)
    → IsWalkFrom g ceiling st low points answers end → length points ≤ depth → test end ≡ true
    → (way : Way S A) × (first_way test (ways_from g ceiling depth st low) ≡ Some way)
    × IsNoLater way.points points
first_is_least g exact test depth ceiling st end low points answers walk few passes =
    let v = walk_has_way g ceiling exact depth st end low points answers walk few in
    let first = found_first test (ways_from g ceiling depth st low) v.0 (ways_rise g ceiling depth st low) v.1
    (ap test v.3 ∙ passes) in
    (first.0, first.1, no_later_still first.0 v.0 points first.2 v.4)
