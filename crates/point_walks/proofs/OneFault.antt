-- Points have one fault.
use Rattle.std.proofs.Common.{◌≡◌, ◌∙◌, ℕ, ◌+◌, ◌<◌, List, length, take, get_or, Option, Some, None, refl, sym, ap, arith, inl, inr}
use Rattle.std.proofs.lemmas.Bool.{cases_lt}
use Rattle.std.proofs.lemmas.List.{take-take}
use Rattle.tc_base.specs.declared.hook.Hook.{Hook}
use Rattle.walk_rules.specs.Questions.{Question}
use Rattle.walk_rules.specs.Steps.{Standing, begun, question_of}
use Rattle.point_walks.specs.declared.at_points.Thing.{Thing}
use Rattle.point_walks.specs.declared.bounds.Bounds.{Bounds}
use Rattle.point_walks.specs.declared.fault.PointFault.{PointFault}
use Rattle.point_walks.specs.declared.fault.PointFault.TheVariants as faults
use Rattle.point_walks.specs.Faults.{AsksInVain, EndsEarly, StillAsks, IsWalkFault, IsFault}
use Rattle.point_walks.specs.Over.{Answering, answered_at, moved_by, stands_after}
use Rattle.point_walks.specs.Visits.{thing_of, visits_over, IsWalkAt}
use Rattle.point_walks.proofs.Moves.{stands_more, nothing_after, visit_is}
use Rattle.point_walks.proofs.Falling.{never_both_fall}
use Rattle.point_walks.proofs.Within.{lawful_within}
use Rattle.point_walks.proofs.Visited.{points_are}
use Rattle.point_walks.proofs.Faulty.{inside_bounds}

never_both : (o : Option Standing) (st : Standing) → o ≡ None → o ≡ Some st → ⊥
never_both o st none some = cc (sym none ∙ some)

module _ (answers : Answering) (first : Standing) (points : List ℕ) where
  -- the walk stands behind so many points, and nowhere behind one more
  pub record Stop (count : ℕ) (stand : Standing) : Type 0 where
    pub less : count < length points
    pub stands : stands_after answers first (take count points) ≡ Some stand
    pub next : stands_after answers first (take (count + 1) points) ≡ None

  pub gone_stop : {thing : Thing} → (it : AsksInVain answers first points thing) → Stop it.count it.stand
  gone_stop it = record {
    less = it.less;
    stands = it.stands;
    next = stands_more answers first it.stand points it.count 0 None it.less it.stands (visit_is answers (get_or points it.count 0) it.stand it.question None it.asks it.none);
  }

  pub early_stop : (it : EndsEarly answers first points) → Stop it.count it.stand
  early_stop it = record {
    less = it.less;
    stands = it.stands;
    next = stands_more answers first it.stand points it.count 0 None it.less it.stands (ap (λ (q : Option Question). moved_by it.stand (answered_at answers (get_or points it.count 0) q)) it.over);
  }

  none_later : (k n : ℕ) → k < n → stands_after answers first (take (k + 1) points) ≡ None → stands_after answers first (take n points) ≡ None
  none_later k n less none =
      nothing_after answers first (take n points) (k + 1) (ap (stands_after answers first) (take-take (k + 1) n points (omega (arith, less))) ∙ none)

  no_later : {k n : ℕ} {st other : Standing} → Stop k st → Stop n other → k < n → ⊥
  no_later {k} {n} {st} {other} one two less = never_both (stands_after answers first (take n points)) other (none_later k n less one.next) two.stands

  one_count : {k n : ℕ} {st other : Standing} → Stop k st → Stop n other → k ≡ n
  one_count {k} {n} one two = elim (cases_lt k n) [
    | inl less ↦ absurd (no_later one two less)
    | inr most ↦ elim (cases_lt n k) [
      | inl less ↦ absurd (no_later two one less)
      | inr least ↦ omega (arith, most, least)
    ]
  ]

  one_stand : {k n : ℕ} {st other : Standing} → Stop k st → Stop n other → st ≡ other
  one_stand {k} {n} {st} {other} one two =
      let both : ◌≡◌ {A = Option Standing} (Some st) (Some other) = sym one.stands ∙ ap (λ (c : ℕ). stands_after answers first (take c points)) (one_count one two) ∙ two.stands in
      cc both

  one_thing : {thing other : Thing} → AsksInVain answers first points thing → AsksInVain answers first points other → thing ≡ other
  one_thing one two =
      let both : ◌≡◌ {A = Option Question} (Some one.question) (Some two.question) = sym one.asks ∙ ap question_of (one_stand (gone_stop one) (gone_stop two)) ∙ two.asks in
      let same : one.question ≡ two.question = cc both in
      one.its ∙ ap thing_of same ∙ sym two.its

  asks_or_over : {thing : Thing} → AsksInVain answers first points thing → EndsEarly answers first points → ⊥
  asks_or_over one two =
      let both : ◌≡◌ {A = Option Question} (Some one.question) None = sym one.asks ∙ ap question_of (one_stand (gone_stop one) (early_stop two)) ∙ two.over in
      cc both

  stops_or_asks : {k : ℕ} {st : Standing} → Stop k st → StillAsks answers first points → ⊥
  stops_or_asks {k} one two = never_both (stands_after answers first points) two.stand (nothing_after answers first points (k + 1) one.next) two.stands

  pub one_walk_fault : (one other : PointFault) → IsWalkFault answers first points one → IsWalkFault answers first points other → one ≡ other
  one_walk_fault faults.Floor other a b = absurd a
  one_walk_fault faults.Early other a b = absurd a
  one_walk_fault faults.Late other a b = absurd a
  one_walk_fault (faults.Gone thing) faults.Floor a b = absurd b
  one_walk_fault (faults.Gone thing) faults.Early a b = absurd b
  one_walk_fault (faults.Gone thing) faults.Late a b = absurd b
  one_walk_fault (faults.Gone thing) (faults.Gone else) a b = ap (λ (t : Thing). faults.Gone t) (one_thing a.1 b.1)
  one_walk_fault (faults.Gone thing) faults.Falling a b = absurd (a.0 b)
  one_walk_fault (faults.Gone thing) faults.TooMany a b = absurd (asks_or_over a.1 b.1)
  one_walk_fault (faults.Gone thing) faults.TooFew a b = absurd (stops_or_asks (gone_stop a.1) b.1)
  one_walk_fault faults.Falling faults.Floor a b = absurd b
  one_walk_fault faults.Falling faults.Early a b = absurd b
  one_walk_fault faults.Falling faults.Late a b = absurd b
  one_walk_fault faults.Falling (faults.Gone else) a b = absurd (b.0 a)
  one_walk_fault faults.Falling faults.Falling a b = refl
  one_walk_fault faults.Falling faults.TooMany a b = absurd (b.0 a)
  one_walk_fault faults.Falling faults.TooFew a b = absurd (b.0 a)
  one_walk_fault faults.TooMany faults.Floor a b = absurd b
  one_walk_fault faults.TooMany faults.Early a b = absurd b
  one_walk_fault faults.TooMany faults.Late a b = absurd b
  one_walk_fault faults.TooMany (faults.Gone else) a b = absurd (asks_or_over b.1 a.1)
  one_walk_fault faults.TooMany faults.Falling a b = absurd (a.0 b)
  one_walk_fault faults.TooMany faults.TooMany a b = refl
  one_walk_fault faults.TooMany faults.TooFew a b = absurd (stops_or_asks (early_stop a.1) b.1)
  one_walk_fault faults.TooFew faults.Floor a b = absurd b
  one_walk_fault faults.TooFew faults.Early a b = absurd b
  one_walk_fault faults.TooFew faults.Late a b = absurd b
  one_walk_fault faults.TooFew (faults.Gone else) a b = absurd (stops_or_asks (gone_stop b.1) a.1)
  one_walk_fault faults.TooFew faults.Falling a b = absurd (a.0 b)
  one_walk_fault faults.TooFew faults.TooMany a b = absurd (stops_or_asks (early_stop b.1) a.1)
  one_walk_fault faults.TooFew faults.TooFew a b = refl

pub one_fault : (answers : Answering) (hook : Hook) (bytes : List ℕ) (bounds : Bounds) (points : List ℕ) (one other : PointFault) → IsFault answers hook bytes bounds points one → IsFault answers hook bytes bounds points other → one ≡ other
one_fault answers hook bytes bounds points one other (inl a) (inl b) = (let both : ◌≡◌ {A = Option PointFault} (Some one) (Some other) = sym a ∙ b in cc both)
one_fault answers hook bytes bounds points one other (inl a) (inr b) = (let both : ◌≡◌ {A = Option PointFault} (Some one) None = sym a ∙ b.0 in absurd (cc both))
one_fault answers hook bytes bounds points one other (inr a) (inl b) = (let both : ◌≡◌ {A = Option PointFault} None (Some other) = sym a.0 ∙ b in absurd (cc both))
one_fault answers hook bytes bounds points one other (inr a) (inr b) = one_walk_fault answers (begun hook bytes) points one other a.1 b.1

-- and no walk
pub fault_or_walk : (answers : Answering) (hook : Hook) (bytes : List ℕ) (bounds : Bounds) (points : List ℕ) (fault : PointFault) (end : Standing) → IsFault answers hook bytes bounds points fault → IsWalkAt answers hook bytes bounds points end → ⊥
fault_or_walk answers hook bytes bounds points fault end (inl out) walk =
    let visits = visits_over answers (begun hook bytes) points in
    let within = lawful_within bounds visits points (points_are answers (begun hook bytes) end points walk.stands) walk.lawful in
    cc (sym out ∙ inside_bounds bounds points within)
fault_or_walk answers hook bytes bounds points faults.Floor end (inr it) walk = it.1
fault_or_walk answers hook bytes bounds points faults.Early end (inr it) walk = it.1
fault_or_walk answers hook bytes bounds points faults.Late end (inr it) walk = it.1
fault_or_walk answers hook bytes bounds points (faults.Gone thing) end (inr it) walk =
    cc (sym (nothing_after answers (begun hook bytes) points (it.1.1.count + 1) (gone_stop answers (begun hook bytes) points it.1.1).next) ∙ walk.stands)
fault_or_walk answers hook bytes bounds points faults.Falling end (inr it) walk = never_both_fall (visits_over answers (begun hook bytes) points) it.1 walk.lawful.never_fall
fault_or_walk answers hook bytes bounds points faults.TooMany end (inr it) walk =
    cc (sym (nothing_after answers (begun hook bytes) points (it.1.1.count + 1) (early_stop answers (begun hook bytes) points it.1.1).next) ∙ walk.stands)
fault_or_walk answers hook bytes bounds points faults.TooFew end (inr it) walk =
    let both : ◌≡◌ {A = Option Standing} (Some it.1.1.stand) (Some end) = sym it.1.1.stands ∙ walk.stands in
    let same : it.1.1.stand ≡ end = cc both in
    cc (sym it.1.1.asks ∙ ap question_of same ∙ walk.over)
