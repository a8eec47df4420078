-- A walk whose visits are all made at one point, and where it goes otherwise.
use Rattle.std.proofs.Common.{◌≡◌, ◌∙◌, ℕ, zero, suc, ◌≤◌, List, [], ◌∷◌, inl, inr}
use Rattle.std.proofs.Common.{Option, Some, None, refl, sym, ap, subst, arith}
use Rattle.std.specs.Option.{option_and_then, option_map}
use Rattle.std.proofs.lemmas.Option.{same_Some}
use Rattle.tc_base.specs.declared.hook.Hook.{Hook}
use Rattle.walk_rules.specs.declared.limits.TheConstants.{VISITS_MAX}
use Rattle.walk_rules.specs.Questions.{Question, Answer}
use Rattle.walk_rules.specs.Steps.{Standing, begun, after}
use Rattle.walk_rules.specs.Walks.{Outcome, IsWalk, outcome_of}
use Rattle.point_walks.specs.Over.{Answering}
use Rattle.slot_pasts.specs.Next.{IsBefore}
use Rattle.state_past.specs.NextChange.{IsNextChange}
use Rattle.walk_fate_laws.specs.Fates.{Fate, fate_of}
use Rattle.walk_fate_laws.specs.Stays.{stays_from, stay_of, fate_at_end, fate_there, IsAnsweredAt}
use Rattle.walk_fate_laws.proofs.Asking.{asks_no_more}
use Rattle.walk_fate_laws.proofs.Staying.{none_left, one_more, goes_to, none_more}
use Rattle.fate_times.specs.declared.staying.Staying.{Staying}
use Rattle.fate_times.specs.Staying.{sooner, IsVisitAt}

-- ---- the sooner of two
before_one : (later : ℕ) (one other : Option ℕ) → IsBefore later (sooner one other) → IsBefore later one
before_one later None other is = tt
before_one later (Some one) None is = is
before_one later (Some one) (Some other) is = omega (arith, is)

before_other : (later : ℕ) (one other : Option ℕ) → IsBefore later (sooner one other) → IsBefore later other
before_other later None other is = is
before_other later (Some one) None is = tt
before_other later (Some one) (Some other) is = omega (arith, is)

before_both : (later : ℕ) (one other : Option ℕ) → IsBefore later one → IsBefore later other
    → IsBefore later (sooner one other)
before_both later None other first second = second
before_both later (Some one) None first second = first
before_both later (Some one) (Some other) first second = omega (arith, first, second)

change_behind : {A : Type 0} (at : ℕ → A) (point : ℕ) (change : Option ℕ) → IsNextChange at point change
    → IsBefore point change
change_behind at point None is = tt
change_behind at point (Some later) is = is.other.0

-- ---- whoever answers so
module _ {V : Type 0} (answers : Answering) (point : ℕ) (told : V → Question → Answer → ℕ → V → Type 0)
    (Holds : V → Type 0) (next_of : V → Option ℕ)
    (visits_so : (before now : V) (question : Question) (answer : Answer) (p : ℕ) → Holds before
    → told before question answer p now
    → IsVisitAt answers question answer point (next_of before) (next_of now) × Holds now) where
  record IsLed (before now : V) (visits : ℕ) (st end : Standing) (outcome : Outcome) : Type 0 where
    pub same : (later : ℕ) → point ≤ later → IsBefore later (next_of now)
        → stays_from answers later visits st ≡ Some end
    pub earlier : (later : ℕ) → IsBefore later (next_of now) → IsBefore later (next_of before)
    pub ahead : IsBefore point (next_of before) → IsBefore point (next_of now)
    pub ends : outcome_of end ≡ Some outcome

  led : (points : List ℕ) (before now : V) (visits : ℕ) (st end : Standing) (outcome : Outcome) → Holds before
      → IsWalk told before st points now outcome → stays_from answers point visits st ≡ Some end
      → IsLed before now visits st end outcome
  led [] before now visits st end outcome holds walk stays =
      let asks = asks_no_more st outcome walk.1 in
      let same : st ≡ end = same_Some st end (sym (none_left answers point visits st asks) ∙ stays) in
      record {
        same = λ later least is. none_left answers later visits st asks ∙ ap (λ (s : Standing). Some s) same;
        earlier = λ later is. subst (λ (v : V). IsBefore later (next_of v)) walk.0 is;
        ahead = λ is. subst (λ (v : V). IsBefore point (next_of v)) (sym walk.0) is;
        ends = subst (λ (s : Standing). outcome_of s ≡ Some outcome) same walk.1;
      }
  led (p ∷ ps) before now zero st end outcome holds walk stays =
      absurd (cc (none_more answers point st walk.0 walk.3, stays))
  led (p ∷ ps) before now (suc visits) st end outcome holds walk stays =
      let step = visits_so before walk.2 walk.0 walk.1 p holds walk.4 in
      elim step.0.is [
        | inl is ↦ (let rest = led ps walk.2 now visits (after st walk.1) end outcome step.1 walk.5
            (sym (goes_to answers point visits st walk.0 walk.1 walk.3 is) ∙ stays) in
            goes_on step.0 is rest)
        | inr none ↦ absurd (cc (
          one_more answers point visits st walk.0 walk.3
              ∙ ap (option_and_then (λ answer. stays_from answers point visits (after st answer))) none,
          stays,
        ))
      ]
    where
      goes_on : IsVisitAt answers walk.0 walk.1 point (next_of before) (next_of walk.2)
          → answers point walk.0 ≡ Some walk.1 → IsLed walk.2 now visits (after st walk.1) end outcome
          → IsLed before now (suc visits) st end outcome
      goes_on visit is rest = record {
        same = λ later least early. goes_to answers later visits st walk.0 walk.1 walk.3
            (visit.changes.steady later least (before_other later (next_of before) visit.change
            (subst (λ (next : Option ℕ). IsBefore later next) visit.goes (rest.earlier later early))) ∙ is)
            ∙ rest.same later least early;
        earlier = λ later early. before_one later (next_of before) visit.change
            (subst (λ (next : Option ℕ). IsBefore later next) visit.goes (rest.earlier later early));
        ahead = λ early. rest.ahead (subst (λ (next : Option ℕ). IsBefore point next) (sym visit.goes)
            (before_both point (next_of before) visit.change early
            (change_behind (λ at. answers at walk.0) point visit.change visit.changes)));
        ends = rest.ends;
      }

  pub record HasStayed (now : V) (hook : Hook) (bytes : List ℕ) (final : Standing) : Type 0 where
    pub fate : (later : ℕ) → point ≤ later → IsBefore later (next_of now)
        → fate_there answers hook bytes later ≡ fate_at_end final
    pub behind : IsBefore point (next_of now)

  ended_at : (hook : Hook) (bytes : List ℕ) (fate : Fate) (o : Option Standing)
      → stay_of answers hook bytes point ≡ o → fate_there answers hook bytes point ≡ Some fate
      → (end : Standing) × (stay_of answers hook bytes point ≡ Some end)
  ended_at hook bytes fate None none is = absurd (cc (ap (option_and_then fate_at_end) none, is))
  ended_at hook bytes fate (Some end) stay is = (end, stay)

  pub stayed : (first now : V) (hook : Hook) (bytes points : List ℕ) (outcome : Outcome) (final : Standing)
      → Holds first → IsBefore point (next_of first) → IsWalk told first (begun hook bytes) points now outcome
      → outcome_of final ≡ Some outcome → IsAnsweredAt answers hook bytes point
      → HasStayed now hook bytes final
  stayed first now hook bytes points outcome final holds early walk ends answered =
      let end = ended_at hook bytes answered.0 (stay_of answers hook bytes point) refl answered.1 in
      let it = led points first now VISITS_MAX (begun hook bytes) end.0 outcome holds walk end.1 in
      record {
        fate = λ later least is. ap (option_and_then fate_at_end) (it.same later least is)
            ∙ ap (option_map fate_of) (it.ends ∙ sym ends);
        behind = it.ahead early;
      }

-- ---- the program's
abbrev pub ToldStaying : {A : Type 0} → (A → Answering) → Staying A → Question → Answer → ℕ → Staying A
    → Type 0
ToldStaying answers_of old question answer point new =
    (answers_of new.answers.now ≡ answers_of old.answers.now) × (new.point ≡ old.point)
    × IsVisitAt (answers_of old.answers.now) question answer old.point old.next new.next

module _ {A : Type 0} (answers_of : A → Answering) (answers : Answering) (point : ℕ) where
  abbrev IsItself : Staying A → Type 0
  IsItself staying = (answers_of staying.answers.now ≡ answers) × (staying.point ≡ point)

  abbrev next_of : Staying A → Option ℕ
  next_of staying = staying.next

  visits_so : (before now : Staying A) (question : Question) (answer : Answer) (p : ℕ) → IsItself before
      → ToldStaying answers_of before question answer p now
      → IsVisitAt answers question answer point (next_of before) (next_of now) × IsItself now
  visits_so before now question answer p holds told = (
    subst (λ (at : ℕ). IsVisitAt answers question answer at before.next now.next) holds.1
        (subst (λ (who : Answering). IsVisitAt who question answer before.point before.next now.next) holds.0
        told.2),
    (told.0 ∙ holds.0, told.1 ∙ holds.1),
  )

  pub has_stayed : (first now : Staying A) (hook : Hook) (bytes points : List ℕ) (outcome : Outcome)
      (st final : Standing) → answers_of first.answers.now ≡ answers → first.point ≡ point
      → first.next ≡ None → st ≡ begun hook bytes
      → IsWalk (ToldStaying answers_of) first st points now outcome → outcome_of final ≡ Some outcome
      → IsAnsweredAt answers hook bytes point
      → ((later : ℕ) → point ≤ later → IsBefore later now.next
      → fate_there answers hook bytes later ≡ fate_at_end final) × IsBefore point now.next
  has_stayed first now hook bytes points outcome st final who where_it none begins walk ends answered =
      let it = stayed answers point (ToldStaying answers_of) IsItself next_of visits_so first now hook bytes
      points outcome final (who, where_it)
      (subst (λ (next : Option ℕ). IsBefore point next) (sym none) tt)
      (subst (λ (s : Standing). IsWalk (ToldStaying answers_of) first s points now outcome) begins walk) ends
      answered in (it.fate, it.behind)

-- nothing is asked of any of them
abbrev pub AreAny : {X : Type 0} → List X → Type 0
AreAny [] = Unit {0}
AreAny (x ∷ xs) = Unit {0} × AreAny xs

pub are_any : {X : Type 0} (xs : List X) → AreAny xs
are_any [] = tt
are_any (x ∷ xs) = (tt, are_any xs)
