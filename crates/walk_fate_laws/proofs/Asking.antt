-- A walk with its visits and answers told one by one.
use Rattle.std.proofs.Common.{◌≡◌, ◌∙◌, ℕ, zero, suc, List, [], ◌∷◌, ◌++◌, slice_get, Option}
use Rattle.std.proofs.Common.{Some, None, refl, sym, ap, subst, append_assoc, append-nil}
use Rattle.filter_state.specs.States.{State}
use Rattle.walk_rules.specs.Questions.{Question, Answer}
use Rattle.walk_rules.specs.Steps.{Standing, question_of, after}
use Rattle.walk_rules.specs.Walks.{Outcome, IsWalk, outcome_of}
use Rattle.walk_rules.specs.OfPoints.Points.{Visit, IsVisited}
use Rattle.walk_rules.proofs.Agreeing.{asks_or_ended}
use Rattle.point_walks.specs.Over.{Answering}
use Rattle.walk_fate_laws.specs.Games.{IsWalkFrom, raised}
use Rattle.walk_fate_laws.specs.Points.{AreBounded}
use Rattle.walk_fate_laws.specs.Walks.{answers_over, walk_game}
use Rattle.walk_fate_laws.proofs.Lawful.{all_asked}
use Rattle.walk_fate_laws.proofs.Underway.{IsUnderway, goes_on, IsNoHead, no_head, ends_so}

-- from there these visits, with these answers, and the end
abbrev pub IsAsking : Answering → Standing → List ℕ → List Visit → List Answer → Standing → Type 0
IsAsking answers st [] visits told end =
    (question_of st ≡ None) × (visits ≡ []) × (told ≡ []) × (end ≡ st)
IsAsking answers st (point ∷ points) visits told end =
    (question : Question) × (answer : Answer) × (rest : List Visit) × (more : List Answer)
    × (question_of st ≡ Some question) × (answers point question ≡ Some answer)
    × (visits ≡ record { question = question; point = point } ∷ rest) × (told ≡ answer ∷ more)
    × IsAsking answers (after st answer) points rest more end

-- ---- as the rules of the walk have it
pub asks_no_more : (st : Standing) (outcome : Outcome) → outcome_of st ≡ Some outcome → question_of st ≡ None
asks_no_more st outcome ends = by_question (question_of st) refl
  where
    by_question : (o : Option Question) → question_of st ≡ o → o ≡ None
    by_question None is = refl
    by_question (Some question) is = absurd (asks_or_ended st question outcome is ends)

pub record IsAsked (states : ℕ → State) (earlier now : List Visit) (st : Standing) (points : List ℕ)
    (outcome : Outcome) : Type 0 where
  pub visits : List Visit
  pub told : List Answer
  pub end : Standing
  pub behind : now ≡ earlier ++ visits
  pub asking : IsAsking (answers_over states) st points visits told end
  pub ends : outcome_of end ≡ Some outcome

pub asking_of : (states : ℕ → State) (earlier now : List Visit) (st : Standing) (points : List ℕ)
    (outcome : Outcome) → IsWalk (IsVisited states) earlier st points now outcome
    → IsAsked states earlier now st points outcome
asking_of states earlier now st [] outcome walk = record {
  visits = [];
  told = [];
  end = st;
  behind = walk.0 ∙ sym (append-nil earlier);
  asking = (asks_no_more st outcome walk.1, refl, refl, refl);
  ends = walk.1;
}
asking_of states earlier now st (point ∷ points) outcome walk =
    let visit : Visit = record { question = walk.0; point = point } in
    let rest = asking_of states walk.2 now (after st walk.1) points outcome walk.5 in
    record {
      visits = record { question = walk.0; point = point } ∷ rest.visits;
      told = walk.1 ∷ rest.told;
      end = rest.end;
      behind = rest.behind ∙ ap (λ (vs : List Visit). vs ++ rest.visits) walk.4.1
          ∙ append_assoc earlier (visit ∷ []) rest.visits;
      asking = (walk.0, walk.1, rest.visits, rest.told, walk.3, walk.4.0, refl, refl, rest.asking);
      ends = rest.ends;
    }

pub walk_of : (states : ℕ → State) (earlier : List Visit) (st end : Standing) (points : List ℕ)
    (visits : List Visit) (told : List Answer) (outcome : Outcome)
    → IsAsking (answers_over states) st points visits told end → outcome_of end ≡ Some outcome
    → IsWalk (IsVisited states) earlier st points (earlier ++ visits) outcome
walk_of states earlier st end [] visits told outcome asking ends = (
  ap (λ (vs : List Visit). earlier ++ vs) asking.1 ∙ append-nil earlier,
  ap outcome_of (sym asking.3) ∙ ends,
)
walk_of states earlier st end (point ∷ points) visits told outcome asking ends =
    let visit : Visit = record { question = asking.0; point = point } in
    let between : List Visit = earlier ++ (visit ∷ []) in
    let whole : earlier ++ visits ≡ (earlier ++ (visit ∷ [])) ++ asking.2 =
    ap (λ (vs : List Visit). earlier ++ vs) asking.6 ∙ sym (append_assoc earlier (visit ∷ []) asking.2) in
    let rest = walk_of states between (after st asking.1) end points asking.2 asking.3 outcome asking.8
    ends in (
      asking.0,
      asking.1,
      between,
      asking.4,
      (asking.5, refl),
      subst (λ (vs : List Visit). IsWalk (IsVisited states) between (after st asking.1) points vs outcome)
          (sym whole) rest,
    )

-- ---- as the game has it
module _ (answers : Answering) (ceiling : ℕ) where
  pub game_of : (low : Question → ℕ) (st end : Standing) (points : List ℕ) (visits : List Visit)
      (told : List Answer) → IsAsking answers st points visits told end
      → AreBounded (walk_game answers) ceiling low (all_asked visits)
      → IsWalkFrom (walk_game answers) ceiling st low points told end
  game_of low st end [] visits told asking bounded = (asking.0, asking.2, asking.3)
  game_of low st end (point ∷ points) visits told asking bounded =
      let first : AreBounded (walk_game answers) ceiling low
      (record { question = asking.0; point = point } ∷ all_asked asking.2) =
      subst (λ (vs : List Visit). AreBounded (walk_game answers) ceiling low (all_asked vs)) asking.6
      bounded in (
        asking.0,
        asking.1,
        asking.3,
        asking.4,
        first.0,
        first.1,
        asking.5,
        asking.7,
        game_of (raised (walk_game answers) low asking.0 point)
            (after st asking.1) end points asking.2 asking.3
            asking.8 first.2,
      )

  pub record IsBoundedly (low : Question → ℕ) (st end : Standing) (points : List ℕ)
      (told : List Answer) : Type 0 where
    pub visits : List Visit
    pub asking : IsAsking answers st points visits told end
    pub bounded : AreBounded (walk_game answers) ceiling low (all_asked visits)

  pub of_game : (low : Question → ℕ) (st end : Standing) (points : List ℕ) (told : List Answer)
      → IsWalkFrom (walk_game answers) ceiling st low points told end → IsBoundedly low st end points told
  of_game low st end [] told walk =
      record { visits = []; asking = (walk.0, refl, walk.1, walk.2); bounded = tt }
  of_game low st end (point ∷ points) told walk =
      let rest = of_game (raised (walk_game answers) low walk.0 point)
      (after st walk.1) end points walk.2 walk.8 in
      record {
        visits = record { question = walk.0; point = point } ∷ rest.visits;
        asking = (walk.0, walk.1, rest.visits, walk.2, walk.3, walk.6, refl, walk.7, rest.asking);
        bounded = (walk.4, walk.5, rest.bounded);
      }

-- ---- behind the head
pub no_heads : (answers : Answering) (st end : Standing) (points : List ℕ) (visits : List Visit)
    (told : List Answer) → IsUnderway st → IsAsking answers st points visits told end
    → (place : ℕ) (visit : Visit) → slice_get visits place ≡ Some visit → IsNoHead visit.question
no_heads answers st end [] visits told underway asking place visit is =
    let none : slice_get [] place ≡ Some visit =
    subst (λ (vs : List Visit). slice_get vs place ≡ Some visit) asking.1 is in absurd (cc none)
no_heads answers st end (point ∷ points) visits told underway asking place visit is =
    at place (subst (λ (vs : List Visit). slice_get vs place ≡ Some visit) asking.6 is)
    (λ later. no_heads answers (after st asking.1) end points asking.2 asking.3
    (goes_on st asking.0 asking.1 underway asking.4) asking.8 later visit)
  where
    at : (n : ℕ) → slice_get (record { question = asking.0; point = point } ∷ asking.2) n ≡ Some visit
        → ((later : ℕ) → slice_get asking.2 later ≡ Some visit → IsNoHead visit.question)
        → IsNoHead visit.question
    at zero here rest =
        let same : record { question = asking.0; point = point } ≡ visit = cc here in
        subst (λ (v : Visit). IsNoHead v.question) same (no_head st asking.0 underway asking.4)
    at (suc later) there rest = rest later there

pub has_end : (answers : Answering) (st end : Standing) (points : List ℕ) (visits : List Visit)
    (told : List Answer) → IsUnderway st → IsAsking answers st points visits told end
    → (outcome : Outcome) × (outcome_of end ≡ Some outcome)
has_end answers st end [] visits told underway asking =
    subst (λ (s : Standing). (outcome : Outcome) × (outcome_of s ≡ Some outcome)) (sym asking.3)
    (ends_so st underway asking.0)
has_end answers st end (point ∷ points) visits told underway asking =
    has_end answers (after st asking.1) end points asking.2 asking.3
    (goes_on st asking.0 asking.1 underway asking.4) asking.8
