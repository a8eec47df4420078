-- The lawful points of a walk are those within the bounds of its game.
use Rattle.std.proofs.Common.{◌≡◌, ◌∙◌, ℕ, zero, suc, ◌<◌, ◌≤◌, ◌==◌, true, List, [], ◌∷◌, map}
use Rattle.std.proofs.Common.{slice_get, Some, inl, inr, refl, sym, ap, subst, arith}
use Rattle.std.specs.Option.{option_map}
use Rattle.std.proofs.lemmas.Bool.{cases_lt}
use Rattle.std.proofs.lemmas.Bool.Decides.{nat_tests}
use Rattle.std.proofs.lemmas.Option.{slice_get-map}
use Rattle.tc_base.specs.declared.hook.Hook.{Hook}
use Rattle.walk_rules.specs.Questions.{Question, heads_of, filter_of, params_of}
use Rattle.walk_rules.specs.OfPoints.Points.{Visit, IsSameThing, AreLawfulPoints}
use Rattle.point_walks.specs.Over.{Answering}
use Rattle.walk_fate_laws.specs.Points.{Asked, AreLawful}
use Rattle.walk_fate_laws.specs.Walks.{touches, walk_game}
use Rattle.walk_fate_laws.proofs.Underway.{IsNoHead}

-- ---- which questions bound each other
equal : (a b : ℕ) → a ≡ b → (a == b) ≡ true
equal a b is = grind (arith, nat_tests, is)

one_number : (a b : ℕ) → (a == b) ≡ true → a ≡ b
one_number a b is = grind (arith, nat_tests, is)

touch_same : (q r : Question) → IsSameThing q r → touches q r ≡ true
touch_same (heads_of hook) r same = refl
touch_same (filter_of table mask values) (filter_of other more words) same = equal mask more same
touch_same (params_of serial) (params_of other) same = equal serial other same
touch_same q r same = absurd same

same_touch : (q r : Question) → IsNoHead q → touches q r ≡ true → IsSameThing q r
same_touch (heads_of hook) r behind is = absurd behind
same_touch (filter_of table mask values) (filter_of other more words) behind is = one_number mask more is
same_touch (params_of serial) (params_of other) behind is = one_number serial other is
same_touch q r behind is = absurd (cc is)

-- ---- visits of a walk as those of a game
abbrev pub asked : Visit → Asked Question
asked visit = record { question = visit.question; point = visit.point }

abbrev pub all_asked : List Visit → List (Asked Question)
all_asked visits = map asked visits

asked_at : (visits : List Visit) (place : ℕ) (visit : Visit) → slice_get visits place ≡ Some visit
    → slice_get (all_asked visits) place ≡ Some (asked visit)
asked_at visits place visit is = slice_get-map asked visits place ∙ ap (option_map asked) is

pub record IsAskedAt (visits : List Visit) (place : ℕ) (it : Asked Question) : Type 0 where
  pub visit : Visit
  pub there : slice_get visits place ≡ Some visit
  pub same : it ≡ asked visit

visit_at : (visits : List Visit) (place : ℕ) (it : Asked Question)
    → slice_get (all_asked visits) place ≡ Some it
    → IsAskedAt visits place it
visit_at [] place it is = absurd (cc is)
visit_at (v ∷ visits) zero it is =
    let same : asked v ≡ it = cc is in record { visit = v; there = refl; same = sym same }
visit_at (v ∷ visits) (suc place) it is =
    let rest = visit_at visits place it is in
    record { visit = rest.visit; there = rest.there; same = rest.same }

up_to_itself : (one other : ℕ) → one ≡ other → one ≤ other
up_to_itself one other is = omega (arith, is)

module _ (answers : Answering) (before ceiling : ℕ) where
  abbrev pub LawfulGame : List Visit → Type 0
  LawfulGame visits = AreLawful (walk_game answers) ceiling (λ question. before) (all_asked visits)

  -- ---- from the game
  pub lawful_points : (hook : Hook) (first : Visit) (visits : List Visit) → first.question ≡ heads_of hook
      → LawfulGame (first ∷ visits) → AreLawfulPoints before ceiling (first ∷ visits)
  lawful_points hook first visits head lawful = record {
    head = λ other is. lawful.above 0 (asked other) (asked_at (first ∷ visits) 0 other is);
    above_head = λ place other visit is there. above place other visit is there;
    below = λ place visit is. lawful.below place (asked visit) (asked_at (first ∷ visits) place visit is);
    never_fall = λ early late one other order is there same. never early late one other order is there same;
  }
    where
      touches_all : (visit : Visit) → touches first.question visit.question ≡ true
      touches_all visit = ap (λ (q : Question). touches q visit.question) head

      above : (place : ℕ) (other visit : Visit) → slice_get (first ∷ visits) 0 ≡ Some other
          → slice_get (first ∷ visits) place ≡ Some visit → other.point ≤ visit.point
      above zero other visit is there =
          let same : other ≡ visit = cc (is, there) in
          up_to_itself other.point visit.point (ap (λ (v : Visit). v.point) same)
      above (suc place) other visit is there =
          let same : first ≡ other = cc is in
          subst (λ (v : Visit). v.point ≤ visit.point) same
          (lawful.never_fall 0 (suc place) (asked first) (asked visit) (omega arith) refl
          (asked_at (first ∷ visits) (suc place) visit there) (touches_all visit))

      never : (early late : ℕ) (one other : Visit) → early ≤ late
          → slice_get (first ∷ visits) early ≡ Some one
          → slice_get (first ∷ visits) late ≡ Some other → IsSameThing one.question other.question
          → one.point ≤ other.point
      never early late one other order is there same = elim (cases_lt early late) [
        | inl less ↦ lawful.never_fall early late (asked one) (asked other) less
            (asked_at (first ∷ visits) early one is) (asked_at (first ∷ visits) late other there)
            (touch_same one.question other.question same)
        | inr not_less ↦ (let at : early ≡ late = omega (arith, order, not_less) in
            let here : slice_get (first ∷ visits) late ≡ Some one =
            subst (λ (n : ℕ). slice_get (first ∷ visits) n ≡ Some one) at is in
            let both : one ≡ other = cc (here, there) in
            up_to_itself one.point other.point (ap (λ (v : Visit). v.point) both))
      ]

  -- ---- to the game
  pub game_points : (first : Visit) (visits : List Visit)
      → ((place : ℕ) (visit : Visit) → slice_get visits place ≡ Some visit → IsNoHead visit.question)
      → AreLawfulPoints before ceiling (first ∷ visits) → LawfulGame (first ∷ visits)
  game_points first visits no_heads lawful = record {
    above = λ place it is. above it (visit_at (first ∷ visits) place it is);
    below = λ place it is. below it (visit_at (first ∷ visits) place it is);
    never_fall = λ early late one other order is there same. never early late one other order
        (visit_at (first ∷ visits) early one is) (visit_at (first ∷ visits) late other there) same;
  }
    where
      trans : (a b c : ℕ) → a ≤ b → b ≤ c → a ≤ c
      trans a b c one two = omega (arith, one, two)

      above : {place : ℕ} (it : Asked Question) → IsAskedAt (first ∷ visits) place it → before ≤ it.point
      above {place} it at =
          subst (λ (u : Asked Question). before ≤ u.point) (sym at.same)
          (trans before first.point at.visit.point (lawful.head first refl)
          (lawful.above_head place first at.visit refl at.there))

      below : {place : ℕ} (it : Asked Question) → IsAskedAt (first ∷ visits) place it → it.point ≤ ceiling
      below {place} it at =
          subst (λ (u : Asked Question). u.point ≤ ceiling) (sym at.same)
          (lawful.below place at.visit at.there)

      never_between : (early late : ℕ) (one other : Visit) → early < late
          → slice_get (first ∷ visits) early ≡ Some one → slice_get (first ∷ visits) late ≡ Some other
          → touches one.question other.question ≡ true → one.point ≤ other.point
      never_between zero late one other order is there same =
          lawful.above_head late one other is there
      never_between (suc early) late one other order is there same =
          lawful.never_fall (suc early) late one other (omega (arith, order)) is there
          (same_touch one.question other.question (no_heads early one is) same)

      never : (early late : ℕ) (one other : Asked Question) → early < late
          → IsAskedAt (first ∷ visits) early one → IsAskedAt (first ∷ visits) late other
          → touches one.question other.question ≡ true → one.point ≤ other.point
      never early late one other order first_at second same =
          subst (λ (u : Asked Question). u.point ≤ other.point) (sym first_at.same)
          (subst (λ (u : Asked Question). first_at.visit.point ≤ u.point) (sym second.same)
          (never_between early late first_at.visit second.visit order first_at.there second.there
          (ap (λ (u : Asked Question). touches u.question second.visit.question) (sym first_at.same)
          ∙ ap (λ (u : Asked Question). touches one.question u.question) (sym second.same) ∙ same)))
