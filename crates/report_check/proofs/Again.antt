-- A packet is walked again.
use Rattle.std.proofs.Common.{◌≡◌, ◌∙◌, ℕ, zero, suc, ◌+◌, ◌<◌, ◌≤◌, Bool, true, false, List, [], ◌∷◌, length, take, get_or, Option, Some, None, refl, sym, ap, subst, arith, inl, inr}
use Rattle.std.specs.Prelude.{◌||◌, nat_lt, if◌then◌else◌}
use Rattle.std.specs.List.{list_any}
use Rattle.std.specs.Option.{option_and_then}
use Rattle.std.proofs.lemmas.Bool.Decides.{nat_tests}
use Rattle.tc_base.specs.declared.hook.Hook.{Hook}
use Rattle.filter_state.specs.declared.edit.Edit.{Edit}
use Rattle.filter_state.specs.Journals.{state_at}
use Rattle.hook_lists.specs.declared.kept.Kept.{Kept}
use Rattle.hook_lists.specs.States.{AreKept}
use Rattle.filter_lists.specs.Spells.{Spells}
use Rattle.walk_rules.specs.Questions.{Answer, heads_of}
use Rattle.walk_rules.specs.Steps.{Standing, begun, question_of}
use Rattle.walk_rules.specs.OfPoints.Points.{Visit, AreLawfulPoints}
use Rattle.point_walks.specs.declared.bounds.Bounds.{Bounds}
use Rattle.point_walks.specs.declared.at_points.Thing.{Thing}
use Rattle.point_walks.specs.declared.fault.PointFault.{PointFault}
use Rattle.point_walks.specs.declared.fault.PointFault.TheVariants as faults
use Rattle.point_walks.specs.Faults.{AsksInVain, EndsEarly, Falls, IsFault, IsSteady, IsWalkFault, StillAsks}
use Rattle.point_walks.specs.Over.{Answering, answered_at, moved_by, one_visit, stands_after}
use Rattle.point_walks.specs.Visits.{IsWalkAt, visits_over}
use Rattle.point_walks.proofs.Moves.{stands_more}
use Rattle.point_walks.proofs.OneFault.{gone_stop}
use Rattle.classify_walk.proofs.StillHeads.{heads_answered}
use Rattle.state_past.specs.OfJournals.Answered.{Answerer, answer_by}
use Rattle.report_laws.specs.OfNextLines.Walks.{answers_of, AgreesFrom}
use Rattle.report_laws.proofs.OfNextLines.HeadOnce.{same_walk, same_visits}
use Rattle.tool_words.specs.declared.reason.Reason.TheVariants as reasons
use Rattle.report_check.specs.Walks.{WalksTo, FaultsBy}

-- ---- the answers are the journal's
agrees : (journal : List Edit) (lists : Kept) (first : ℕ) (hook : Hook) → AreKept lists → Spells lists (state_at first journal) → AgreesFrom (answer_by (record { journal = journal; lists = lists })) journal hook first
agrees journal lists first hook kept spells = record {
  head = sym (heads_answered lists hook (state_at first journal) kept spells);
  filters = λ point table mask values. refl;
  params = λ point serial. refl;
}

-- with lists at the first point
pub record StandAt (journal : List Edit) (lists : Kept) (first : ℕ) : Type 0 where
  pub kept : AreKept lists
  pub spells : Spells lists (state_at first journal)

pub walks_over : (journal : List Edit) (lists : Kept) (hook : Hook) (frame : List ℕ) (bounds : Bounds) (first : ℕ) (more : List ℕ) (end : Standing) → StandAt journal lists first
    → IsWalkAt (answer_by (record { journal = journal; lists = lists })) hook frame bounds (first ∷ more) end → IsWalkAt (answers_of journal) hook frame bounds (first ∷ more) end
walks_over journal lists hook frame bounds first more end at it =
    let answers : Answering = answer_by (record { journal = journal; lists = lists }) in
    let same = agrees journal lists first hook at.kept at.spells in
    record {
      stands = sym (same_walk answers journal hook first same frame more) ∙ it.stands;
      over = it.over;
      lawful = subst (AreLawfulPoints bounds.floor bounds.ceiling) (same_visits answers journal hook first same frame more) it.lawful;
    }

pub walks_back : (journal : List Edit) (lists : Kept) (hook : Hook) (frame : List ℕ) (bounds : Bounds) (first : ℕ) (more : List ℕ) (end : Standing) → StandAt journal lists first
    → IsWalkAt (answers_of journal) hook frame bounds (first ∷ more) end → IsWalkAt (answer_by (record { journal = journal; lists = lists })) hook frame bounds (first ∷ more) end
walks_back journal lists hook frame bounds first more end at it =
    let answers : Answering = answer_by (record { journal = journal; lists = lists }) in
    let same = agrees journal lists first hook at.kept at.spells in
    record {
      stands = same_walk answers journal hook first same frame more ∙ it.stands;
      over = it.over;
      lawful = subst (AreLawfulPoints bounds.floor bounds.ceiling) (sym (same_visits answers journal hook first same frame more)) it.lawful;
    }

-- ---- the first point
pub first_within : (journal : List Edit) (hook : Hook) (frame : List ℕ) (bounds : Bounds) (first : ℕ) (more : List ℕ) (end : Standing) → IsWalkAt (answers_of journal) hook frame bounds (first ∷ more) end
    → (bounds.floor ≤ first) × (first ≤ bounds.ceiling)
first_within journal hook frame bounds first more end it =
    let visit : Visit = record { question = heads_of hook; point = first } in
    (it.lawful.head visit refl, it.lawful.below 0 visit refl)

-- ---- a walk at points that begin somewhere
pub bounds_met : (journal : List Edit) (hook : Hook) (frame : List ℕ) (floor : ℕ) (points : List ℕ) (end : Standing) → 0 < length points → WalksTo journal hook frame floor points end
    → (floor ≤ get_or points 0 0) × (get_or points 0 0 ≤ length journal)
bounds_met journal hook frame floor [] end some it = absurd (omega (arith, some))
bounds_met journal hook frame floor (first ∷ points) end some it = first_within journal hook frame (record { floor = floor; ceiling = length journal }) first points end it

-- the same walk over a list that equals the journal, at one that equals the points
pub walks_by : (journal other : List Edit) (hook : Hook) (frame : List ℕ) (floor : ℕ) (points others : List ℕ) (end : Standing) → journal ≡ other → points ≡ others → WalksTo journal hook frame floor points end → WalksTo other hook frame floor others end
walks_by journal other hook frame floor points others end one two walks =
    subst (λ (js : List Edit). WalksTo js hook frame floor others end) one (subst (λ (ps : List ℕ). WalksTo journal hook frame floor ps end) two walks)

-- how the answers and the bounds are named in a call
pub record IsCall (journal : List Edit) (lists : Kept) (floor : ℕ) (points : List ℕ) (by : Answerer) (bounds : Bounds) : Type 0 where
  pub by_is : by ≡ record { journal = journal; lists = lists }
  pub floor_is : bounds.floor ≡ floor
  pub ceiling_is : bounds.ceiling ≡ length journal
  pub some : 0 < length points
  pub at_first : StandAt journal lists (get_or points 0 0)

same_bounds : (bounds : Bounds) (floor ceiling : ℕ) → bounds.floor ≡ floor → bounds.ceiling ≡ ceiling → bounds ≡ record { floor = floor; ceiling = ceiling }
same_bounds bounds floor ceiling low high =
    ap (λ (n : ℕ). record { floor = n; ceiling = bounds.ceiling }) low ∙ ap (λ (n : ℕ). record { floor = floor; ceiling = n }) high

pub walk_found : (journal : List Edit) (lists : Kept) (hook : Hook) (frame : List ℕ) (floor : ℕ) (points : List ℕ) (by : Answerer) (bounds : Bounds) (end : Standing) → IsCall journal lists floor points by bounds
    → IsWalkAt (answer_by by) hook frame bounds points end → WalksTo journal hook frame floor points end
walk_found journal lists hook frame floor [] by bounds end call it = absurd (let some = call.some in omega (arith, some))
walk_found journal lists hook frame floor (first ∷ more) by bounds end call it =
    subst (λ (b : Bounds). IsWalkAt (answers_of journal) hook frame b (first ∷ more) end) (same_bounds bounds floor (length journal) call.floor_is call.ceiling_is)
    (walks_over journal lists hook frame bounds first more end call.at_first (subst (λ (a : Answerer). IsWalkAt (answer_by a) hook frame bounds (first ∷ more) end) call.by_is it))

pub walk_asked : (journal : List Edit) (lists : Kept) (hook : Hook) (frame : List ℕ) (floor : ℕ) (points : List ℕ) (by : Answerer) (bounds : Bounds) (end : Standing) → IsCall journal lists floor points by bounds
    → WalksTo journal hook frame floor points end → IsWalkAt (answer_by by) hook frame bounds points end
walk_asked journal lists hook frame floor [] by bounds end call it = absurd (let some = call.some in omega (arith, some))
walk_asked journal lists hook frame floor (first ∷ more) by bounds end call it =
    subst (λ (a : Answerer). IsWalkAt (answer_by a) hook frame bounds (first ∷ more) end) (sym call.by_is)
    (walks_back journal lists hook frame bounds first more end call.at_first
    (subst (λ (b : Bounds). IsWalkAt (answers_of journal) hook frame b (first ∷ more) end) (sym (same_bounds bounds floor (length journal) call.floor_is call.ceiling_is)) it))

-- ---- why there is no walk
none_of_moved : (o : Option Standing) → option_and_then (λ (next : Standing). Some next) o ≡ None → o ≡ None
none_of_moved None is = refl
none_of_moved (Some next) is = absurd (cc is)

none_answered : (st : Standing) (a : Option Answer) → moved_by st a ≡ None → a ≡ None
none_answered st None is = refl
none_answered st (Some answer) is = absurd (cc is)

module _ (journal : List Edit) (lists : Kept) (hook : Hook) (frame : List ℕ) (first : ℕ) (more : List ℕ) (at : StandAt journal lists first) where
  abbrev by_lists : Answering
  by_lists = answer_by (record { journal = journal; lists = lists })

  stands_same : (count : ℕ) → stands_after by_lists (begun hook frame) (take count (first ∷ more)) ≡ stands_after (answers_of journal) (begun hook frame) (take count (first ∷ more))
  stands_same zero = refl
  stands_same (suc count) = same_walk by_lists journal hook first (agrees journal lists first hook at.kept at.spells) frame (take count more)

  visits_same : visits_over by_lists (begun hook frame) (first ∷ more) ≡ visits_over (answers_of journal) (begun hook frame) (first ∷ more)
  visits_same = same_visits by_lists journal hook first (agrees journal lists first hook at.kept at.spells) frame more

  steady_same : IsSteady by_lists (begun hook frame) (first ∷ more) → IsSteady (answers_of journal) (begun hook frame) (first ∷ more)
  steady_same steady falls = steady (subst Falls (sym visits_same) falls)

  gone_same : (thing : Thing) → AsksInVain by_lists (begun hook frame) (first ∷ more) thing → AsksInVain (answers_of journal) (begun hook frame) (first ∷ more) thing
  gone_same thing it =
      let stands : stands_after (answers_of journal) (begun hook frame) (take it.count (first ∷ more)) ≡ Some it.stand = sym (stands_same it.count) ∙ it.stands in
      let next : stands_after (answers_of journal) (begun hook frame) (take (it.count + 1) (first ∷ more)) ≡ None = sym (stands_same (it.count + 1)) ∙ (gone_stop by_lists (begun hook frame) (first ∷ more) it).next in
      let point : ℕ = get_or (first ∷ more) it.count 0 in
      let moved = stands_more (answers_of journal) (begun hook frame) it.stand (first ∷ more) it.count 0 (one_visit (answers_of journal) point it.stand) it.less stands refl in
      let none = none_answered it.stand (answered_at (answers_of journal) point (question_of it.stand)) (none_of_moved (one_visit (answers_of journal) point it.stand) (sym moved ∙ next)) in
      record {
        count = it.count;
        stand = it.stand;
        question = it.question;
        less = it.less;
        stands = stands;
        asks = it.asks;
        its = it.its;
        none = sym (ap (answered_at (answers_of journal) point) it.asks) ∙ none;
      }

  early_same : EndsEarly by_lists (begun hook frame) (first ∷ more) → EndsEarly (answers_of journal) (begun hook frame) (first ∷ more)
  early_same it = record { count = it.count; stand = it.stand; less = it.less; stands = sym (stands_same it.count) ∙ it.stands; over = it.over }

  asks_same : StillAsks by_lists (begun hook frame) (first ∷ more) → StillAsks (answers_of journal) (begun hook frame) (first ∷ more)
  asks_same it = record { stand = it.stand; question = it.question; stands = sym (same_walk by_lists journal hook first (agrees journal lists first hook at.kept at.spells) frame more) ∙ it.stands; asks = it.asks }

  fault_same : (fault : PointFault) → IsWalkFault by_lists (begun hook frame) (first ∷ more) fault → IsWalkFault (answers_of journal) (begun hook frame) (first ∷ more) fault
  fault_same faults.Floor is = is
  fault_same faults.Early is = is
  fault_same faults.Late is = is
  fault_same (faults.Gone thing) is = (steady_same is.0, gone_same thing is.1)
  fault_same faults.Falling is = subst Falls visits_same is
  fault_same faults.TooMany is = (steady_same is.0, early_same is.1)
  fault_same faults.TooFew is = (steady_same is.0, asks_same is.1)

  pub faults_over : (bounds : Bounds) (fault : PointFault) → IsFault by_lists hook frame bounds (first ∷ more) fault → IsFault (answers_of journal) hook frame bounds (first ∷ more) fault
  faults_over bounds fault (inl out) = inl out
  faults_over bounds fault (inr (within, is)) = inr (within, fault_same fault is)

pub fault_found : (journal : List Edit) (lists : Kept) (hook : Hook) (frame : List ℕ) (floor : ℕ) (points : List ℕ) (by : Answerer) (bounds : Bounds) (fault : PointFault) → IsCall journal lists floor points by bounds
    → IsFault (answer_by by) hook frame bounds points fault → IsFault (answers_of journal) hook frame (record { floor = floor; ceiling = length journal }) points fault
fault_found journal lists hook frame floor [] by bounds fault call it = absurd (let some = call.some in omega (arith, some))
fault_found journal lists hook frame floor (first ∷ more) by bounds fault call it =
    subst (λ (b : Bounds). IsFault (answers_of journal) hook frame b (first ∷ more) fault) (same_bounds bounds floor (length journal) call.floor_is call.ceiling_is)
    (faults_over journal lists hook frame first more call.at_first bounds fault (subst (λ (a : Answerer). IsFault (answer_by a) hook frame bounds (first ∷ more) fault) call.by_is it))

-- before any walk
pub no_points : (journal : List Edit) (hook : Hook) (frame : List ℕ) (floor : ℕ) (points : List ℕ) → length points ≤ 0 → FaultsBy journal hook frame floor points reasons.TooFew
no_points journal hook frame floor [] none =
    (faults.TooFew, inr (refl, ((λ falls. cc falls.first), record { stand = begun hook frame; question = heads_of hook; stands = refl; asks = refl })), refl)
no_points journal hook frame floor (point ∷ points) none = absurd (omega (arith, none))

abbrev in_order : Bool → Bool → Bool → Option PointFault
in_order low over under = if low then Some faults.Floor else if over then Some faults.Late else if under then Some faults.Early else None

below_is : (a b : ℕ) → a < b → nat_lt a b ≡ true
below_is a b less = grind (arith, nat_tests, less)

not_below : (a b : ℕ) → b ≤ a → nat_lt a b ≡ false
not_below a b least = grind (arith, nat_tests, least)

pub first_low : (journal : List Edit) (hook : Hook) (frame : List ℕ) (floor : ℕ) (points : List ℕ) → 0 < length points → get_or points 0 0 < floor → FaultsBy journal hook frame floor points reasons.Floor
first_low journal hook frame floor [] some less = absurd (omega (arith, some))
first_low journal hook frame floor (first ∷ more) some less =
    let high : List ℕ → Bool = list_any (λ (point : ℕ). nat_lt (length journal) point) in
    let deep : List ℕ → Bool = list_any (λ (point : ℕ). nat_lt point first) in
    (faults.Floor, inl (ap (λ (b : Bool). in_order b (high (first ∷ more)) (deep (first ∷ more))) (below_is first floor less)), refl)

pub first_high : (journal : List Edit) (hook : Hook) (frame : List ℕ) (floor : ℕ) (points : List ℕ) → 0 < length points → floor ≤ get_or points 0 0 → length journal < get_or points 0 0 → FaultsBy journal hook frame floor points reasons.Late
first_high journal hook frame floor [] some least above = absurd (omega (arith, some))
first_high journal hook frame floor (first ∷ more) some least above =
    let high : List ℕ → Bool = list_any (λ (point : ℕ). nat_lt (length journal) point) in
    let deep : List ℕ → Bool = list_any (λ (point : ℕ). nat_lt point first) in (
      faults.Late,
      inl (ap (λ (b : Bool). in_order b (high (first ∷ more)) (deep (first ∷ more))) (not_below first floor least)
          ∙ ap (λ (b : Bool). in_order false (b || high more) (deep (first ∷ more))) (below_is (length journal) first above)),
      refl,
    )
