-- What was told of a walk and what is left of it are the whole.
use Rattle.std.proofs.Common.{◌≡◌, ◌∙◌, ℕ, ◌+◌, ◌-◌, ◌<◌, List, [], ◌∷◌, ◌++◌, Option, Some, None, refl, sym, ap, subst}
use Rattle.std.proofs.lemmas.Grind.{flat_map-append}
use Rattle.std.proofs.lemmas.List.{append_assoc, append-nil}
use Rattle.tc_base.specs.declared.hook.Hook.{Hook}
use Rattle.walk_rules.specs.declared.limits.TheConstants.{VISITS_MAX}
use Rattle.walk_rules.specs.Questions.{Question, Answer}
use Rattle.walk_rules.specs.Steps.{Standing, begun, question_of, after}
use Rattle.walk_rules.proofs.Agreeing.{one_more}
use Rattle.point_walks.specs.Over.{Answering, answered_at}
use Rattle.trace_lines.specs.declared.told.Told.{Told}
use Rattle.trace_lines.specs.Names.{Names}
use Rattle.trace_lines.specs.Steps.{Step, steps_of}
use Rattle.trace_lines.specs.Lines.{joined, Seen, seen_after, lines_before, visit_lines, walk_lines, decided_at, decided_in, listed}
use Rattle.walk_trace.specs.Traces.{stands_behind}
use Rattle.walk_trace.proofs.Steps.{no_step, next_step}

-- ---- of no steps, and of one more
no_lines : (told : Told) (names : Names) (seen : Seen) → walk_lines told names seen [] ≡ []
unfolding walk_lines
no_lines told names seen = refl

none_decided : (names : Names) → decided_in names [] ≡ []
unfolding decided_in
none_decided names = refl

more_decided : (names : Names) (step : Step) (steps : List Step) (edit : Option ℕ) → edit ≡ decided_at names step.point step.before step.before.place step.answer
    → decided_in names (step ∷ steps) ≡ listed edit ++ decided_in names steps
unfolding decided_in
more_decided names step steps edit decides = ap (λ (o : Option ℕ). listed o ++ decided_in names steps) (sym decides)

more_lines : (told : Told) (names : Names) (seen : Seen) (step : Step) (steps : List Step) (page : List ℕ)
    → page ++ joined (walk_lines told names seen (step ∷ steps))
    ≡ ((page ++ joined (lines_before told seen step.before)) ++ joined (visit_lines told names step)) ++ joined (walk_lines told names (seen_after seen step.before step.before.place) steps)
unfolding walk_lines
more_lines told names seen step steps page =
    let before = lines_before told seen step.before in
    let visit = visit_lines told names step in
    let rest = walk_lines told names (seen_after seen step.before step.before.place) steps in
    ap (λ (ls : List ℕ). page ++ ls) (flat_map-append (λ (line : List ℕ). line) (before ++ visit) rest ∙ ap (λ (ls : List ℕ). ls ++ joined rest) (flat_map-append (λ (line : List ℕ). line) before visit))
    ∙ sym (append_assoc page (joined before ++ joined visit) (joined rest))
    ∙ ap (λ (ls : List ℕ). ls ++ joined rest) (sym (append_assoc page (joined before) (joined visit)))

-- what is left of a walk
abbrev pub rest_of : Answering → (ℕ → ℕ) → ℕ → Standing → List Step
rest_of answers points visits st = steps_of answers points (VISITS_MAX - visits) st

pub record IsLeft (answers : Answering) (points : ℕ → ℕ) (told : Told) (names : Names) (text edits : List ℕ) (end : Standing)
    (st : Standing) (visits : ℕ) (seen : Seen) (page decided : List ℕ) : Type 0 where
  pub count : st.visits ≡ visits
  pub lines : page ++ joined (walk_lines told names seen (rest_of answers points visits st)) ≡ text
  pub decides : decided ++ decided_in names (rest_of answers points visits st) ≡ edits
  pub ends : stands_behind st (rest_of answers points visits st) ≡ end

-- ---- at the beginning all is left
pub all_left : (answers : Answering) (points : ℕ → ℕ) (told : Told) (names : Names) (hook : Hook) (bytes : List ℕ) (st : Standing) (seen : Seen) (page decided : List ℕ) → st ≡ begun hook bytes → seen ≡ None
    → IsLeft answers points told names (page ++ joined (walk_lines told names None (steps_of answers points VISITS_MAX (begun hook bytes))))
    (decided ++ decided_in names (steps_of answers points VISITS_MAX (begun hook bytes))) (stands_behind (begun hook bytes) (steps_of answers points VISITS_MAX (begun hook bytes)))
    st 0 seen page decided
all_left answers points told names hook bytes st seen page decided begins first = record {
  count = ap (λ (s : Standing). s.visits) begins;
  lines = ap (λ (s : Standing). page ++ joined (walk_lines told names seen (steps_of answers points VISITS_MAX s))) begins
      ∙ ap (λ (n : Seen). page ++ joined (walk_lines told names n (steps_of answers points VISITS_MAX (begun hook bytes)))) first;
  decides = ap (λ (s : Standing). decided ++ decided_in names (steps_of answers points VISITS_MAX s)) begins;
  ends = ap (λ (s : Standing). stands_behind s (steps_of answers points VISITS_MAX s)) begins;
}

-- ---- a visit more
one_listed : (decided later one all rest whole : List ℕ) → later ≡ decided ++ one → all ≡ one ++ rest → decided ++ all ≡ whole → later ++ rest ≡ whole
one_listed decided later one all rest whole more parts is =
    ap (λ (es : List ℕ). es ++ rest) more ∙ append_assoc decided one rest ∙ ap (λ (es : List ℕ). decided ++ es) (sym parts) ∙ is

pub one_told : (answers : Answering) (points : ℕ → ℕ) (told : Told) (names : Names) (text edits : List ℕ) (end st now : Standing) (visits point : ℕ) (seen next : Seen) (page between after_it decided later : List ℕ)
    (question : Question) (answer : Answer) (edit : Option ℕ) → IsLeft answers points told names text edits end st visits seen page decided → visits < VISITS_MAX → point ≡ points visits
    → question_of st ≡ Some question → answers point question ≡ Some answer → now ≡ after st answer
    → between ≡ page ++ joined (lines_before told seen st) → next ≡ seen_after seen st st.place
    → after_it ≡ between ++ joined (visit_lines told names (record { before = st; answer = answer; point = point })) → edit ≡ decided_at names point st st.place answer
    → later ≡ decided ++ listed edit
    → IsLeft answers points told names text edits end now (visits + 1) next after_it later
one_told answers points told names text edits end st now visits point seen next page between after_it decided later question answer edit left less at asks is goes before sees visit decides grown =
    let step : Step = record { before = st; answer = answer; point = point } in
    let steps : List Step = rest_of answers points (visits + 1) (after st answer) in
    let first = next_step answers points visits st point question answer left.count less at asks is in
    subst (λ (s : Standing). IsLeft answers points told names text edits end s (visits + 1) next after_it later) (sym goes) (record {
      count = one_more st answer ∙ ap (λ (n : ℕ). n + 1) left.count;
      lines = ap (λ (p : List ℕ). p ++ joined (walk_lines told names next steps)) visit
          ∙ ap (λ (p : List ℕ). (p ++ joined (visit_lines told names step)) ++ joined (walk_lines told names next steps)) before
          ∙ ap (λ (n : Seen). ((page ++ joined (lines_before told seen st)) ++ joined (visit_lines told names step)) ++ joined (walk_lines told names n steps)) sees
          ∙ sym (more_lines told names seen step steps page)
          ∙ ap (λ (ss : List Step). page ++ joined (walk_lines told names seen ss)) (sym first)
          ∙ left.lines;
      decides = one_listed decided later (listed edit) (decided_in names (rest_of answers points visits st)) (decided_in names steps) edits grown
          (ap (decided_in names) first ∙ more_decided names step steps edit decides) left.decides;
      ends = ap (stands_behind st) (sym first) ∙ left.ends;
    })

-- ---- at the end nothing is
pub record IsAllTold (text edits : List ℕ) (end st : Standing) (page decided : List ℕ) : Type 0 where
  pub lines : page ≡ text
  pub decides : decided ≡ edits
  pub ends : st ≡ end

pub all_told : (answers : Answering) (points : ℕ → ℕ) (told : Told) (names : Names) (text edits : List ℕ) (end st : Standing) (visits point : ℕ) (seen : Seen) (page decided : List ℕ)
    → IsLeft answers points told names text edits end st visits seen page decided → point ≡ points visits → answered_at answers point (question_of st) ≡ None → IsAllTold text edits end st page decided
all_told answers points told names text edits end st visits point seen page decided left at none =
    let unanswered : answered_at answers (points st.visits) (question_of st) ≡ None =
    ap (λ (p : ℕ). answered_at answers p (question_of st)) (ap points left.count ∙ sym at) ∙ none in
    let nothing = no_step answers points (VISITS_MAX - visits) st unanswered in
    record {
      lines = sym (append-nil page) ∙ ap (λ (ls : List (List ℕ)). page ++ joined ls) (sym (no_lines told names seen))
          ∙ ap (λ (ss : List Step). page ++ joined (walk_lines told names seen ss)) (sym nothing) ∙ left.lines;
      decides = sym (append-nil decided) ∙ ap (λ (es : List ℕ). decided ++ es) (sym (none_decided names))
          ∙ ap (λ (ss : List Step). decided ++ decided_in names ss) (sym nothing) ∙ left.decides;
      ends = ap (stands_behind st) (sym nothing) ∙ left.ends;
    }
