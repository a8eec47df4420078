-- The serials of all that a run made are those that it gave, in order.
use Rattle.std.proofs.Common.{◌≡◌, ◌∙◌, ℕ, zero, suc, ◌+◌, ◌<◌, ◌≤◌, List, [], ◌∷◌, ◌++◌, map, Option, Ok, Err, inl, inr, refl, sym, ap, subst, arith}
use Rattle.std.specs.List.{All, range_with_len}
use Rattle.std.proofs.lemmas.List.{map-append}
use Rattle.std.proofs.lemmas.List.Elements.{All-nil, All-cons}
use Rattle.filter_state.specs.States.{State, no_state}
use Rattle.filter_state.specs.Steps.{Stepped, step}
use Rattle.filter_state.specs.Sound.{Each, Sound}
use Rattle.state_laws.proofs.Answers.{SoundAfter}
use Rattle.filter_state.proofs.Pairs.{each_weaker}
use Rattle.state_laws.proofs.Steps.{step_sound}
use Rattle.state_laws.proofs.Whole.{start_sound}
use Rattle.line_range_laws.proofs.Lines.{says}
use Rattle.batch_run.specs.declared.made_action.MadeAction.{MadeAction}
use Rattle.batch_run.specs.declared.stop.Stop.{Stop}
use Rattle.batch_run.specs.Commands.{Command}
use Rattle.batch_run.specs.Made.{made_since}
use Rattle.batch_run.specs.Runs.{SoFar, Ran, one_more, ended, IsAfter, IsRunFrom, IsRun}
use Rattle.batch_run.proofs.NewSerials.{IsNumbered, logged_serials, range_append}
use Rattle.batch_run.proofs.Numbered.{StepsNumbered, step_numbered}

abbrev told : List MadeAction → List ℕ
told log = map (λ (action : MadeAction). action.serial) log

-- a sound state, whose log has each serial that was given
record IsLogged (s : State) (so_far : SoFar) : Type 0 where
  sound : Sound s
  all : told so_far.made ≡ range_with_len 1 s.actions_made

one_logged : (s : State) (so_far : SoFar) (next : State) → IsLogged s so_far → Sound next → IsNumbered s.actions_made next.actions_made next.actions → IsLogged next (one_more so_far s next)
one_logged s so_far next is sound numbered =
    let first : s.actions_made + 1 ≡ 1 + s.actions_made = omega arith in
    record {
      sound = sound;
      all = map-append (λ (action : MadeAction). action.serial) so_far.made (made_since s next)
          ∙ ap (λ (ns : List ℕ). ns ++ told (made_since s next)) is.all
          ∙ ap (λ (ns : List ℕ). range_with_len 1 s.actions_made ++ ns) (logged_serials s.actions_made next.actions ∙ numbered.given ∙ ap (λ (n : ℕ). range_with_len n numbered.many) first)
          ∙ range_append 1 s.actions_made numbered.many
          ∙ ap (range_with_len 1) (sym numbered.count);
    }

abbrev TellsAll : Ran → Type 0
TellsAll ran = told ran.made ≡ range_with_len 1 ran.state.actions_made

at_end : (s : State) (so_far : SoFar) (stop : Option Stop) (ran : Ran) → IsLogged s so_far → ran ≡ ended s so_far stop → TellsAll ran
at_end s so_far stop ran is e = subst TellsAll (sym e) is.all

after_logged : (more : State → SoFar → Type 0) (ran : Ran) → ((next : State) (then : SoFar) → IsLogged next then → more next then → TellsAll ran) → (s : State) (so_far : SoFar) (line : ℕ) (stepped : Stepped)
    → IsLogged s so_far → SoundAfter s stepped → StepsNumbered s stepped → IsAfter more s so_far line stepped ran → TellsAll ran
after_logged more ran goes s so_far line (Ok (next, done)) is sound numbered run = goes next (one_more so_far s next) (one_logged s so_far next is sound numbered) run
after_logged more ran goes s so_far line (Err refusal) is sound numbered run = at_end s so_far _ ran is run

run_logged : (s : State) (so_far : SoFar) (commands : List Command) (ran : Ran) → IsLogged s so_far → IsRunFrom s so_far commands ran → TellsAll ran
run_logged s so_far [] ran is run = at_end s so_far _ ran is run
run_logged s so_far (command ∷ commands) ran is (inl (edit, gives, run)) =
    let line = says command.words edit gives in
    after_logged (λ next then. IsRunFrom next then commands ran) ran (λ next then logged more. run_logged next then commands ran logged more) s so_far command.line (step s edit) is
    (step_sound s edit is.sound line) (step_numbered s edit is.sound line) run
run_logged s so_far (command ∷ commands) ran is (inr (word, bad, run)) = at_end s so_far _ ran is run

pub all_told : (accepted : ℕ) (commands : List Command) (ran : Ran) → IsRun no_state accepted commands ran → map (λ (action : MadeAction). action.serial) ran.made ≡ range_with_len 1 ran.state.actions_made
all_told accepted commands ran run = run_logged no_state (record { accepted = accepted; made = [] }) commands ran (record { sound = start_sound; all = refl }) run

-- ---- so each is in range
range_within : (a n : ℕ) → Each (λ m. (a ≤ m) × (m < a + n)) (range_with_len a n)
range_within a zero = tt
range_within a (suc n) =
    ((omega arith, omega arith), each_weaker (λ m. (a + 1 ≤ m) × (m < a + 1 + n)) (λ m. (a ≤ m) × (m < a + suc n)) (λ m is. (omega (arith, is.0), omega (arith, is.1))) (range_with_len (a + 1) n) (range_within (a + 1) n))

all_from : (P : ℕ → Type 0) (log : List MadeAction) → Each P (told log) → All (λ (action : MadeAction). P action.serial) log
all_from P [] each = All-nil (λ (action : MadeAction). P action.serial)
all_from P (action ∷ log) each = All-cons (λ (action : MadeAction). P action.serial) action log each.0 (all_from P log each.1)

pub all_in_range : (accepted : ℕ) (commands : List Command) (ran : Ran) → IsRun no_state accepted commands ran
    → All (λ (action : MadeAction). (1 ≤ action.serial) × (action.serial ≤ ran.state.actions_made)) ran.made
all_in_range accepted commands ran run =
    let made : ℕ = ran.state.actions_made in
    all_from (λ n. (1 ≤ n) × (n ≤ made)) ran.made
    (subst (λ (ns : List ℕ). Each (λ n. (1 ≤ n) × (n ≤ made)) ns) (sym (all_told accepted commands ran run))
    (each_weaker (λ n. (1 ≤ n) × (n < 1 + made)) (λ n. (1 ≤ n) × (n ≤ made)) (λ n is. (is.0, omega (arith, is.1))) (range_with_len 1 made) (range_within 1 made)))
