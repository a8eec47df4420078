-- A turn of a control, from the round before it to the round behind it.
use Rattle.std.proofs.Common.{◌≡◌, ◌∙◌, ℕ, ◌+◌, ◌≤◌, ◌<◌, Bool, List, [], ◌∷◌, ◌++◌, length, Option, refl, sym, ap, subst}
use Rattle.std.specs.Prelude.{◌||◌}
use Rattle.tc_base.specs.declared.ear.EventName.{EventName}
use Rattle.tc_words.specs.Lines.{words_of}
use Rattle.filter_state.specs.declared.edit.Edit.{Edit}
use Rattle.round_terms.specs.MadeAction.{MadeAction}
use Rattle.round_terms.specs.Event.{Event}
use Rattle.round_terms.specs.EventKind.{EventKind}
use Rattle.round_terms.specs.Counts.{is_accepted}
use Rattle.round_terms.specs.LoadedJob.{LoadedJob}
use Rattle.round_terms.specs.Given.{IsLoaded}
use Rattle.round_terms.specs.Files.{files_of, commands_in_all}
use Rattle.round_terms.specs.Coming.{IsThroughAll}
use Rattle.round_terms.specs.Hearing.{EarView, HasHeard, HeardIf}
use Rattle.round_terms.specs.Underway.{IsUnderway, made_behind, IsMet}
use Rattle.round_terms.specs.Turns.{IsLineFor, HasNoLine, AreWithin, moved_on}
use Rattle.round_terms.proofs.JobFiles.{are_files}
use Rattle.round_terms.proofs.Standing.{IsGoing, line_not_through, line_has_room, line_has_spare, line_turned, is_told, all_within, no_line_through}
use Rattle.shared_hook.specs.Views.{DeskView, journal}
use Rattle.job_rounds.specs.declared.round_state.turned.Turned.{Turned}
use Rattle.job_rounds.specs.declared.round_state.turned.Turned.TheVariants as turns
use Rattle.job_rounds.specs.OfRoundState.Rounds.{StoreName, IsDeskOf, Underway, IsRoundOf}
use Rattle.job_rounds.specs.OfRoundState.Turns.{IsNotMet, IsOneMore, IsTurned}
use Rattle.round_terms.proofs.Making.{made_further}

same_files : (job other : LoadedJob) (round number : ℕ) → job ≡ other → round ≡ number → files_of job round ≡ files_of other number
same_files job other round number same also = ap (λ (j : LoadedJob). files_of j round) same ∙ ap (files_of other) also

-- ---- before the turn: the state, and how the call names its job and round
pub record IsCalled {E : Type 0} (name : E → ℕ) (heard : E → Option (List EventName)) (spare : E → ℕ) (store : StoreName) (job : LoadedJob) (number : ℕ) (before : List Edit) (first : EarView)
    (given : LoadedJob) (round : ℕ) (old : Underway E) : Type 0 where
  pub is : IsRoundOf name heard spare store job number before first old
  pub job_is : given ≡ job
  pub loaded : IsLoaded given
  pub round_is : round ≡ number

-- the control's next line
pub record IsCalledAt {E : Type 0} (name : E → ℕ) (heard : E → Option (List EventName)) (spare : E → ℕ) (store : StoreName) (job : LoadedJob) (number : ℕ) (before : List Edit) (first : EarView)
    (given : LoadedJob) (round control : ℕ) (old : Underway E) (text : List ℕ) (line next : ℕ) (force : Bool) : Type 0 where
  pub called : IsCalled name heard spare store job number before first given round old
  pub own_line : IsLineFor (files_of job number) old.places control text line next force

module _ {E : Type 0} {name : E → ℕ} {heard : E → Option (List EventName)} {spare : E → ℕ} {store : StoreName} {job : LoadedJob} {number : ℕ} {before : List Edit} {first : EarView} {given : LoadedJob} {round : ℕ} {old : Underway E} where
  pub called : IsRoundOf name heard spare store job number before first old → given ≡ job → IsLoaded given → round ≡ number → IsCalled name heard spare store job number before first given round old
  called is job_is loaded round_is = record { is = is; job_is = job_is; loaded = loaded; round_is = round_is }

  going : IsCalled name heard spare store job number before first given round old → IsGoing (files_of job number) job.job.controls before (journal old.desk) old.events old.places
  going it = record { under = it.is.under; named = are_files job number (subst IsLoaded it.job_is it.loaded) }

  same_batches : IsCalled name heard spare store job number before first given round old → files_of given round ≡ files_of job number
  same_batches it = same_files given job round number it.job_is it.round_is

  pub within : IsCalled name heard spare store job number before first given round old → AreWithin (files_of given round) old.places
  within it = subst (λ files. AreWithin files old.places) (sym (same_batches it)) (all_within it.is.under)

  pub none_left : IsCalled name heard spare store job number before first given round old → (control : ℕ) → HasNoLine (files_of given round) old.places control → IsThroughAll (files_of job number) control old.events
  none_left it control none = no_line_through it.is.under control (subst (λ files. HasNoLine files old.places control) (same_batches it) none)

  pub called_at : IsCalled name heard spare store job number before first given round old → (control : ℕ) (text : List ℕ) (line next : ℕ) (force : Bool) → IsLineFor (files_of given round) old.places control text line next force
      → IsCalledAt name heard spare store job number before first given round control old text line next force
  called_at it control text line next force own_line = record {
    called = it;
    own_line = subst (λ files. IsLineFor files old.places control text line next force) (same_batches it) own_line;
  }

  module _ {control : ℕ} {text : List ℕ} {line next : ℕ} {force : Bool} where
    pub not_through : IsCalledAt name heard spare store job number before first given round control old text line next force → IsThroughAll (files_of job number) control old.events → ⊥
    not_through it through = line_not_through (going it.called) control text line next force it.own_line through

    pub has_room : IsCalledAt name heard spare store job number before first given round control old text line next force → length before + commands_in_all (files_of job number) ≤ 262144 → length (journal old.desk) < 262144
    has_room it few = line_has_room (going it.called) control text line next force it.own_line few

    pub has_spare : IsCalledAt name heard spare store job number before first given round control old text line next force → commands_in_all (files_of job number) ≤ first.spare → 1 ≤ spare old.ear
    has_spare it enough = line_has_spare name heard spare first old.ear number (going it.called) control text line next force it.own_line enough it.called.is.hears

    -- ---- a line that isn't met
    left_over : IsCalledAt name heard spare store job number before first given round control old text line next force → (desk : DeskView) (turned : Turned) → IsNotMet old.desk desk (words_of text) turned → journal desk ≡ journal old.desk
        → IsTurned name heard spare (files_of job number) number control old (record old { desk = desk }) turned
    left_over it desk turns.Applied none same = absurd none
    left_over it desk turns.Over none same = absurd none
    left_over it desk (turns.Held pool reader pin needed free) held same = record { text = text; line = line; next = next; force = force; own_line = it.own_line; not_met = held; journal_is = same; rest = refl }
    left_over it desk (turns.NoMemory memory) none same = record { text = text; line = line; next = next; force = force; own_line = it.own_line; not_met = none; journal_is = same; rest = refl }

    pub left_still : IsCalledAt name heard spare store job number before first given round control old text line next force → (desk : DeskView) (events : List Event) (made : List MadeAction) (turned : Turned)
        → IsNotMet old.desk desk (words_of text) turned → journal desk ≡ journal old.desk → events ≡ old.events → made ≡ old.made
        → IsTurned name heard spare (files_of job number) number control old (record { desk = desk; events = events; made = made; places = old.places; ear = old.ear }) turned
    left_still it desk events made turned not_met same no_event no_name =
        subst (λ (es : List Event). IsTurned name heard spare (files_of job number) number control old (record { desk = desk; events = es; made = made; places = old.places; ear = old.ear }) turned) (sym no_event)
        (subst (λ (names : List MadeAction). IsTurned name heard spare (files_of job number) number control old (record { desk = desk; events = old.events; made = names; places = old.places; ear = old.ear }) turned) (sym no_name)
        (left_over it desk turned not_met same))

    -- ---- a line that is met
    pub further : IsCalledAt name heard spare store job number before first given round control old text line next force → (desk : DeskView) (kind : EventKind) (goes : Bool) (count : ℕ) (events : List Event) (made : List MadeAction) (ear : E) → IsDeskOf store desk
        → events ≡ old.events ++ record { control = control; line = line; kind = kind } ∷ [] → IsMet (journal old.desk) (journal desk) (words_of text) kind → goes ≡ (force || is_accepted kind) → made ≡ old.made ++ made_behind (journal old.desk) (journal desk) → count ≡ length (journal desk)
        → HeardIf (is_accepted kind) name heard spare old.ear ear (record { number = count; round = round; control = control; line = line })
        → IsRoundOf name heard spare store job number before first (record {
          desk = desk;
          events = events;
          made = made;
          places = moved_on old.places control line next goes;
          ear = ear;
        })
    further it desk kind goes count events made ear own grown met on names count_is told =
        let is = it.called.is in
        record {
          desk = own;
          under = subst (λ (es : List Event). IsUnderway (files_of job number) job.job.controls before (journal desk) es (moved_on old.places control line next goes)) (sym grown)
              (line_turned (going it.called) control text line next force it.own_line (journal desk) kind goes met on);
          made = made_further before is.under.edits met.1 (journal old.desk) (journal desk) old.made made is.under.journal_is met.3 is.made names;
          hears = subst (HasHeard name heard spare first ear number (length before)) (sym grown)
              (is_told name heard spare first old.ear ear number round (going it.called) (journal desk) (words_of text) control line count kind met count_is it.called.round_is is.hears told);
        }

    pub one_more : IsCalledAt name heard spare store job number before first given round control old text line next force → (desk : DeskView) (kind : EventKind) (goes : Bool) (count : ℕ) (events : List Event) (made : List MadeAction) (ear : E)
        → events ≡ old.events ++ record { control = control; line = line; kind = kind } ∷ [] → IsMet (journal old.desk) (journal desk) (words_of text) kind → goes ≡ (force || is_accepted kind) → made ≡ old.made ++ made_behind (journal old.desk) (journal desk) → count ≡ length (journal desk)
        → HeardIf (is_accepted kind) name heard spare old.ear ear (record { number = count; round = round; control = control; line = line })
        → IsOneMore name heard spare (files_of job number) number control old (record {
          desk = desk;
          events = events;
          made = made;
          places = moved_on old.places control line next goes;
          ear = ear;
        })
    one_more it desk kind goes count events made ear grown met on names count_is told = record {
      text = text;
      line = line;
      next = next;
      force = force;
      kind = kind;
      own_line = it.own_line;
      met = met;
      events = grown;
      places = ap (moved_on old.places control line next) on;
      made = names;
      told = subst (λ (n : ℕ). HeardIf (is_accepted kind) name heard spare old.ear ear (record { number = n; round = number; control = control; line = line })) count_is
          (subst (λ (n : ℕ). HeardIf (is_accepted kind) name heard spare old.ear ear (record { number = count; round = n; control = control; line = line })) it.called.round_is told);
    }
