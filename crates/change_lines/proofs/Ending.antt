-- Both files have come to their ends.
use Rattle.std.proofs.Common.{◌≡◌, ◌∙◌, ℕ, zero, suc, ◌+◌, ◌≤◌, Bool, false, List, [], ◌∷◌, ◌++◌, length, refl, sym, ap, subst, arith}
use Rattle.std.proofs.lemmas.List.{length-append}
use Rattle.tc_base.specs.declared.hook.Hook.{Hook}
use Rattle.edit_lines.specs.declared.line.LinePlace.{LinePlace}
use Rattle.filter_state.specs.declared.edit.Edit.{Edit}
use Rattle.filter_state.specs.States.{no_state}
use Rattle.filter_state.specs.Journals.{state_from}
use Rattle.batch_run.specs.Commands.{Command}
use Rattle.walk_texts.specs.Texts.{joined}
use Rattle.journal_replay.specs.Passed.{Event}
use Rattle.journal_replay.specs.Passed.{event_lines}
use Rattle.journal_replay.specs.Passed.{GivenBatch}
use Rattle.journal_replay.specs.Passed.{IsThrough, AreInOrder, AreResults, events_of}
use Rattle.journal_replay.proofs.Passed.{come_over}
use Rattle.journal_replay.specs.declared.replay.Replay.{Replay}
use Rattle.journal_replay.specs.Placed.{places_of}
use Rattle.change_points.specs.Heads.{KnowsHeads}
use Rattle.change_fate_laws.specs.Changes.{given_by, Changed, IsChanged, journal_of, first_point, last_point}
use Rattle.change_lines.specs.declared.applied.AppliedChange.{AppliedChange}
use Rattle.change_lines.specs.declared.opening.Opened.{Opened}
use Rattle.change_lines.specs.Lines.{refused_in, places_in, stops_at}
use Rattle.change_lines.specs.Reached.{IsReached, IsOpened, IsApplied}
use Rattle.change_lines.proofs.Counts.{places_counted}
use Rattle.change_lines.proofs.Reaching.{counted, has_room}

pub in_order : (force : Bool) (all : List Command) (first now : Replay) (events : List Event) → IsReached force all [] first now events → AreInOrder (given_by force all) events
in_order force all first now events at batch (zero, is) =
    let through : IsThrough force all (events_of 1 events) = subst (IsThrough force all) (sym at.own) (come_over force all events at.come) in
    let same : record { control = 1; force = force; commands = all } ≡ batch = cc is in
    subst (λ (b : GivenBatch). IsThrough b.force b.commands (events_of b.control events)) same through
in_order force all first now events at batch (suc place, is) = absurd (cc is)

-- there is room for the change behind the batch
pub opened_room : (batch change : List Command) (opened : Opened) (opening : List Event) → IsOpened batch opened opening → length batch + length change ≤ 262144
    → (length opened.replay.journal.items + length change ≤ 262144) × (opened.replay.refused + length change ≤ 262144)
opened_room batch change opened opening is few =
    let room = has_room false batch [] is.first opened.replay opening is.reached in
    let none = ap length is.fresh.journal in
    let zero_refused = is.fresh.refused in
    let a = room.journal in
    let b = room.refused in
    (omega (arith, few, none, a), omega (arith, few, zero_refused, b))

module _ (batch change : List Command) (force : Bool) (hook : Hook) (opened : Opened) (opening : List Event) (is : IsOpened batch opened opening) (later : AppliedChange) (events : List Event)
    (at : IsReached force change [] opened.replay later.replay events) where
  abbrev before : List Edit
  before = is.reached.edits

  before_is : opened.replay.journal.items ≡ before
  before_is = is.reached.journal_is ∙ ap (λ (es : List Edit). es ++ before) is.fresh.journal

  abbrev pub it : Changed
  it = record { opening = opening; before = before; events = events; edits = at.edits }

  pub is_changed : IsChanged batch change force it
  is_changed = record {
    opened = in_order false batch is.first opened.replay opening is.reached;
    opens = subst (λ (es : List Edit). AreResults (given_by false batch) (state_from no_state es) opening before) is.fresh.journal is.reached.results;
    order = in_order force change opened.replay later.replay events at;
    results = subst (λ (es : List Edit). AreResults (given_by force change) (state_from no_state es) events at.edits) before_is at.results;
  }

  journal : later.replay.journal.items ≡ journal_of it
  journal = at.journal_is ∙ ap (λ (es : List Edit). es ++ at.edits) before_is

  placed : later.replay.places.items ≡ places_in it
  placed =
      at.placed
      ∙ ap (λ (ps : List LinePlace). ps ++ places_of events) (is.reached.placed ∙ ap (λ (ps : List LinePlace). ps ++ places_of opening) is.fresh.places)

  each : length later.replay.places.items ≡ length later.replay.journal.items
  each =
      let none = ap length is.fresh.places in
      let empty = ap length is.fresh.journal in
      let one = ap length is.reached.placed ∙ length-append is.first.places.items (places_of opening) in
      let two = ap length at.placed ∙ length-append opened.replay.places.items (places_of events) in
      let ones = places_counted opening in
      let twos = places_counted events in
      let first = counted false batch [] is.first opened.replay opening is.reached in
      let second = counted force change [] opened.replay later.replay events at in
      omega (arith, none, empty, one, two, ones, twos, first, second)

  refused : later.replay.refused ≡ refused_in it
  refused = let a = at.refused in let b = is.reached.refused in let c = is.fresh.refused in omega (arith, a, b, c)

  pub record HasBoth : Type 0 where
    pub few : last_point it ≤ 262144
    pub few_refused : refused_in it ≤ 262144

  has_both : length batch + length change ≤ 262144 → HasBoth
  has_both few =
      let first = has_room false batch [] is.first opened.replay opening is.reached in
      let second = has_room force change [] opened.replay later.replay events at in
      let none = ap length is.fresh.journal in
      let zero_refused = is.fresh.refused in
      let one = first.journal in
      let two = second.journal in
      let ones = first.refused in
      let twos = second.refused in
      let whole = ap length journal in
      let counts = refused in
      record {
        few = omega (arith, few, none, one, two, whole);
        few_refused = omega (arith, few, zero_refused, ones, twos, counts);
      }

  -- what is told of the heads, of the batch's stop and of the lines
  pub record Keeps : Type 0 where
    pub before : later.before ≡ length opened.replay.journal.items
    pub knows : KnowsHeads later.heads later.replay.journal.items
    pub hook_is : later.hook ≡ hook
    pub at_hook : later.heads.hook ≡ hook
    pub since : later.heads.before ≡ later.before
    pub stop : later.stop.items ≡ opened.stop.items
    pub lines : later.lines.items ≡ joined (event_lines (length opened.replay.journal.items) events)

  pub is_applied : length batch + length change ≤ 262144 → Keeps → IsApplied hook later it
  is_applied few keeps =
      let both = has_both few in
      let count : length opened.replay.journal.items ≡ length before = ap length before_is in
      record {
        kept = at.kept;
        journal_is = journal;
        placed = placed;
        each = each;
        few = both.few;
        few_refused = both.few_refused;
        refused = refused;
        before = keeps.before ∙ count;
        knows = subst (KnowsHeads later.heads) journal keeps.knows;
        hook_is = keeps.hook_is;
        at_hook = keeps.at_hook;
        since = keeps.since ∙ keeps.before ∙ count;
        stop = keeps.stop ∙ is.stop ∙ ap (λ (n : ℕ). joined (stops_at n opening)) count;
        lines = keeps.lines ∙ ap (λ (n : ℕ). joined (event_lines n events)) count;
      }
