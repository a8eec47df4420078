-- Before which lines of a report nothing is told, by their first bytes.
use Rattle.std.proofs.Common.{◌≡◌, ℕ, ◌+◌, ◌==◌, true, false, List, [], ◌∷◌, ◌++◌, refl, ap, ◌⊎◌, inl, inr}
use Rattle.std.specs.Prelude.{◌||◌, codes, take, map}
use Rattle.std.specs.List.{enumerate_from}
use Rattle.batch_run.specs.declared.made_action.MadeAction.{MadeAction}
use Rattle.walk_ends.specs.declared.counts.Count.{Count}
use Rattle.walk_texts.specs.declared.summary.Summary.{Summary}
use Rattle.walk_texts.specs.Texts.{counted, action_text, counter_line, edits_text, summary_line}
use Rattle.run_report.specs.declared.events.Event.{Event}
use Rattle.run_report.specs.declared.counters.CounterLine.{CounterLine}
use Rattle.run_report.specs.declared.outcomes.Outcome.{Outcome}
use Rattle.run_report.specs.Counts.{accepted_count}
use Rattle.run_report.specs.EventTexts.{event_line, kind_line, event_lines}
use Rattle.run_report.specs.PacketTexts.{packet_line}
use Rattle.run_report.specs.Reports.{numbered_line, counter_lines}
use Rattle.report_check.proofs.Passed.{kind_head, packet_head, end_head}
use Rattle.report_trace.specs.Writing.{is_plain, ArePlain}

plain_of : (line : List ℕ) (a b : ℕ) → take 2 line ≡ a ∷ b ∷ [] → is_plain line ≡ (a == 114 || a == 101)
plain_of [] a b is = absurd (cc is)
plain_of (x ∷ line) a b is = let same : x ≡ a = cc is in ap (λ (n : ℕ). n == 114 || n == 101) same

-- ---- a round's own lines
pub round_plain : (number : ℕ) → is_plain (numbered_line (codes "round ") number) ≡ true
unfolding numbered_line counted
round_plain number = refl

pub end_plain : (number : ℕ) → is_plain (numbered_line (codes "end round ") number) ≡ true
end_plain number = plain_of (numbered_line (codes "end round ") number) 101 110 (end_head number)

pub event_plain : (before : ℕ) (event : Event) → is_plain (event_line before event) ≡ true
event_plain before event = either (kind_head before event.control event.line event.kind)
  where
    line : List ℕ
    line = kind_line before event.control event.line event.kind

    either : (take 2 line ≡ codes "ed") ⊎ (take 2 line ≡ codes "re") → is_plain line ≡ true
    either (inl is) = plain_of line 101 100 is
    either (inr is) = plain_of line 114 101 is

each_mapped : {X : Type 0} (f : X → List ℕ) (xs : List X) → ((x : X) → is_plain (f x) ≡ true) → ArePlain (map f xs)
each_mapped f [] all = tt
each_mapped f (x ∷ xs) all = (all x, each_mapped f xs all)

pub events_plain : (before : ℕ) (events : List Event) → ArePlain (event_lines before events)
events_plain before events = each_mapped (λ (placed : ℕ × Event). event_line (before + accepted_count (take placed.0 events)) placed.1) (enumerate_from 0 events) (λ placed. event_plain (before + accepted_count (take placed.0 events)) placed.1)

-- ---- others
pub packet_told : (number : ℕ) (outcome : Outcome) → is_plain (packet_line number outcome) ≡ false
packet_told number outcome = plain_of (packet_line number outcome) 112 97 (packet_head number outcome)

counter_told : (made : MadeAction) (count : Count) → is_plain (counter_line made count) ≡ false
unfolding action_text counted
counter_told made count = refl

summary_told : (summary : Summary) → is_plain (summary_line summary) ≡ false
unfolding edits_text counted
summary_told summary = refl

-- behind the rounds the first line isn't plain
pub record BeginsTold (lines : List (List ℕ)) : Type 0 where
  pub line : List ℕ
  pub more : List (List ℕ)
  pub lines_are : lines ≡ line ∷ more
  pub told : is_plain line ≡ false

pub closing_told : (counters : List CounterLine) (summary : Summary) (more : List (List ℕ)) → BeginsTold (counter_lines counters ++ (summary_line summary ∷ more))
closing_told [] summary more = record { line = summary_line summary; more = more; lines_are = refl; told = summary_told summary }
closing_told (c ∷ counters) summary more = record {
  line = counter_line (record { serial = c.serial; kind = c.kind; index = c.index }) (record { packets = c.packets; bytes = c.bytes });
  more = counter_lines counters ++ (summary_line summary ∷ more);
  lines_are = refl;
  told = counter_told (record { serial = c.serial; kind = c.kind; index = c.index }) (record { packets = c.packets; bytes = c.bytes });
}
