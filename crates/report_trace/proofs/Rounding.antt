-- The rounds of a report, one after the other.
use Rattle.std.proofs.Common.{◌≡◌, ◌∙◌, ℕ, ◌+◌, List, [], ◌∷◌, ◌++◌, length, Option, sym, ap, subst, arith, append_assoc, append-nil}
use Rattle.std.specs.Prelude.{codes}
use Rattle.std.proofs.lemmas.List.Concat.{flat_map-append}
use Rattle.filter_state.proofs.Pairs.{each_append}
use Rattle.walk_texts.specs.Texts.{joined}
use Rattle.run_report.specs.declared.outcomes.Outcome.{Outcome}
use Rattle.run_report.specs.declared.rounds.RoundRecord.{RoundRecord}
use Rattle.run_report.specs.Counts.{edits_in}
use Rattle.run_report.specs.EventTexts.{event_lines}
use Rattle.run_report.specs.PacketTexts.{packet_lines}
use Rattle.run_report.specs.Reports.{numbered_line}
use Rattle.lawful_runs.specs.Given.{Arrival, GivenRound}
use Rattle.batch_trace.specs.Passed.{Entry}
use Rattle.batch_trace.specs.Traced.{Part, own, text_of, text_in}
use Rattle.report_trace.specs.Traced.{packet_parts, round_parts, rounds_parts}
use Rattle.report_trace.specs.Writing.{ArePlain, IsBehind, lines_from}
use Rattle.report_trace.specs.Rounds.{lines_of_rounds}
use Rattle.report_trace.proofs.Heads.{round_plain, end_plain, events_plain}
use Rattle.report_trace.proofs.Own.{packets_lines}

-- ---- plain lines wait
pub absorbed : (first now : Option (List ℕ)) (whole bytes : List ℕ) (fronts lines : List (List ℕ)) (rest : List ℕ) → ArePlain fronts → IsBehind first now whole bytes (fronts ++ lines) (joined fronts ++ rest) → IsBehind first now whole bytes lines rest
absorbed first now whole bytes fronts lines rest plain it = record {
  plain = it.plain ++ fronts;
  each = each_append _ it.plain fronts it.each plain;
  cut_is = it.cut_is ∙ sym (append_assoc it.plain fronts lines);
  written = record {
    gone = it.written.gone;
    wrote = it.written.wrote;
    whole_is = it.written.whole_is ∙ ap (λ (text : List ℕ). it.written.gone ++ text)
        (sym (append_assoc (joined it.plain) (joined fronts) rest) ∙ ap (λ (text : List ℕ). text ++ rest) (sym (flat_map-append (λ (line : List ℕ). line) it.plain fronts)));
  };
}

-- ---- the lines and the text of a round and of what follows it
lines_split : (x z : List ℕ) (e p q r l : List (List ℕ)) → p ≡ q → ((x ∷ (e ++ (p ++ (z ∷ [])))) ++ r) ++ l ≡ (x ∷ e) ++ (q ++ (z ∷ (r ++ l)))
lines_split x z e p q r l same =
    ap (λ (ls : List (List ℕ)). x ∷ ls)
    (append_assoc (e ++ (p ++ (z ∷ []))) r l ∙ append_assoc e (p ++ (z ∷ [])) (r ++ l) ∙ ap (λ (ls : List (List ℕ)). e ++ ls) (append_assoc p (z ∷ []) (r ++ l) ∙ ap (λ (ls : List (List ℕ)). ls ++ (z ∷ (r ++ l))) same))

texts_split : (x e t z r l : List ℕ) → ((x ++ (e ++ (t ++ (z ++ [])))) ++ r) ++ l ≡ (x ++ e) ++ (t ++ (z ++ (r ++ l)))
texts_split x e t z r l =
    ap (λ (ls : List ℕ). ((x ++ (e ++ (t ++ ls))) ++ r) ++ l) (append-nil z)
    ∙ append_assoc (x ++ (e ++ (t ++ z))) r l
    ∙ ap (λ (ls : List ℕ). ls ++ (r ++ l)) (sym (append_assoc x e (t ++ z)))
    ∙ append_assoc (x ++ e) (t ++ z) (r ++ l)
    ∙ ap (λ (ls : List ℕ). (x ++ e) ++ ls) (append_assoc t z (r ++ l))

abbrev pub first_line : ℕ → List ℕ
first_line number = numbered_line (codes "round ") number

abbrev pub last_line : ℕ → List ℕ
last_line number = numbered_line (codes "end round ") number

abbrev pub head_lines : ℕ → ℕ → RoundRecord → List (List ℕ)
head_lines number before it = first_line number ∷ event_lines before it.events

head_plain : (number before : ℕ) (it : RoundRecord) → ArePlain (head_lines number before it)
head_plain number before it = (round_plain number, events_plain before it.events)

module _ (entries : List Entry) (number before : ℕ) (round : GivenRound) (rounds : List GivenRound) (it : RoundRecord) (its : List RoundRecord) (lines : List (List ℕ)) (rest : List ℕ) where
  -- the texts behind this round
  abbrev pub lines_behind : List (List ℕ)
  lines_behind = lines_of_rounds (number + 1) (before + edits_in (it ∷ [])) its ++ lines

  abbrev pub text_behind : List ℕ
  text_behind = text_in (rounds_parts entries (number + 1) (before + edits_in (it ∷ [])) rounds its) ++ rest

  lines_are : lines_of_rounds number before (it ∷ its) ++ lines ≡ head_lines number before it ++ (lines_from 1 it.outcomes ++ (last_line number ∷ lines_behind))
  lines_are = lines_split (first_line number) (last_line number) (event_lines before it.events) (packet_lines it.outcomes) (lines_from 1 it.outcomes) (lines_of_rounds (number + 1) (before + edits_in (it ∷ [])) its) lines (packets_lines it.outcomes)

  text_are : text_in (rounds_parts entries number before (round ∷ rounds) (it ∷ its)) ++ rest ≡ joined (head_lines number before it) ++ (text_in (packet_parts entries 1 round.arrivals it.outcomes) ++ (last_line number ++ text_behind))
  text_are =
      let more : List Part = rounds_parts entries (number + 1) (before + edits_in (it ∷ [])) rounds its in
      let packets : List Part = packet_parts entries 1 round.arrivals it.outcomes in
      let e : List ℕ = joined (event_lines before it.events) in
      ap (λ (ls : List ℕ). ls ++ rest) (flat_map-append text_of (round_parts entries number before round it) more ∙ ap (λ (ls : List ℕ). (first_line number ++ (e ++ ls)) ++ text_in more) (flat_map-append text_of packets (own (last_line number) ∷ [])))
      ∙ texts_split (first_line number) e (text_in packets) (last_line number) (text_in more) rest

  -- before its packets
  pub at_packets : (first now : Option (List ℕ)) (whole bytes : List ℕ) → IsBehind first now whole bytes (lines_of_rounds number before (it ∷ its) ++ lines) (text_in (rounds_parts entries number before (round ∷ rounds) (it ∷ its)) ++ rest)
      → IsBehind first now whole bytes (lines_from 1 it.outcomes ++ (last_line number ∷ lines_behind)) (text_in (packet_parts entries 1 round.arrivals it.outcomes) ++ (last_line number ++ text_behind))
  at_packets first now whole bytes is =
      absorbed first now whole bytes (head_lines number before it) (lines_from 1 it.outcomes ++ (last_line number ∷ lines_behind)) (text_in (packet_parts entries 1 round.arrivals it.outcomes) ++ (last_line number ++ text_behind)) (head_plain number before it)
      (subst (λ (ls : List (List ℕ)). IsBehind first now whole bytes ls (joined (head_lines number before it) ++ (text_in (packet_parts entries 1 round.arrivals it.outcomes) ++ (last_line number ++ text_behind)))) lines_are
      (subst (IsBehind first now whole bytes (lines_of_rounds number before (it ∷ its) ++ lines)) text_are is))

  -- and behind them
  pub at_next : (first now : Option (List ℕ)) (whole bytes : List ℕ) → IsBehind first now whole bytes (last_line number ∷ lines_behind) (last_line number ++ text_behind) → IsBehind first now whole bytes lines_behind text_behind
  at_next first now whole bytes is =
      absorbed first now whole bytes (last_line number ∷ []) lines_behind text_behind (end_plain number, tt)
      (subst (IsBehind first now whole bytes (last_line number ∷ lines_behind)) (ap (λ (ls : List ℕ). ls ++ text_behind) (sym (append-nil (last_line number)))) is)

  -- where no packet comes
  pub passed_over : (first now : Option (List ℕ)) (whole bytes : List ℕ) → round.arrivals ≡ [] → length it.outcomes ≡ length round.arrivals
      → IsBehind first now whole bytes (lines_of_rounds number before (it ∷ its) ++ lines) (text_in (rounds_parts entries number before (round ∷ rounds) (it ∷ its)) ++ rest) → IsBehind first now whole bytes lines_behind text_behind
  passed_over first now whole bytes none each is = at_next first now whole bytes (by_outcomes it.outcomes each (at_packets first now whole bytes is))
    where
      by_outcomes : (outcomes : List Outcome) → length outcomes ≡ length round.arrivals
          → IsBehind first now whole bytes (lines_from 1 outcomes ++ (last_line number ∷ lines_behind)) (text_in (packet_parts entries 1 round.arrivals outcomes) ++ (last_line number ++ text_behind))
          → IsBehind first now whole bytes (last_line number ∷ lines_behind) (last_line number ++ text_behind)
      by_outcomes [] same at = subst (λ (came : List Arrival). IsBehind first now whole bytes (last_line number ∷ lines_behind) (text_in (packet_parts entries 1 came []) ++ (last_line number ++ text_behind))) none at
      by_outcomes (outcome ∷ outcomes) same at = absurd (let zero = ap length none in omega (arith, same, zero))
