-- Each line of a report ends with its one 0x0A.
use Rattle.std.proofs.Common.{◌≡◌, ℕ, ◌+◌, ◌==◌, ◌&&◌, ◌/◌, ◌%◌, Bool, true, false, List, [], ◌∷◌, ◌++◌, length, map, Option, Some, None, refl, sym, subst, arith}
use Rattle.std.specs.Prelude.{codes, not, nat_lt, if◌then◌else◌}
use Rattle.std.specs.List.{list_all, flat_map, join_with_byte}
use Rattle.std.specs.Fmt.{decimal}
use Rattle.std.proofs.lemmas.Bool.Decides.{nat_tests}
use Rattle.tc_base.specs.declared.hook.Proto.{Proto}
use Rattle.tc_base.specs.declared.hook.Proto.TheVariants.{All, Ether}
use Rattle.act_kinds.specs.declared.params.Kind.{Kind}
use Rattle.act_kinds.specs.declared.params.Kind.TheVariants as action_kinds
use Rattle.frame_edit.specs.declared.meta.Meta.{Meta}
use Rattle.filter_state.specs.declared.refusal.Done.{Done}
use Rattle.filter_state.specs.declared.refusal.Done.TheVariants as dones
use Rattle.filter_state.specs.declared.refusal.Refusal.{Refusal}
use Rattle.filter_state.specs.declared.refusal.Refusal.TheVariants as refusals
use Rattle.walk_rules.specs.declared.verdict.Verdict.{Verdict}
use Rattle.walk_rules.specs.declared.verdict.Verdict.TheVariants as verdicts
use Rattle.std.specs.Option.{unwrap_or}
use Rattle.line_texts.specs.Texts.{handle_text, hex_text, two_digits, four_digits, marked, ether_type_text, protocol_text, class_text}
use Rattle.tc_batch.specs.KindNames.{kind_text}
use Rattle.tc_report.specs.Refusals.{refusal_words, syntax_words, place_words, refused_line}
use Rattle.walk_texts.specs.declared.summary.Summary.{Summary}
use Rattle.batch_run.specs.declared.made_action.MadeAction.{MadeAction}
use Rattle.walk_ends.specs.declared.counts.Count.{Count}
use Rattle.walk_texts.specs.Texts.{counted, verdict_text, meta_text, end_text, action_text, count_text, counter_line, edits_text, verdicts_text, summary_line}
use Rattle.run_report.specs.declared.events.EventKind.{EventKind}
use Rattle.run_report.specs.declared.events.EventKind.TheVariants as kinds
use Rattle.run_report.specs.declared.events.Event.{Event}
use Rattle.run_report.specs.declared.outcomes.Outcome.{Outcome}
use Rattle.run_report.specs.declared.counters.CounterLine.{CounterLine}
use Rattle.run_report.specs.declared.rounds.RoundRecord.{RoundRecord}
use Rattle.run_report.specs.declared.record.RunRecord.{RunRecord}
use Rattle.run_report.specs.Counts.{accepted_count, summary_of}
use Rattle.run_report.specs.EventTexts.{serials_text, filter_name, filter_text, action_made_text, done_text, edit_place, kind_line}
use Rattle.run_report.specs.PacketTexts.{packet_name, points_text, packet_line}
use Rattle.run_report.specs.Reports.{numbered_line, counter_lines, report_lines}
use Rattle.report_laws.specs.OfLineCuts.Cuts.{Inner, IsLine, AreLines}
use Rattle.report_laws.proofs.OfLineCuts.Cutting.{inner_append}
use Rattle.report_laws.proofs.OfLineCuts.Digits.{digits_high, high_inner}
use Rattle.report_laws.specs.Stands.{last_lines}
use Rattle.report_laws.proofs.Texts.{lines_after, packets_from, round_text, rounds_from, rounds_lines_are}

-- ---- pieces
both : (a b : Bool) → (a && b) ≡ true → (a ≡ true) × (b ≡ true)
both true b is = (refl, is)
both false b is = absurd (cc is)

is_not : (b : Bool) → not b ≡ true → b ≡ false
is_not true is = absurd (cc is)
is_not false is = refl

abbrev Tested : List ℕ → Bool
Tested bytes = list_all (λ (b : ℕ). not (b == 10)) bytes

tested : (bytes : List ℕ) → Tested bytes ≡ true → Inner bytes
tested [] is = tt
tested (b ∷ bytes) is = let parts = both (not (b == 10)) (Tested bytes) is in (is_not (b == 10) parts.0, tested bytes parts.1)

decimal_inner : (n : ℕ) → Inner (decimal n)
decimal_inner n = high_inner (decimal n) (digits_high 10 false n)

hex_inner : (n : ℕ) → Inner (hex_text n)
hex_inner n = high_inner (hex_text n) (digits_high 16 false n)

label_inner : (label : List ℕ) (n : ℕ) → Inner label → Inner (counted label n)
unfolding counted
label_inner label n inner = inner_append label (decimal n) inner (decimal_inner n)

abbrev AllInner : List (List ℕ) → Type 0
AllInner [] = Unit {0}
AllInner (word ∷ words) = Inner word × AllInner words

all_append : (xs ys : List (List ℕ)) → AllInner xs → AllInner ys → AllInner (xs ++ ys)
all_append [] ys first second = second
all_append (x ∷ xs) ys first second = (first.0, all_append xs ys first.1 second)

join_inner : (byte : ℕ) → (byte == 10) ≡ false → (words : List (List ℕ)) → AllInner words → Inner (join_with_byte byte words)
join_inner byte other [] inner = tt
join_inner byte other (word ∷ []) inner = inner.0
join_inner byte other (word ∷ next ∷ words) inner = inner_append word (byte ∷ join_with_byte byte (next ∷ words)) inner.0 (other, join_inner byte other (next ∷ words) inner.1)

flat_inner : {X : Type 0} (text : X → List ℕ) → ((x : X) → Inner (text x)) → (xs : List X) → Inner (flat_map text xs)
flat_inner text each [] = tt
flat_inner text each (x ∷ xs) = inner_append (text x) (flat_map text xs) (each x) (flat_inner text each xs)

char_by : (b : Bool) (d : ℕ) → ((if b then 48 + d else 87 + d) == 10) ≡ false
char_by true d = grind (arith, nat_tests)
char_by false d = grind (arith, nat_tests)

three_inner : (a b c : List ℕ) → Inner a → Inner b → Inner c → Inner ((a ++ b) ++ c)
three_inner a b c first second third = inner_append (a ++ b) c (inner_append a b first second) third

if_inner : (b : Bool) (xs ys : List ℕ) → Inner xs → Inner ys → Inner (if b then xs else ys)
if_inner true xs ys first second = first
if_inner false xs ys first second = second

two_inner : (n : ℕ) → Inner (two_digits n)
two_inner n = (char_by (nat_lt (n / 16) 10) (n / 16), (char_by (nat_lt (n % 16) 10) (n % 16), tt))

named_inner : (b : Bool) (name : List ℕ) (rest : Option (List ℕ)) (other : List ℕ) → Inner name
    → Inner (unwrap_or rest other) → Inner (unwrap_or (if b then Some name else rest) other)
named_inner true name rest other first second = first
named_inner false name rest other first second = second

ether_inner : (n : ℕ) → Inner (ether_type_text n)
unfolding ether_type_text
ether_inner n =
    let other = marked (four_digits n) in
    named_inner (n == 0x0800) (codes "ip") _ other (tested (codes "ip") refl)
    (named_inner (n == 0x86DD) (codes "ipv6") _ other (tested (codes "ipv6") refl)
    (named_inner (n == 0x0806) (codes "arp") _ other (tested (codes "arp") refl)
    (named_inner (n == 0x8100) (codes "802.1Q") _ other (tested (codes "802.1Q") refl)
    (named_inner (n == 0x88A8) (codes "802.1ad") None other (tested (codes "802.1ad") refl)
    (refl, (refl, inner_append (two_digits (n / 256)) (two_digits (n % 256)) (two_inner (n / 256)) (two_inner (n % 256))))))))

protocol_inner : (protocol : Proto) → Inner (protocol_text protocol)
protocol_inner All = tested (codes "all") refl
protocol_inner (Ether n) = ether_inner n

handle_inner : (n : ℕ) → Inner (handle_text n)
unfolding handle_text
handle_inner n = (refl, (refl, hex_inner n))

kind_inner : (kind : Kind) → Inner (kind_text kind)
kind_inner action_kinds.Gact = tested (codes "gact") refl
kind_inner action_kinds.Vlan = tested (codes "vlan") refl
kind_inner action_kinds.Skbedit = tested (codes "skbedit") refl

-- ---- events
decimals_inner : (ns : List ℕ) → AllInner (map decimal ns)
decimals_inner [] = tt
decimals_inner (n ∷ ns) = (decimal_inner n, decimals_inner ns)

serials_inner : (serials : List ℕ) → Inner (serials_text serials)
serials_inner [] = tested (codes "none") refl
serials_inner (serial ∷ serials) = join_inner 44 refl (map decimal (serial ∷ serials)) (decimals_inner (serial ∷ serials))

filter_inner : (pref handle : ℕ) (serials : List ℕ) → Inner (filter_text pref handle serials)
unfolding filter_text filter_name
filter_inner pref handle serials =
    three_inner ((counted (codes "filter pref ") pref ++ codes " handle ") ++ handle_text handle) (codes " actions ") (serials_text serials)
    (three_inner (counted (codes "filter pref ") pref) (codes " handle ") (handle_text handle) (label_inner (codes "filter pref ") pref (tested (codes "filter pref ") refl)) (tested (codes " handle ") refl) (handle_inner handle))
    (tested (codes " actions ") refl) (serials_inner serials)

made_inner : (index serial : ℕ) → Inner (action_made_text index serial)
unfolding action_made_text
made_inner index serial =
    inner_append (counted (codes "action index ") index) (counted (codes " serial ") serial) (label_inner (codes "action index ") index (tested (codes "action index ") refl)) (label_inner (codes " serial ") serial (tested (codes " serial ") refl))

done_inner : (done : Done) → Inner (done_text done)
done_inner dones.Hooked = tested (codes "hooked") refl
done_inner dones.Unhooked = tested (codes "unhooked") refl
done_inner (dones.Filter pref handle serials) = filter_inner pref handle serials
done_inner dones.FilterGone = tested (codes "filter gone") refl
done_inner dones.TableGone = tested (codes "table gone") refl
done_inner (dones.ActionMade index serial) = made_inner index serial
done_inner dones.ActionChanged = tested (codes "action changed") refl
done_inner dones.ActionGone = tested (codes "action gone") refl

place_inner : (edits control line : ℕ) → Inner (edit_place edits control line)
unfolding edit_place
place_inner edits control line =
    inner_append ((counted (codes "edit ") edits ++ counted (codes " control ") control) ++ counted (codes " line ") line) (codes " ")
    (three_inner (counted (codes "edit ") edits) (counted (codes " control ") control) (counted (codes " line ") line) (label_inner (codes "edit ") edits (tested (codes "edit ") refl))
    (label_inner (codes " control ") control (tested (codes " control ") refl)) (label_inner (codes " line ") line (tested (codes " line ") refl)))
    (tested (codes " ") refl)

refusal_inner : (refusal : Refusal) → AllInner (refusal_words refusal)
refusal_inner refusals.NoHook = (tested (codes "NoHook") refl, tt)
refusal_inner refusals.HookExists = (tested (codes "HookExists") refl, tt)
refusal_inner refusals.HookInUse = (tested (codes "HookInUse") refl, tt)
refusal_inner refusals.NoPref = (tested (codes "NoPref") refl, tt)
refusal_inner (refusals.ProtocolClash protocol) = (tested (codes "ProtocolClash") refl, (protocol_inner protocol, tt))
refusal_inner refusals.NoSuchTable = (tested (codes "NoSuchTable") refl, tt)
refusal_inner refusals.NoSuchFilter = (tested (codes "NoSuchFilter") refl, tt)
refusal_inner refusals.HandleTaken = (tested (codes "HandleTaken") refl, tt)
refusal_inner (refusals.Exists handle) = (tested (codes "Exists") refl, (handle_inner handle, tt))
refusal_inner (refusals.NoSuchAction kind index) = (tested (codes "NoSuchAction") refl, (kind_inner kind, (decimal_inner index, tt)))
refusal_inner refusals.ActionExists = (tested (codes "ActionExists") refl, tt)
refusal_inner (refusals.ActionBound binds) = (tested (codes "ActionBound") refl, (decimal_inner binds, tt))
refusal_inner refusals.TablesFull = (tested (codes "TablesFull") refl, tt)
refusal_inner refusals.MasksFull = (tested (codes "MasksFull") refl, tt)
refusal_inner refusals.FiltersFull = (tested (codes "FiltersFull") refl, tt)
refusal_inner refusals.ActionsFull = (tested (codes "ActionsFull") refl, tt)
refusal_inner refusals.CountersFull = (tested (codes "CountersFull") refl, tt)
refusal_inner (refusals.NoMemory memory) = (tested (codes "NoMemory") refl, tt)

refused_is : (before control line : ℕ) (reason : List (List ℕ)) → AllInner reason → IsLine (refused_line before control line reason)
refused_is before control line reason inner = (
  join_with_byte 32 (place_words before control line ++ reason),
  join_inner 32 refl (place_words before control line ++ reason)
      (all_append (place_words before control line) reason
      (tested (codes "refused") refl, (decimal_inner before, (tested (codes "control") refl, (decimal_inner control, (tested (codes "line") refl, (decimal_inner line, tt)))))) inner),
  refl,
)

event_is : (before control line : ℕ) (kind : EventKind) → IsLine (kind_line before control line kind)
event_is before control line (kinds.Accepted done) = (
  edit_place (before + 1) control line ++ done_text done,
  inner_append (edit_place (before + 1) control line) (done_text done) (place_inner (before + 1) control line) (done_inner done),
  refl,
)
event_is before control line (kinds.Refused refusal) = refused_is before control line (refusal_words refusal) (refusal_inner refusal)
event_is before control line (kinds.Syntax word) = refused_is before control line (syntax_words word) (tested (codes "Syntax") refl, (decimal_inner word, tt))

-- ---- packets
verdict_inner : (verdict : Verdict) → Inner (verdict_text verdict)
verdict_inner verdicts.Pass = tested (codes " pass length ") refl
verdict_inner verdicts.Drop = tested (codes " drop length ") refl

class_inner : (n : ℕ) → Inner (class_text n)
unfolding class_text
class_inner n = join_inner 58 refl (hex_text (n / 65536) ∷ hex_text (n % 65536) ∷ []) (hex_inner (n / 65536), (hex_inner (n % 65536), tt))

meta_inner : (meta : Meta) → Inner (meta_text meta)
meta_inner meta =
    if_inner (meta.priority == 0 && (meta.mark == 0 && meta.queue == 0)) [] (((codes " priority " ++ class_text meta.priority) ++ counted (codes " mark ") meta.mark) ++ counted (codes " queue ") meta.queue) tt
    (inner_append ((codes " priority " ++ class_text meta.priority) ++ counted (codes " mark ") meta.mark) (counted (codes " queue ") meta.queue)
    (three_inner (codes " priority ") (class_text meta.priority) (counted (codes " mark ") meta.mark) (tested (codes " priority ") refl) (class_inner meta.priority) (label_inner (codes " mark ") meta.mark (tested (codes " mark ") refl)))
    (label_inner (codes " queue ") meta.queue (tested (codes " queue ") refl)))

end_inner : (verdict : Verdict) (len : ℕ) (meta : Meta) → Inner (end_text verdict len meta)
unfolding end_text
end_inner verdict len meta = inner_append (counted (verdict_text verdict) len) (meta_text meta) (label_inner (verdict_text verdict) len (verdict_inner verdict)) (meta_inner meta)

name_inner : (number worker : ℕ) → Inner (packet_name number worker)
unfolding packet_name
name_inner number worker = inner_append (counted (codes "packet ") number) (counted (codes " worker ") worker) (label_inner (codes "packet ") number (tested (codes "packet ") refl)) (label_inner (codes " worker ") worker (tested (codes " worker ") refl))

points_inner : (points : List ℕ) → Inner (points_text points)
unfolding points_text
points_inner points =
    inner_append (codes " points") (flat_map (λ (point : ℕ). counted (codes " ") point) points) (tested (codes " points") refl)
    (flat_inner (λ (point : ℕ). counted (codes " ") point) (λ point. label_inner (codes " ") point (tested (codes " ") refl)) points)

packet_is : (number : ℕ) (outcome : Outcome) → IsLine (packet_line number outcome)
packet_is number outcome =
    let name : List ℕ = packet_name number outcome.worker in
    let end : List ℕ = end_text outcome.verdict (length outcome.bytes) outcome.meta in
    let points : List ℕ = points_text outcome.points in (
      (name ++ end) ++ points,
      three_inner name end points (name_inner number outcome.worker) (end_inner outcome.verdict (length outcome.bytes) outcome.meta) (points_inner outcome.points),
      refl,
    )

-- ---- the other lines
numbered_is : (label : List ℕ) (n : ℕ) → Inner label → IsLine (numbered_line label n)
unfolding numbered_line
numbered_is label n inner = (counted label n, label_inner label n inner, refl)

counter_is : (made : MadeAction) (count : Count) → IsLine (counter_line made count)
unfolding action_text count_text
counter_is made count =
    let first : List ℕ = ((counted (codes "counter serial ") made.serial ++ codes " ") ++ kind_text made.kind) ++ counted (codes " index ") made.index in
    let second : List ℕ = counted (codes " packets ") count.packets ++ counted (codes " bytes ") count.bytes in (
      first ++ second,
      inner_append first second
          (inner_append ((counted (codes "counter serial ") made.serial ++ codes " ") ++ kind_text made.kind) (counted (codes " index ") made.index)
          (three_inner (counted (codes "counter serial ") made.serial) (codes " ") (kind_text made.kind) (label_inner (codes "counter serial ") made.serial (tested (codes "counter serial ") refl)) (tested (codes " ") refl) (kind_inner made.kind))
          (label_inner (codes " index ") made.index (tested (codes " index ") refl)))
          (inner_append (counted (codes " packets ") count.packets) (counted (codes " bytes ") count.bytes) (label_inner (codes " packets ") count.packets (tested (codes " packets ") refl)) (label_inner (codes " bytes ") count.bytes (tested (codes " bytes ") refl))),
      refl,
    )

summary_is : (summary : Summary) → IsLine (summary_line summary)
unfolding edits_text verdicts_text
summary_is summary =
    let first : List ℕ = counted (codes "summary edits ") summary.edits ++ counted (codes " refused ") summary.refused in
    let second : List ℕ = (counted (codes " packets ") (summary.passed + summary.dropped) ++ counted (codes " passed ") summary.passed) ++ counted (codes " dropped ") summary.dropped in (
      first ++ second,
      inner_append first second
          (inner_append (counted (codes "summary edits ") summary.edits) (counted (codes " refused ") summary.refused) (label_inner (codes "summary edits ") summary.edits (tested (codes "summary edits ") refl)) (label_inner (codes " refused ") summary.refused (tested (codes " refused ") refl)))
          (three_inner (counted (codes " packets ") (summary.passed + summary.dropped)) (counted (codes " passed ") summary.passed) (counted (codes " dropped ") summary.dropped) (label_inner (codes " packets ") (summary.passed + summary.dropped) (tested (codes " packets ") refl))
          (label_inner (codes " passed ") summary.passed (tested (codes " passed ") refl)) (label_inner (codes " dropped ") summary.dropped (tested (codes " dropped ") refl))),
      refl,
    )

-- ---- all lines
lines_append : (xs ys : List (List ℕ)) → AreLines xs → AreLines ys → AreLines (xs ++ ys)
lines_append [] ys first second = second
lines_append (x ∷ xs) ys first second = (first.0, lines_append xs ys first.1 second)

events_are : (before : ℕ) (events : List Event) → AreLines (lines_after before events)
events_are before [] = tt
events_are before (event ∷ events) = (event_is before event.control event.line event.kind, events_are (before + accepted_count (event ∷ [])) events)

packets_are_lines : (n : ℕ) (outcomes : List Outcome) → AreLines (packets_from n outcomes)
packets_are_lines n [] = tt
packets_are_lines n (outcome ∷ outcomes) = (packet_is n outcome, packets_are_lines (n + 1) outcomes)

round_is : (number before : ℕ) (it : RoundRecord) → AreLines (round_text number before it)
round_is number before it = (
  numbered_is (codes "round ") number (tested (codes "round ") refl),
  lines_append (lines_after before it.events) (packets_from 1 it.outcomes ++ (numbered_line (codes "end round ") number ∷ [])) (events_are before it.events)
      (lines_append (packets_from 1 it.outcomes) (numbered_line (codes "end round ") number ∷ []) (packets_are_lines 1 it.outcomes) (numbered_is (codes "end round ") number (tested (codes "end round ") refl), tt)),
)

rounds_are : (n before : ℕ) (its : List RoundRecord) → AreLines (rounds_from n before its)
rounds_are n before [] = tt
rounds_are n before (it ∷ its) = lines_append (round_text (n + 1) before it) (rounds_from (n + 1) (before + accepted_count it.events) its) (round_is (n + 1) before it) (rounds_are (n + 1) (before + accepted_count it.events) its)

counters_are : (counters : List CounterLine) → AreLines (counter_lines counters)
counters_are [] = tt
counters_are (c ∷ counters) = (counter_is (record { serial = c.serial; kind = c.kind; index = c.index }) (record { packets = c.packets; bytes = c.bytes }), counters_are counters)

pub report_is_lines : (run : RunRecord) → AreLines (report_lines run)
report_is_lines run = (
  (codes "clsact report 1", tested (codes "clsact report 1") refl, refl),
  subst (λ (ls : List (List ℕ)). AreLines (ls ++ last_lines run)) (sym (rounds_lines_are run.rounds))
      (lines_append (rounds_from 0 0 run.rounds) (last_lines run) (rounds_are 0 0 run.rounds)
      (lines_append (counter_lines run.counters) (summary_line (summary_of run.rounds) ∷ codes "end\n" ∷ []) (counters_are run.counters)
      (summary_is (summary_of run.rounds), ((codes "end", tested (codes "end") refl, refl), tt)))),
)
