-- What the walks of the packets so far leave.
use Rattle.std.proofs.Common.{◌≡◌, ℕ, ◌+◌, ◌^◌, ◌<◌, ◌≤◌, Bool, List, [], ◌∷◌, ◌++◌, length, map, take, Some, sym, ap, subst, ◌∙◌, append-nil, append_assoc, arith}
use Rattle.std.specs.List.{slice_get}
use Rattle.std.proofs.lemmas.List.{take_all, take_more, map_push}
use Rattle.std.proofs.lemmas.Option.{slice_get_within, get_or_from_slice_get}
use Rattle.std.proofs.lemmas.Grind.{flat_map-append}
use Rattle.tc_base.specs.declared.hook.Hook.{Hook}
use Rattle.pcap_io.specs.Captures.{AreShort}
use Rattle.std.specs.List.{flat_map}
use Rattle.pcap_io.specs.declared.capture.Packet.{Packet}
use Rattle.pcap_io.specs.declared.capture.Capture.{Capture}
use Rattle.pcap_io.specs.Written.{header_bytes, packet_bytes}
use Rattle.filter_state.specs.States.{State}
use Rattle.walk_rules.specs.Steps.{Execution}
use Rattle.walk_rules.specs.Walks.{Outcome}
use Rattle.walk_rules.specs.Plain.{plain_walk}
use Rattle.walk_ends.specs.declared.counts.Count.{Count}
use Rattle.capture_walk.specs.declared.ends.PacketEnd.{PacketEnd}
use Rattle.capture_walk.specs.declared.walking.Leaving.{Leaving}
use Rattle.walk_ends.specs.Passing.{regrown}
use Rattle.capture_walk.specs.Captures.{outcomes_of, end_of, passed_one, passed, walked_packet, executed_in, counts_of, each_added}
use Rattle.capture_walk.specs.Adding.{IsAdded}
use Rattle.capture_walk.proofs.Counting.{counts-append}

-- this is what the walks of these packets leave
pub record IsWalked (s : State) (hook : Hook) (capture : Capture) (packets : List Packet) (walked : Leaving) : Type 0 where
  pub ends : walked.ends ≡ map end_of (outcomes_of s hook packets)
  pub output : walked.output.bytes ≡ header_bytes capture.big capture.nanos ++ flat_map (packet_bytes capture.big) (passed s hook packets)
  pub counts : walked.counts.items ≡ counts_of s.actions_made (executed_in (outcomes_of s hook packets))

-- a packet of a short list is short
pub short-at : (packets : List Packet) (i : ℕ) (p : Packet) → AreShort packets → slice_get packets i ≡ Some p → length p.bytes ≤ 262144
short-at packets i p short at =
    subst (λ (q : Packet). length q.bytes ≤ 262144) (get_or_from_slice_get packets i p p at) (short i p (slice_get_within packets i p at))

-- ---- one packet more
taken : (packets : List Packet) (i : ℕ) (p : Packet) → slice_get packets i ≡ Some p → take (i + 1) packets ≡ take i packets ++ (p ∷ [])
taken packets i p at =
    take_more packets i p (slice_get_within packets i p at)
    ∙ ap (λ (q : Packet). take i packets ++ (q ∷ [])) (get_or_from_slice_get packets i p p at)

outcomes-more : (s : State) (hook : Hook) (packets : List Packet) (i : ℕ) (p : Packet) → slice_get packets i ≡ Some p →
    outcomes_of s hook (take (i + 1) packets) ≡ outcomes_of s hook (take i packets) ++ (plain_walk s hook p.bytes ∷ [])
outcomes-more s hook packets i p at =
    ap (outcomes_of s hook) (taken packets i p at) ∙ map_push (λ (q : Packet). plain_walk s hook q.bytes) (take i packets) p

passed-more : (s : State) (hook : Hook) (packets : List Packet) (i : ℕ) (p : Packet) → slice_get packets i ≡ Some p →
    passed s hook (take (i + 1) packets) ≡ passed s hook (take i packets) ++ passed_one p (plain_walk s hook p.bytes)
passed-more s hook packets i p at =
    ap (passed s hook) (taken packets i p at)
    ∙ flat_map-append (λ (q : Packet). passed_one q (plain_walk s hook q.bytes)) (take i packets) (p ∷ [])
    ∙ ap (λ (ps : List Packet). passed s hook (take i packets) ++ ps) (append-nil (passed_one p (plain_walk s hook p.bytes)))

executed-more : (outcomes : List Outcome) (outcome : Outcome) → executed_in (outcomes ++ (outcome ∷ [])) ≡ executed_in outcomes ++ outcome.executed
executed-more outcomes outcome =
    flat_map-append (λ (o : Outcome). o.executed) outcomes (outcome ∷ [])
    ∙ ap (λ (executed : List Execution). executed_in outcomes ++ executed) (append-nil outcome.executed)

ends-added : (s : State) (hook : Hook) (packets : List Packet) (i : ℕ) (p : Packet) (old new : List PacketEnd) → slice_get packets i ≡ Some p →
    new ≡ old ++ (end_of (plain_walk s hook p.bytes) ∷ []) → old ≡ map end_of (outcomes_of s hook (take i packets)) →
    new ≡ map end_of (outcomes_of s hook (take (i + 1) packets))
ends-added s hook packets i p old new at added so_far =
    added ∙ ap (λ (ends : List PacketEnd). ends ++ (end_of (plain_walk s hook p.bytes) ∷ [])) so_far
    ∙ sym (ap (map end_of) (outcomes-more s hook packets i p at) ∙ map_push end_of (outcomes_of s hook (take i packets)) (plain_walk s hook p.bytes))

counts-added : (s : State) (hook : Hook) (packets : List Packet) (i : ℕ) (p : Packet) (old new : List Count) → slice_get packets i ≡ Some p →
    new ≡ each_added 1 old (plain_walk s hook p.bytes).executed → old ≡ counts_of s.actions_made (executed_in (outcomes_of s hook (take i packets))) →
    new ≡ counts_of s.actions_made (executed_in (outcomes_of s hook (take (i + 1) packets)))
counts-added s hook packets i p old new at added so_far =
    let outcomes = outcomes_of s hook (take i packets) in
    let outcome = plain_walk s hook p.bytes in
    added ∙ ap (λ (counts : List Count). each_added 1 counts outcome.executed) so_far
    ∙ sym (ap (λ (os : List Outcome). counts_of s.actions_made (executed_in os)) (outcomes-more s hook packets i p at)
    ∙ ap (counts_of s.actions_made) (executed-more outcomes outcome)
    ∙ counts-append s.actions_made (executed_in outcomes) outcome.executed)

output-added : (s : State) (hook : Hook) (big : Bool) (header : List ℕ) (packets : List Packet) (i : ℕ) (p : Packet) (old new : List ℕ) → slice_get packets i ≡ Some p →
    new ≡ old ++ flat_map (packet_bytes big) (passed_one p (plain_walk s hook p.bytes)) → old ≡ header ++ flat_map (packet_bytes big) (passed s hook (take i packets)) →
    new ≡ header ++ flat_map (packet_bytes big) (passed s hook (take (i + 1) packets))
output-added s hook big header packets i p old new at added so_far =
    let bytes : List Packet → List ℕ = flat_map (packet_bytes big) in
    let one = passed_one p (plain_walk s hook p.bytes) in
    added ∙ ap (λ (xs : List ℕ). xs ++ bytes one) so_far
    ∙ append_assoc header (bytes (passed s hook (take i packets))) (bytes one)
    ∙ ap (λ (xs : List ℕ). header ++ xs) (sym (ap bytes (passed-more s hook packets i p at) ∙ flat_map-append (packet_bytes big) (passed s hook (take i packets)) one))

pub walked-more : (s : State) (hook : Hook) (capture : Capture) (i : ℕ) (p : Packet) (old new : Leaving) → slice_get capture.packets i ≡ Some p → old.output.of ≡ capture →
    IsAdded p old new (plain_walk s hook p.bytes) → IsWalked s hook capture (take i capture.packets) old → IsWalked s hook capture (take (i + 1) capture.packets) new
walked-more s hook capture i p old new at of added so_far = record {
  ends = ends-added s hook capture.packets i p old.ends new.ends at added.ends so_far.ends;
  output = output-added s hook capture.big (header_bytes capture.big capture.nanos) capture.packets i p old.output.bytes new.output.bytes at
      (subst (λ (big : Bool). new.output.bytes ≡ old.output.bytes ++ flat_map (packet_bytes big) (passed_one p (plain_walk s hook p.bytes))) (ap (λ (c : Capture). c.big) of) added.output)
      so_far.output;
  counts = counts-added s hook capture.packets i p old.counts.items new.counts.items at added.counts so_far.counts;
}

-- all packets were walked
pub walked-all : (s : State) (hook : Hook) (capture : Capture) (i count : ℕ) (walked : Leaving) → count ≡ length capture.packets → count ≤ i →
    IsWalked s hook capture (take i capture.packets) walked → IsWalked s hook capture capture.packets walked
walked-all s hook capture i count walked is all so_far =
    subst (λ (ps : List Packet). IsWalked s hook capture ps walked) (take_all i capture.packets (omega arith)) so_far

-- a packet whose bytes stay passes as it is
pub same_passed : (p : Packet) (outcome : Outcome) → p.original < 2 ^ 32 → outcome.frame.bytes ≡ p.bytes → walked_packet p outcome ≡ p
same_passed p outcome fits same =
    let made : ℕ → List ℕ → Packet = λ original bytes. record { seconds = p.seconds; fraction = p.fraction; original = original; bytes = bytes } in
    let original : regrown p.original (length p.bytes) (length outcome.frame.bytes) ≡ p.original =
    ap (λ (bytes : List ℕ). regrown p.original (length p.bytes) (length bytes)) same ∙ omega arith in
    ap (λ (original : ℕ). made original outcome.frame.bytes) original ∙ ap (made p.original) same
