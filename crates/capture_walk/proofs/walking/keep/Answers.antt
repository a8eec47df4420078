use Rattle.std.proofs.Common.{◌≡◌, ◌++◌, ◌∷◌, [], ℕ, ◌<◌, ◌^◌, List, Option, Some, None, option_map, unwrap_or, refl, sym, ap, ◌∙◌, arith, rules, append-nil, flat_map}
use Rattle.std.proofs.lemmas.Grind.{common_steps}
use Rattle.std.proofs.lemmas.Result.{on_ok_weaker}
use Rattle.pcap_io.specs.declared.capture.Packet.{Packet}
use Rattle.pcap_io.specs.Places.{packet_of}
use Rattle.pcap_io.specs.Written.{packet_bytes}
use Rattle.walk_rules.specs.declared.verdict.Verdict.{Verdict}
use Rattle.walk_rules.specs.declared.verdict.Verdict.TheVariants as verdicts
use Rattle.plain_walk.specs.Walked.{walked_from}
use Rattle.walk_ends.specs.Passing.{passed_by}
use Rattle.capture_walk.specs.Captures.{passed_one, walked_packet}
use Rattle.capture_walk.proofs.Walked.{same_passed}
use Rattle.capture_walk.proofs.walking.keep.Goals as goal

pub returns-then-is_none-clause-kept : goal.returns-then-is_none-clause-kept
returns-then-is_none-clause-kept c =
    let p = packet_of c.args.packet in
    let outcome = walked_from c.args.packet.bytes.now c.args.walk.now in
    let big = c.args.output.now.of.big in
    let unedited : c.args.walk.now.edited ≡ None = grind (arith, common_steps) in
    let came : outcome.frame.bytes ≡ p.bytes = ap (λ (edited : Option (List ℕ)). unwrap_or edited p.bytes) unedited in
    let passes : outcome.verdict ≡ verdicts.Pass = grind (arith, common_steps) in
    let fits : p.original < 2 ^ 32 = omega arith in
    let one : passed_one p outcome ≡ p ∷ [] =
    ap (λ (verdict : Verdict). passed_by verdict (walked_packet p outcome)) passes ∙ ap (λ (q : Packet). q ∷ []) (same_passed p outcome fits came) in
    on_ok_weaker c.keep.result
    (λ kept. kept ∙ ap (λ (bytes : List ℕ). c.args.output.now.bytes ++ bytes) (sym (ap (flat_map (packet_bytes big)) one ∙ append-nil (packet_bytes big p))))
    (c.keep.ensures.bytes p c.requires.place)
