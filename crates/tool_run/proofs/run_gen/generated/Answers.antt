use Rattle.std.proofs.Common.{◌≡◌, ◌∙◌, List, get_or, sym, ap, subst, arith}
use Rattle.std.specs.Prelude.{is_some}
use Rattle.tc_base.specs.declared.hook.Hook.TheVariants.{Ingress}
use Rattle.pcap_io.specs.declared.capture.Capture.{Capture}
use Rattle.pcap_io.specs.Captures.{AreShort}
use Rattle.pcap_io.specs.Written.{capture_bytes}
use Rattle.walk_texts.specs.declared.summary.Summary.{Summary}
use Rattle.run_report.specs.declared.rounds.RoundRecord.{RoundRecord}
use Rattle.run_report.specs.Counts.{events_in, packets_in, summary_of}
use Rattle.tool_run.specs.OfGenerated.Generated.{capture_of}
use Rattle.tool_run.specs.OfOutputs.Outputs.{passed_capture}
use Rattle.tool_run.specs.OfOutputs.Ready.{AreWalks}
use Rattle.tool_run.proofs.MadeRuns.{comes_to, few_in, only_capture, walks_of, same_output, any_refused}
use Rattle.tool_run.proofs.run_gen.generated.Goals as goal

-- no more events and packets than a job may have
pub summary_of-summary-requires-clause-events : goal.summary_of-summary-requires-clause-events
summary_of-summary-requires-clause-events c =
    let few = (few_in c.args.count c.args.loaded.now c.args.run.now c.requires.few c.requires.made c.requires.run).0 in
    let same = ap events_in c.as_slice-rounds.ensures in
    omega (arith, few, same)

pub summary_of-summary-requires-clause-packets : goal.summary_of-summary-requires-clause-packets
summary_of-summary-requires-clause-packets c =
    let few = (few_in c.args.count c.args.loaded.now c.args.run.now c.requires.few c.requires.made c.requires.run).1 in
    let same = ap packets_in c.as_slice-rounds.ensures in
    omega (arith, few, same)

pub closing_text-requires-clause-few : goal.closing_text-requires-clause-few
closing_text-requires-clause-few c =
    let few = (few_in c.args.count c.args.loaded.now c.args.run.now c.requires.few c.requires.made c.requires.run).1 in
    let same = ap packets_in c.as_slice-rounds.ensures in
    let within = c.summary_of-summary.ensures.within in
    omega (arith, few, same, within)

-- the capture is the only one, and its packets those of the second round
pub write-requires : goal.write-requires
write-requires c =
    let comes = comes_to c.args.count c.args.loaded.now c.args.run.now c.requires.made c.requires.run in
    let capture = only_capture c.args.count c.args.loaded.now c.as_slice.result.now c.index-as_slice-0.result c.requires.made c.as_slice.ensures c.index-as_slice-0.is in
    subst (λ (it : Capture). AreShort it.packets) (sym capture)
    (walks_of c.args.count c.args.loaded.now c.args.run.now comes.2.applied comes.2.replayed c.requires.made c.requires.loaded c.requires.run comes.2.rounds).came

pub passed_of-requires : goal.passed_of-requires
passed_of-requires c =
    let comes = comes_to c.args.count c.args.loaded.now c.args.run.now c.requires.made c.requires.run in
    let capture = only_capture c.args.count c.args.loaded.now c.as_slice.result.now c.index-as_slice-0.result c.requires.made c.as_slice.ensures c.index-as_slice-0.is in
    let second : get_or c.as_slice-rounds.result.now 1 c.index-rounds-1.result ≡ comes.2.replayed =
    ap (λ (its : List RoundRecord). get_or its 1 c.index-rounds-1.result) (c.as_slice-rounds.ensures ∙ comes.2.rounds) in
    subst (λ (it : RoundRecord). AreWalks c.index-as_slice-0.result it.outcomes) (sym second)
    (subst (λ (it : Capture). AreWalks it comes.2.replayed.outcomes) (sym capture)
    (walks_of c.args.count c.args.loaded.now c.args.run.now comes.2.applied comes.2.replayed c.requires.made c.requires.loaded c.requires.run comes.2.rounds))

pub returns : goal.returns
returns c =
    let comes = comes_to c.args.count c.args.loaded.now c.args.run.now c.requires.made c.requires.run in
    let made = capture_of c.args.count in
    let capture = only_capture c.args.count c.args.loaded.now c.as_slice.result.now c.index-as_slice-0.result c.requires.made c.as_slice.ensures c.index-as_slice-0.is in
    let second : get_or c.as_slice-rounds.result.now 1 c.index-rounds-1.result ≡ comes.2.replayed =
    ap (λ (its : List RoundRecord). get_or its 1 c.index-rounds-1.result) (c.as_slice-rounds.ensures ∙ comes.2.rounds) in
    let summary : c.summary_of-summary.result ≡ summary_of c.args.run.now.rounds = c.summary_of-summary.ensures.value ∙ ap summary_of c.as_slice-rounds.ensures in (
      comes.0,
      comes.1,
      record {
        batch = c.in_ok-gen_batch.ensures;
        capture = c.in_ok-write.ensures.bytes ∙ ap capture_bytes capture;
        job = c.in_ok-gen_job.ensures;
        output = c.in_ok-joined.ensures ∙ c.in_ok-passed_of.ensures Ingress
            ∙ ap (λ (it : Capture). capture_bytes (passed_capture Ingress it (get_or c.as_slice-rounds.result.now 1 c.index-rounds-1.result).outcomes)) capture
            ∙ ap (λ (it : RoundRecord). capture_bytes (passed_capture Ingress made it.outcomes)) second
            ∙ same_output comes.0 made comes.2.replayed.outcomes comes.2.passed;
        text = c.in_ok-closing_text.ensures ∙ comes.2.closing;
        refused = any_refused (is_some comes.0.stop) c.summary_of-summary.result.refused (ap (λ (s : Summary). s.refused) summary ∙ comes.2.refused);
      },
    )
