use Rattle.std.proofs.Common.{◌≡◌, ◌∙◌, ◌++◌, ℕ, List, Some, sym, ap, subst, arith, append-nil}
use Rattle.std.specs.List.{slice_get}
use Rattle.pcap_io.specs.Places.{packet_of}
use Rattle.pcap_io.specs.Written.{header_bytes}
use Rattle.pcap_io.specs.declared.capture.Packet.{Packet}
use Rattle.pcap_io.specs.declared.capture.Capture.{Capture}
use Rattle.walk_ends.specs.declared.counts.Count.{Count}
use Rattle.capture_walk.specs.Captures.{no_counts, AreFew}
use Rattle.capture_walk.specs.Adding.{IsAdded}
use Rattle.capture_walk.proofs.Counting.{few-none, room-for-run}
use Rattle.capture_walk.proofs.Walked.{short-at, walked-more, walked-all}
use Rattle.capture_walk.proofs.walking.walk_capture.Goals as goal

pub loop-index-init : goal.loop-index-init
loop-index-init c = record {
  walked = λ s spelled. record {
    ends = c.in_ok-leaving.ensures.ends;
    output = c.in_ok-leaving.ensures.output ∙ sym (append-nil (header_bytes c.args.capture.now.big c.args.capture.now.nanos));
    counts =
        c.in_ok-leaving.ensures.counts
        ∙ ap no_counts (c.made.ensures ∙ ap (λ actions. actions.made) c.actions.ensures.actions ∙ spelled.actions_made);
  };
  few = subst (λ (counts : List Count). AreFew 0 counts) (sym c.in_ok-leaving.ensures.counts) (few-none c.made.result);
  of = c.in_ok-leaving.ensures.of;
}

pub run-requires : goal.run-requires
run-requires c =
    short-at c.args.capture.now.packets c.loop-index.index (packet_of c.get-packet.result) c.requires.short c.get-packet.ensures

pub add-requires-clause-room : goal.add-requires-clause-room
add-requires-clause-room c = room-for-run c.loop-index.index c.loop-index.leaving.counts.items c.loop-index.invariant.few (omega arith)

pub add-requires-clause-short : goal.add-requires-clause-short
add-requires-clause-short c =
    short-at c.args.capture.now.packets c.loop-index.index (packet_of c.get-packet.result) c.requires.short c.get-packet.ensures

pub add-requires-clause-place : goal.add-requires-clause-place
add-requires-clause-place c =
    subst (λ (of : Capture). slice_get of.packets c.loop-index.index ≡ Some (packet_of c.get-packet.result)) (sym c.loop-index.invariant.of) c.get-packet.ensures

pub loop-index-preserved : goal.loop-index-preserved
loop-index-preserved c =
    let p = packet_of c.get-packet.result in
    record {
      walked = λ s spelled.
          walked-more s c.args.hook c.args.capture.now c.loop-index.index p c.loop-index.leaving c.add.new.self c.get-packet.ensures c.loop-index.invariant.of
          (subst (IsAdded p c.loop-index.leaving c.add.new.self) (c.run.ensures s spelled) c.in_ok-add.ensures.added)
          (c.loop-index.invariant.walked s spelled);
      few = c.in_ok-add.ensures.few c.loop-index.index c.loop-index.invariant.few;
      of = c.in_ok-add.ensures.of ∙ c.loop-index.invariant.of;
    }

pub returns-clause-ends : goal.returns-clause-ends
returns-clause-ends c = λ s spelled.
    (walked-all s c.args.hook c.args.capture.now c.loop-index.index c.len-index-end.result c.loop-index.leaving
    c.len-index-end.ensures c.loop-index-test.false (c.loop-index.invariant.walked s spelled)).ends

pub returns-clause-output : goal.returns-clause-output
returns-clause-output c = λ s spelled.
    c.into_pieces.ensures
    ∙ (walked-all s c.args.hook c.args.capture.now c.loop-index.index c.len-index-end.result c.loop-index.leaving
    c.len-index-end.ensures c.loop-index-test.false (c.loop-index.invariant.walked s spelled)).output

pub returns-clause-counts : goal.returns-clause-counts
returns-clause-counts c = λ s spelled.
    (walked-all s c.args.hook c.args.capture.now c.loop-index.index c.len-index-end.result c.loop-index.leaving
    c.len-index-end.ensures c.loop-index-test.false (c.loop-index.invariant.walked s spelled)).counts
