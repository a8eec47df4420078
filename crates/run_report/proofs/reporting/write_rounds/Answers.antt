use Rattle.std.proofs.Common.{◌≡◌, ◌∙◌, ℕ, ◌+◌, ◌<◌, ◌++◌, List, length, get_or, take, refl, sym, ap, subst, arith}
use Rattle.std.specs.List.{flat_map, enumerate_from}
use Rattle.tc_base.specs.Outside.{AppendsUpTo}
use Rattle.walk_texts.specs.Texts.{joined}
use Rattle.run_report.specs.declared.rounds.RoundRecord.{RoundRecord}
use Rattle.run_report.specs.Counts.{edits_in}
use Rattle.run_report.specs.Reports.{round_lines}
use Rattle.run_report.specs.Pages.{IsPaged}
use Rattle.run_report.proofs.Lines.{lines_more, all_numbered}
use Rattle.run_report.proofs.Counts.{edits_more, room_for_round}
use Rattle.run_report.proofs.Pages.{page_put, page_on, page_up_to, part_up_to, part_front, parts_parted}
use Rattle.run_report.proofs.reporting.write_rounds.Goals as goal

-- the lines of a round at a place
abbrev lines : List RoundRecord → ℕ × RoundRecord → List (List ℕ)
lines rounds placed = round_lines (placed.0 + 1) (edits_in (take placed.0 rounds)) placed.1

pub write_round-requires : goal.write_round-requires
write_round-requires g c = room_for_round c.args.rounds.now c.loop-index.index _ _ 4294967296 (sym c.index-rounds-index.is) c.loop-index-test.true c.loop-index.invariant.edits c.requires

-- the lines of the rounds so far, and those of the next one
more : (page : List ℕ) (rounds : List RoundRecord) (k edits : ℕ) (round : RoundRecord) → k < length rounds → get_or rounds k round ≡ round → edits ≡ edits_in (take k rounds)
    → (page ++ joined (flat_map (lines rounds) (take k (enumerate_from 0 rounds)))) ++ joined (round_lines (k + 1) edits round)
    ≡ page ++ joined (flat_map (lines rounds) (take (k + 1) (enumerate_from 0 rounds)))
more page rounds k edits round within is so_far =
    let before = page ++ joined (flat_map (lines rounds) (take k (enumerate_from 0 rounds))) in
    ap (λ (n : ℕ). before ++ joined (round_lines (k + 1) n round)) so_far
    ∙ lines_more (lines rounds) 0 page before _ rounds k k round within (omega arith) is refl refl

pub returns-in_err-edits-clause-up_to : goal.returns-in_err-edits-clause-up_to
returns-in_err-edits-clause-up_to g c =
    let rounds = c.args.rounds.now in
    let k = c.loop-index.index in
    part_up_to _ _ c.args.page.now.items _ _ _ (parts_parted (lines rounds) (enumerate_from 0 rounds) (k + 1))
    (subst (AppendsUpTo (g.O.Sink.written c.args.out.now) (g.O.Sink.written c.write_round.new.out))
    (more c.args.page.now.items rounds k _ _ c.loop-index-test.true (sym c.index-rounds-index.is) c.loop-index.invariant.edits)
    (page_up_to _ _ _ _ _ (page_put _ _ _ _ _ c.loop-index.invariant.text) c.write_round.ensures.up_to))

pub loop-index-preserved : goal.loop-index-preserved
loop-index-preserved g c =
    let rounds = c.args.rounds.now in
    let k = c.loop-index.index in
    record {
      text = subst (λ (t : List ℕ). IsPaged (g.O.Sink.written c.args.out.now) (g.O.Sink.written c.write_round.new.out) t c.write_round.new.page.items)
          (more c.args.page.now.items rounds k _ _ c.loop-index-test.true (sym c.index-rounds-index.is) c.loop-index.invariant.edits)
          (page_on _ _ _ _ _ _ _ c.loop-index.invariant.text c.in_ok-edits.ensures.text);
      edits = edits_more rounds k _ _ _ (sym c.index-rounds-index.is) c.loop-index-test.true c.loop-index.invariant.edits c.in_ok-edits.ensures.edits;
      later = omega (arith, c.write_round.ensures.later, c.loop-index.invariant.later);
    }

pub returns-clause-text : goal.returns-clause-text
returns-clause-text g c =
    let rounds = c.args.rounds.now in
    subst (λ (r : List (ℕ × RoundRecord)). IsPaged (g.O.Sink.written c.args.out.now) (g.O.Sink.written c.loop-index.out)
    (c.args.page.now.items ++ joined (flat_map (lines rounds) r)) c.loop-index.page.items)
    (all_numbered 0 rounds c.loop-index.index c.loop-index-test.false) c.loop-index.invariant.text

pub returns-clause-up_to : goal.returns-clause-up_to
returns-clause-up_to g c =
    let rounds = c.args.rounds.now in
    part_front _ _ c.args.page.now.items _ _ _ (parts_parted (lines rounds) (enumerate_from 0 rounds) c.loop-index.index) _ c.loop-index.invariant.text
