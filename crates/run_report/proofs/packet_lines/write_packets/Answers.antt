use Rattle.std.proofs.Common.{◌≡◌, ◌∙◌, ℕ, ◌+◌, ◌++◌, List, take, refl, ap, codes, subst, arith}
use Rattle.std.specs.Prelude.{map}
use Rattle.std.specs.List.{enumerate_from}
use Rattle.std.proofs.lemmas.Option.{get_or_from_slice_get}
use Rattle.walk_texts.specs.Texts.{joined, counted}
use Rattle.run_report.specs.declared.outcomes.Outcome.{Outcome}
use Rattle.run_report.specs.Kept.{outcome_seen}
use Rattle.run_report.specs.PacketTexts.{packet_line}
use Rattle.run_report.specs.Pages.{IsPaged}
use Rattle.run_report.proofs.Lines.{line_more, all_numbered}
use Rattle.run_report.proofs.Tails.{line_put}
use Rattle.run_report.proofs.Pages.{page_then, page_line, page_up_to, part_up_to, part_front, lines_parted}
use Rattle.run_report.proofs.packet_lines.write_packets.Goals as goal

abbrev line : ℕ × Outcome → List ℕ
line numbered = packet_line numbered.0 numbered.1

pub returns-in_err-turn-clause-up_to : goal.returns-in_err-turn-clause-up_to
returns-in_err-turn-clause-up_to g c =
    let all = enumerate_from 1 c.args.outcomes.now in
    part_up_to _ _ c.args.page.now.items _ _ _ (lines_parted line all c.loop-place.place)
    (page_up_to _ _ _ _ _ c.loop-place.invariant.text c.turn.ensures.up_to)

pub returns-in_err-turn_to_next-clause-up_to : goal.returns-in_err-turn_to_next-clause-up_to
returns-in_err-turn_to_next-clause-up_to g c =
    let all = enumerate_from 1 c.args.outcomes.now in
    part_front _ _ c.args.page.now.items _ _ _ (lines_parted line all c.loop-place.place) _
    (page_then _ _ _ _ _ _ c.loop-place.invariant.text c.in_ok-turn.ensures.text)

pub returns-in_err-extend_from_slice-clause-up_to : goal.returns-in_err-extend_from_slice-clause-up_to
returns-in_err-extend_from_slice-clause-up_to g c =
    let all = enumerate_from 1 c.args.outcomes.now in
    part_front _ _ c.args.page.now.items _ _ _ (lines_parted line all c.loop-place.place) _
    (page_then _ _ _ _ _ _ c.loop-place.invariant.text c.in_ok-turn.ensures.text)

pub returns-in_err-push-clause-up_to : goal.returns-in_err-push-clause-up_to
returns-in_err-push-clause-up_to g c =
    let all = enumerate_from 1 c.args.outcomes.now in
    part_front _ _ c.args.page.now.items _ _ _ (lines_parted line all c.loop-place.place) _
    (page_then _ _ _ _ _ _ c.loop-place.invariant.text c.in_ok-turn.ensures.text)

pub loop-place-preserved : goal.loop-place-preserved
loop-place-preserved g c =
    let place = c.loop-place.place in
    let outcome : Outcome = outcome_seen c.at.result in
    let before = c.args.page.now.items ++ joined (map line (take place (enumerate_from 1 c.args.outcomes.now))) in
    let number : c.turn_to_next.new.self.number ≡ place + 1 = c.in_ok-turn_to_next.ensures.number ∙ ap (λ n. n + 1) c.loop-place.invariant.number in
    let named : c.extend_from_slice.new.self.items ≡ c.turn.new.page.items ++ counted (codes "packet ") (place + 1) =
    c.in_ok-extend_from_slice.ensures.items
    ∙ ap (λ (t : List ℕ). c.turn.new.page.items ++ t) (c.deref.ensures.value ∙ c.in_ok-turn_to_next.ensures.head ∙ ap (counted (codes "packet ")) number) in
    let put = line_put c.turn.new.page.items _ _ (place + 1) outcome named c.in_ok-push.ensures.text in
    record {
      text = page_line _ _ _ before _ _ _ (packet_line (place + 1) outcome) _ c.loop-place.invariant.text c.in_ok-turn.ensures.text put
          (line_more line 1 c.args.page.now.items before _ c.args.outcomes.now place (place + 1) outcome (omega arith) (omega arith)
          (get_or_from_slice_get c.args.outcomes.now place outcome outcome c.at.ensures) refl refl);
      head = c.in_ok-turn_to_next.ensures.head;
      number = number;
      told = c.in_ok-push.ensures.told;
      later = omega (arith, c.turn.ensures.counts.later, c.loop-place.invariant.later);
    }

pub returns-clause-text : goal.returns-clause-text
returns-clause-text g c =
    let shown : List (ℕ × Outcome) → List ℕ = λ es. c.args.page.now.items ++ joined (map line es) in
    subst (λ (es : List (ℕ × Outcome)). IsPaged (g.O.Sink.written c.args.out.now) (g.O.Sink.written c.loop-place.out) (shown es) c.loop-place.page.items)
    (all_numbered 1 c.args.outcomes.now c.loop-place.place (omega arith)) c.loop-place.invariant.text

pub returns-clause-up_to : goal.returns-clause-up_to
returns-clause-up_to g c =
    let all = enumerate_from 1 c.args.outcomes.now in
    part_front _ _ c.args.page.now.items _ _ _ (lines_parted line all c.loop-place.place) _ c.loop-place.invariant.text
