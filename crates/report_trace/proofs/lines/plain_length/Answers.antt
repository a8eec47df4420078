use Rattle.std.proofs.Common.{◌≡◌, ◌∙◌, true, false, sym, arith}
use Rattle.report_trace.specs.Writing.{is_plain}
use Rattle.report_trace.proofs.Plain.{all_left, left_more, none_left, some_left}
use Rattle.report_trace.proofs.lines.plain_length.Goals as goal

pub loop-line-init : goal.loop-line-init
loop-line-init c = record {
  within = omega arith;
  going = λ plain line lines each last is. all_left c.args.bytes.now plain line lines each is;
}

pub loop-line-preserved : goal.loop-line-preserved
loop-line-preserved c =
    let next = c.in-Some.ensures.some in
    let yes : is_plain c.in-Some.line.now ≡ true = sym c.is_plain.ensures ∙ c.if-not-is_plain.false in
    record {
      within = next.within;
      going = λ plain line lines each last is.
          left_more c.args.bytes.now c.loop-line.length line lines last c.in-Some.line.now next plain yes (c.loop-line.invariant.going plain line lines each last is);
    }

pub returns-then-not-is_plain-clause-front : goal.returns-then-not-is_plain-clause-front
returns-then-not-is_plain-clause-front c = λ plain line lines each last is.
    let no : is_plain c.in-Some.line.now ≡ false = sym c.is_plain.ensures ∙ c.if-not-is_plain.true in
    none_left c.args.bytes.now c.loop-line.length line lines last c.in-Some.line.now c.in-Some.ensures.some plain no (c.loop-line.invariant.going plain line lines each last is)

pub returns-clause-front : goal.returns-clause-front
returns-clause-front c = λ plain line lines each last is.
    absurd (some_left c.args.bytes.now c.loop-line.length plain line lines (c.loop-line.invariant.going plain line lines each last is) c.in_default.ensures.none)
