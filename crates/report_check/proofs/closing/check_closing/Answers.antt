use Rattle.std.proofs.Common.{rules, ◌≡◌, ◌++◌, ◌∷◌, [], Bool, true, false, List, Ok, length, ap, sym, subst, arith}
use Rattle.batch_run.specs.declared.made_action.MadeAction.{MadeAction}
use Rattle.report_laws.specs.Stands.{closing, run_of}
use Rattle.report_check.specs.OfEvents.Cursors.{IsAt}
use Rattle.report_check.specs.Counting.{counted_lines}
use Rattle.report_check.proofs.LastLines.{end_lines, at_closing, at_end}
use Rattle.report_check.proofs.closing.check_closing.Goals as goal

pub returns-then-not-branch-clause-stuck : goal.returns-then-not-branch-clause-stuck
returns-then-not-branch-clause-stuck c = λ is loaded b.
    let p = c.args.progress.now in
    let no : c.in_ok-take_counters.field-0 ≡ false = search rules in
    let journal = p.replay.journal.items in
    c.in_ok-take_counters.ensures.stuck (ap (λ (t : Bool). Ok t) no) loaded (run_of b.its journal) journal (end_lines p) (omega arith)
    (subst (λ (made : List MadeAction). IsAt loaded c.args.report.now p.cursor (closing (run_of b.its journal) journal (counted_lines p.walkers.counts made ++ end_lines p))) (sym c.as_slice.ensures.value) (at_closing loaded c.args.report.now p b))

pub returns-clause-through : goal.returns-clause-through
returns-clause-through c = λ is loaded b.
    let p = c.args.progress.now in
    let yes : c.in_ok-take_counters.field-0 ≡ true = search rules in
    let journal = p.replay.journal.items in
    let run = run_of b.its journal in
    let long : c.len.result ≡ length journal = search rules in
    let behind = c.in_ok-take_counters.ensures.taken (ap (λ (t : Bool). Ok t) yes) loaded run journal (end_lines p)
    (subst (λ (made : List MadeAction). IsAt loaded c.args.report.now p.cursor (closing run journal (counted_lines p.walkers.counts made ++ end_lines p))) (sym c.as_slice.ensures.value) (at_closing loaded c.args.report.now p b)) in
    (run, b.placed, c.take_summary.ensures.taken is loaded run journal ((101 ∷ 110 ∷ 100 ∷ 10 ∷ []) ∷ []) (at_end loaded c.args.report.now p c.take_counters.new.cursor run journal c.len.result long behind))

pub returns-clause-stuck : goal.returns-clause-stuck
returns-clause-stuck c = λ is loaded b.
    let p = c.args.progress.now in
    let yes : c.in_ok-take_counters.field-0 ≡ true = search rules in
    let journal = p.replay.journal.items in
    let run = run_of b.its journal in
    let long : c.len.result ≡ length journal = search rules in
    let behind = c.in_ok-take_counters.ensures.taken (ap (λ (t : Bool). Ok t) yes) loaded run journal (end_lines p)
    (subst (λ (made : List MadeAction). IsAt loaded c.args.report.now p.cursor (closing run journal (counted_lines p.walkers.counts made ++ end_lines p))) (sym c.as_slice.ensures.value) (at_closing loaded c.args.report.now p b)) in
    c.take_summary.ensures.stuck is loaded run journal (101 ∷ 110 ∷ 100 ∷ 10 ∷ []) (at_end loaded c.args.report.now p c.take_counters.new.cursor run journal c.len.result long behind)
