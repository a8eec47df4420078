use Rattle.std.proofs.Common.{ℕ, List, subst}
use Rattle.tc_base.specs.Outside.{AppendsUpTo}
use Rattle.tool_run.proofs.ReportTracing.{kept_of, told_traced, trace_written, told_line, line_written}
use Rattle.tool_run.proofs.run_trace_report.tell.Goals as goal

pub trace_report-requires-clause-lawful : goal.trace_report-requires-clause-lawful
trace_report-requires-clause-lawful g c =
    kept_of c.args.files.now.job c.args.files.now.report.items c.deref.result.now c.args.replayed.now _
    c.in-Lawful.is c.deref.ensures.value c.requires.replayed

pub returns-in-Lawful-clause-all : goal.returns-in-Lawful-clause-all
returns-in-Lawful-clause-all g c =
    trace_written c.trace_report.result (g.O.Sink.written c.args.out.now)
    (g.O.Sink.written c.trace_report.new.out) c.args.files.now.job c.args.files.now.report.items
    c.deref.result.now c.args.replayed.now _ c.in-Lawful.is c.deref.ensures.value c.trace_report.ensures.all

pub returns-in-Lawful-clause-up_to : goal.returns-in-Lawful-clause-up_to
returns-in-Lawful-clause-up_to g c = λ text told. c.trace_report.ensures.up_to text
    (told_traced c.args.files.now.job c.args.files.now.report.items c.deref.result.now c.args.replayed.now _
    c.in-Lawful.is c.deref.ensures.value text told)

pub returns-in-Unlawful-clause-all : goal.returns-in-Unlawful-clause-all
returns-in-Unlawful-clause-all g c =
    line_written c.write_check.result (g.O.Sink.written c.args.out.now)
    (g.O.Sink.written c.write_check.new.out) c.args.files.now.job c.args.files.now.report.items
    c.args.replayed.now _ _ c.judgment.result c.in-Unlawful.is c.judgment.ensures c.write_check.ensures.all

pub returns-in-Unlawful-clause-up_to : goal.returns-in-Unlawful-clause-up_to
returns-in-Unlawful-clause-up_to g c = λ text told. subst
    (λ (t : List ℕ). AppendsUpTo (g.O.Sink.written c.args.out.now) (g.O.Sink.written c.write_check.new.out) t)
    (told_line c.args.files.now.job c.args.files.now.report.items c.args.replayed.now _ _ c.judgment.result
    c.in-Unlawful.is c.judgment.ensures text told) c.write_check.ensures.up_to
