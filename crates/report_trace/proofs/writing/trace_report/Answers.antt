use Rattle.std.proofs.Common.{◌∙◌, ◌++◌, length, sym, ap, subst}
use Rattle.tc_base.specs.Outside.{AppendsUpTo}
use Rattle.walk_texts.specs.Texts.{joined}
use Rattle.batch_trace.specs.Passed.{edits_of}
use Rattle.walk_trace.specs.Tallies.{count_at}
use Rattle.report_trace.specs.Traced.{trace_text, IsTraceOf}
use Rattle.report_trace.proofs.OneTrace.{lines_cut}
use Rattle.report_trace.proofs.Plain.{up_to_now, up_to_more, wrote_more}
use Rattle.report_trace.proofs.Kept.{each_placed, is_known, fit_known, known_told}
use Rattle.report_trace.proofs.Whole.{all_rounds, rounds_left, title_up_to, last_lines, decided_text, decided_is, begins, behind_rounds, piece_is, last_is, all_wrote, all_texts, last_up_to}
use Rattle.report_trace.proofs.writing.trace_report.Goals as goal

pub of-requires-clause-places : goal.of-requires-clause-places
of-requires-clause-places g c =
    let each = each_placed c.args.job.now c.args.report.now c.args.replay.now c.requires.lawful in
    ap length c.deref-2.ensures.value ∙ each ∙ sym (ap length c.deref.ensures.value)

pub new-known-requires : goal.new-known-requires
new-known-requires g c =
    is_known c.args.job.now c.args.report.now c.args.replay.now c.requires.lawful c.in_ok-origins.origins c.deref-2.result.now c.deref.result.now c.deref-2.ensures.value c.deref.ensures.value c.in_ok-origins.ensures

pub cut_first-requires : goal.cut_first-requires
cut_first-requires g c =
    (_, _, lines_cut c.args.report.now c.requires.lawful.run c.requires.lawful.reported)

pub returns-in_err-write_all-clause-up_to : goal.returns-in_err-write_all-clause-up_to
returns-in_err-write_all-clause-up_to g c =
    let r = c.requires.lawful in
    let job = c.args.job.now in
    let report = c.args.report.now in
    let entries = c.new-known.result in
    let a = g.O.Sink.written c.args.out.now in
    let b = g.O.Sink.written c.write_all.new.self in
    let title = c.cut_first.result.0.now in
    let left = c.cut_first.result.1.now in
    let whole = trace_text job r.run entries in
    let told = known_told job report c.args.replay.now r entries c.new-known.ensures c.requires.loaded in
    λ text traced. subst (AppendsUpTo a b) (told text traced) (title_up_to job report r.run entries r.reported title left c.cut_first.ensures a b c.write_all.ensures.up_to)

pub write_rounds-requires-clause-stand : goal.write_rounds-requires-clause-stand
write_rounds-requires-clause-stand g c =
    c.in_ok-walkers.ensures.stand (edits_of c.new-known.result)

pub write_rounds-requires-clause-rounds : goal.write_rounds-requires-clause-rounds
write_rounds-requires-clause-rounds g c =
    let r = c.requires.lawful in
    let job = c.args.job.now in
    let report = c.args.report.now in
    let entries = c.new-known.result in
    let a = g.O.Sink.written c.args.out.now in
    let b = g.O.Sink.written c.write_all.new.self in
    let title = c.cut_first.result.0.now in
    let left = c.cut_first.result.1.now in
    let workers = length c.in_ok-walkers.walkers.items in
    let fit = fit_known job report c.args.replay.now r entries c.new-known.ensures workers c.in_ok-walkers.ensures.many c.requires.loaded in
    let all = all_rounds a job r.run entries in
    let are = rounds_left job report r.run entries r.reported title left c.cut_first.ensures a b workers fit c.in_ok-write_all.ensures.all in
    (all, are)

pub returns-in_err-behind-clause-up_to : goal.returns-in_err-behind-clause-up_to
returns-in_err-behind-clause-up_to g c =
    let r = c.requires.lawful in
    let job = c.args.job.now in
    let report = c.args.report.now in
    let entries = c.new-known.result in
    let a = g.O.Sink.written c.args.out.now in
    let b = g.O.Sink.written c.write_all.new.self in
    let title = c.cut_first.result.0.now in
    let left = c.cut_first.result.1.now in
    let whole = trace_text job r.run entries in
    let told = known_told job report c.args.replay.now r entries c.new-known.ensures c.requires.loaded in
    let workers = length c.in_ok-walkers.walkers.items in
    let fit = fit_known job report c.args.replay.now r entries c.new-known.ensures workers c.in_ok-walkers.ensures.many c.requires.loaded in
    let all = all_rounds a job r.run entries in
    let are = rounds_left job report r.run entries r.reported title left c.cut_first.ensures a b workers fit c.in_ok-write_all.ensures.all in
    let d = g.O.Sink.written c.write_rounds.new.out in
    λ text traced. subst (AppendsUpTo a d) (told text traced) (c.write_rounds.ensures.up_to all are)

pub returns-in_err-closing-clause-up_to : goal.returns-in_err-closing-clause-up_to
returns-in_err-closing-clause-up_to g c =
    let r = c.requires.lawful in
    let job = c.args.job.now in
    let report = c.args.report.now in
    let entries = c.new-known.result in
    let a = g.O.Sink.written c.args.out.now in
    let b = g.O.Sink.written c.write_all.new.self in
    let title = c.cut_first.result.0.now in
    let left = c.cut_first.result.1.now in
    let whole = trace_text job r.run entries in
    let told = known_told job report c.args.replay.now r entries c.new-known.ensures c.requires.loaded in
    let workers = length c.in_ok-walkers.walkers.items in
    let fit = fit_known job report c.args.replay.now r entries c.new-known.ensures workers c.in_ok-walkers.ensures.many c.requires.loaded in
    let all = all_rounds a job r.run entries in
    let are = rounds_left job report r.run entries r.reported title left c.cut_first.ensures a b workers fit c.in_ok-write_all.ensures.all in
    let d = g.O.Sink.written c.write_rounds.new.out in
    let first = begins r.run in
    let rest = decided_text job r.run entries ++ joined (last_lines r.run) in
    let behind = behind_rounds r.run a d whole c.in_ok-behind.behind.now rest (c.in_ok-behind.ensures.behind all are) in
    let e = g.O.Sink.written c.put_plain.new.out in
    λ text traced. subst (AppendsUpTo a e) (told text traced) (c.put_plain.ensures.up_to a whole first.line first.more rest first.told behind)

pub returns-in_err-decided-clause-up_to : goal.returns-in_err-decided-clause-up_to
returns-in_err-decided-clause-up_to g c =
    let r = c.requires.lawful in
    let job = c.args.job.now in
    let report = c.args.report.now in
    let entries = c.new-known.result in
    let a = g.O.Sink.written c.args.out.now in
    let b = g.O.Sink.written c.write_all.new.self in
    let title = c.cut_first.result.0.now in
    let left = c.cut_first.result.1.now in
    let whole = trace_text job r.run entries in
    let told = known_told job report c.args.replay.now r entries c.new-known.ensures c.requires.loaded in
    let workers = length c.in_ok-walkers.walkers.items in
    let fit = fit_known job report c.args.replay.now r entries c.new-known.ensures workers c.in_ok-walkers.ensures.many c.requires.loaded in
    let all = all_rounds a job r.run entries in
    let are = rounds_left job report r.run entries r.reported title left c.cut_first.ensures a b workers fit c.in_ok-write_all.ensures.all in
    let d = g.O.Sink.written c.write_rounds.new.out in
    let first = begins r.run in
    let rest = decided_text job r.run entries ++ joined (last_lines r.run) in
    let behind = behind_rounds r.run a d whole c.in_ok-behind.behind.now rest (c.in_ok-behind.ensures.behind all are) in
    let e = g.O.Sink.written c.put_plain.new.out in
    let closed = c.in_ok-closing.ensures.written a whole first.line first.more rest first.told behind in
    λ text traced. subst (AppendsUpTo a e) (told text traced) (up_to_now a e whole rest closed.1)

pub returns-in_err-put-clause-up_to : goal.returns-in_err-put-clause-up_to
returns-in_err-put-clause-up_to g c =
    let r = c.requires.lawful in
    let job = c.args.job.now in
    let report = c.args.report.now in
    let entries = c.new-known.result in
    let a = g.O.Sink.written c.args.out.now in
    let b = g.O.Sink.written c.write_all.new.self in
    let title = c.cut_first.result.0.now in
    let left = c.cut_first.result.1.now in
    let whole = trace_text job r.run entries in
    let told = known_told job report c.args.replay.now r entries c.new-known.ensures c.requires.loaded in
    let workers = length c.in_ok-walkers.walkers.items in
    let fit = fit_known job report c.args.replay.now r entries c.new-known.ensures workers c.in_ok-walkers.ensures.many c.requires.loaded in
    let all = all_rounds a job r.run entries in
    let are = rounds_left job report r.run entries r.reported title left c.cut_first.ensures a b workers fit c.in_ok-write_all.ensures.all in
    let d = g.O.Sink.written c.write_rounds.new.out in
    let first = begins r.run in
    let rest = decided_text job r.run entries ++ joined (last_lines r.run) in
    let behind = behind_rounds r.run a d whole c.in_ok-behind.behind.now rest (c.in_ok-behind.ensures.behind all are) in
    let e = g.O.Sink.written c.put_plain.new.out in
    let closed = c.in_ok-closing.ensures.written a whole first.line first.more rest first.told behind in
    let f = g.O.Sink.written c.put.new.out in
    let piece = c.deref-3.result.now in
    let same = c.deref-3.ensures.value ∙ decided_is job r.run entries (count_at c.write_rounds.new.tally) c.brought.result.now c.in_ok-decided.decided.items (c.in_ok-behind.ensures.tally all are) c.brought.ensures c.in_ok-decided.ensures in
    let next = piece_is a e whole piece (decided_text job r.run entries) (joined (last_lines r.run)) same closed.1 in
    λ text traced. subst (AppendsUpTo a f) (told text traced) (up_to_more a e f whole piece (joined (last_lines r.run)) next c.put.ensures.up_to)

pub returns-clause-all : goal.returns-clause-all
returns-clause-all g c =
    let r = c.requires.lawful in
    let job = c.args.job.now in
    let report = c.args.report.now in
    let entries = c.new-known.result in
    let a = g.O.Sink.written c.args.out.now in
    let b = g.O.Sink.written c.write_all.new.self in
    let title = c.cut_first.result.0.now in
    let left = c.cut_first.result.1.now in
    let whole = trace_text job r.run entries in
    let told = known_told job report c.args.replay.now r entries c.new-known.ensures c.requires.loaded in
    let workers = length c.in_ok-walkers.walkers.items in
    let fit = fit_known job report c.args.replay.now r entries c.new-known.ensures workers c.in_ok-walkers.ensures.many c.requires.loaded in
    let all = all_rounds a job r.run entries in
    let are = rounds_left job report r.run entries r.reported title left c.cut_first.ensures a b workers fit c.in_ok-write_all.ensures.all in
    let d = g.O.Sink.written c.write_rounds.new.out in
    let first = begins r.run in
    let rest = decided_text job r.run entries ++ joined (last_lines r.run) in
    let behind = behind_rounds r.run a d whole c.in_ok-behind.behind.now rest (c.in_ok-behind.ensures.behind all are) in
    let e = g.O.Sink.written c.put_plain.new.out in
    let closed = c.in_ok-closing.ensures.written a whole first.line first.more rest first.told behind in
    let f = g.O.Sink.written c.put.new.out in
    let piece = c.deref-3.result.now in
    let same = c.deref-3.ensures.value ∙ decided_is job r.run entries (count_at c.write_rounds.new.tally) c.brought.result.now c.in_ok-decided.decided.items (c.in_ok-behind.ensures.tally all are) c.brought.ensures c.in_ok-decided.ensures in
    let next = piece_is a e whole piece (decided_text job r.run entries) (joined (last_lines r.run)) same closed.1 in
    let last = last_is r.run a f whole c.in_ok-closing.closing.now closed.0 (wrote_more a e f whole piece (joined (last_lines r.run)) next c.in_ok-put.ensures.all) in
    let h = g.O.Sink.written c.put-2.new.out in
    all_texts c.put-2.result a h whole (λ text. IsTraceOf job report text) told (all_wrote c.put-2.result a f h whole c.in_ok-closing.closing.now last c.put-2.ensures.all)

pub returns-clause-up_to : goal.returns-clause-up_to
returns-clause-up_to g c =
    let r = c.requires.lawful in
    let job = c.args.job.now in
    let report = c.args.report.now in
    let entries = c.new-known.result in
    let a = g.O.Sink.written c.args.out.now in
    let b = g.O.Sink.written c.write_all.new.self in
    let title = c.cut_first.result.0.now in
    let left = c.cut_first.result.1.now in
    let whole = trace_text job r.run entries in
    let told = known_told job report c.args.replay.now r entries c.new-known.ensures c.requires.loaded in
    let workers = length c.in_ok-walkers.walkers.items in
    let fit = fit_known job report c.args.replay.now r entries c.new-known.ensures workers c.in_ok-walkers.ensures.many c.requires.loaded in
    let all = all_rounds a job r.run entries in
    let are = rounds_left job report r.run entries r.reported title left c.cut_first.ensures a b workers fit c.in_ok-write_all.ensures.all in
    let d = g.O.Sink.written c.write_rounds.new.out in
    let first = begins r.run in
    let rest = decided_text job r.run entries ++ joined (last_lines r.run) in
    let behind = behind_rounds r.run a d whole c.in_ok-behind.behind.now rest (c.in_ok-behind.ensures.behind all are) in
    let e = g.O.Sink.written c.put_plain.new.out in
    let closed = c.in_ok-closing.ensures.written a whole first.line first.more rest first.told behind in
    let f = g.O.Sink.written c.put.new.out in
    let piece = c.deref-3.result.now in
    let same = c.deref-3.ensures.value ∙ decided_is job r.run entries (count_at c.write_rounds.new.tally) c.brought.result.now c.in_ok-decided.decided.items (c.in_ok-behind.ensures.tally all are) c.brought.ensures c.in_ok-decided.ensures in
    let next = piece_is a e whole piece (decided_text job r.run entries) (joined (last_lines r.run)) same closed.1 in
    let last = last_is r.run a f whole c.in_ok-closing.closing.now closed.0 (wrote_more a e f whole piece (joined (last_lines r.run)) next c.in_ok-put.ensures.all) in
    let h = g.O.Sink.written c.put-2.new.out in
    λ text traced. subst (AppendsUpTo a h) (told text traced) (last_up_to a f h whole c.in_ok-closing.closing.now last c.put-2.ensures.up_to)
