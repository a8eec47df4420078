use Rattle.std.proofs.Common.{◌≡◌, ◌∙◌, ℕ, List, ◌++◌, append_assoc, codes, sym, ap, subst}
use Rattle.std.proofs.lemmas.Result.{on_ok_weaker}
use Rattle.tc_base.specs.Outside.{Appended, AppendsUpTo}
use Rattle.walk_texts.specs.Texts.{joined, summary_line}
use Rattle.run_report.specs.declared.record.RunRecord.{RunRecord}
use Rattle.run_report.specs.Counts.{summary_of}
use Rattle.run_report.specs.Reports.{rounds_lines, counter_lines, report_text}
use Rattle.run_report.specs.Pages.{IsPaged}
use Rattle.run_report.proofs.Pages.{page_put, page_on, page_up_to, page_all, report_in_steps, step_up_to, step_front}
use Rattle.run_report.proofs.reporting.write_report.Given as given
use Rattle.run_report.proofs.reporting.write_report.Goals as goal
use Rattle.run_report.proofs.reporting.write_report.Goals.{In_ok-write_counters, In_ok-push_text-2}

abbrev head : List ℕ
head = codes "clsact report 1\n"

abbrev end : List ℕ
end = codes "end\n"

-- the lines up to the counters
abbrev counted_text : RunRecord → List ℕ
counted_text run = (head ++ joined (rounds_lines run.rounds)) ++ joined (counter_lines run.counters)

in_steps : (run : RunRecord) → (counted_text run ++ summary_line (summary_of run.rounds)) ++ end ≡ report_text run
in_steps run = report_in_steps head (rounds_lines run.rounds) (counter_lines run.counters) (summary_line (summary_of run.rounds)) end

-- the rounds and the counters were paged
counted : (g : given.Over) (c : In_ok-write_counters g)
    → IsPaged (g.O.Sink.written c.args.out.now) (g.O.Sink.written c.write_counters.new.out) (counted_text c.args.run.now) c.write_counters.new.page.items
counted g c =
    let first : c.push_text.new.out.items ≡ head = c.in_ok-push_text.ensures ∙ ap (λ (t : List ℕ). t ++ head) c.new-page.ensures.items in
    page_on _ _ _ _ _ _ _ (rw (first, c.as_slice.ensures) at c.in_ok-write_rounds.ensures.text) (rw c.as_slice-2.ensures at c.in_ok-write_counters.ensures.text)

-- the last page
last_page : (g : given.Over) (c : In_ok-push_text-2 g)
    → c.push_text-2.new.out.items ≡ (c.write_counters.new.page.items ++ summary_line (summary_of c.args.run.now.rounds)) ++ end
last_page g c =
    c.in_ok-push_text-2.ensures
    ∙ ap (λ (t : List ℕ). t ++ end)
    (c.in_ok-push_summary.ensures ∙ ap (λ s. c.write_counters.new.page.items ++ summary_line s) (c.summary_of.ensures.value ∙ ap summary_of c.as_slice-3.ensures))

pub returns-in_err-write_rounds-clause-up_to : goal.returns-in_err-write_rounds-clause-up_to
returns-in_err-write_rounds-clause-up_to g c =
    let run = c.args.run.now in
    let first : c.push_text.new.out.items ≡ head = c.in_ok-push_text.ensures ∙ ap (λ (t : List ℕ). t ++ head) c.new-page.ensures.items in
    step_up_to _ _ _ (joined (counter_lines run.counters)) (summary_line (summary_of run.rounds) ++ end) _
    (sym (append_assoc (counted_text run) (summary_line (summary_of run.rounds)) end) ∙ in_steps run)
    (rw (first, c.as_slice.ensures) at c.write_rounds.ensures.up_to)

pub returns-in_err-write_counters-clause-up_to : goal.returns-in_err-write_counters-clause-up_to
returns-in_err-write_counters-clause-up_to g c =
    let run = c.args.run.now in
    let first : c.push_text.new.out.items ≡ head = c.in_ok-push_text.ensures ∙ ap (λ (t : List ℕ). t ++ head) c.new-page.ensures.items in
    step_up_to _ _ _ (summary_line (summary_of run.rounds)) end _ (in_steps run)
    (page_up_to _ _ _ _ _ (page_put _ _ _ _ _ (rw (first, c.as_slice.ensures) at c.in_ok-write_rounds.ensures.text)) (rw c.as_slice-2.ensures at c.write_counters.ensures.up_to))

pub returns-in_err-push_summary-clause-up_to : goal.returns-in_err-push_summary-clause-up_to
returns-in_err-push_summary-clause-up_to g c =
    let at = goal.at.returns-in_err-push_summary-clause-up_to g c in
    let run = c.args.run.now in
    step_front _ _ _ (summary_line (summary_of run.rounds)) end _ (in_steps run) _ (counted g at.In_ok-write_counters)

pub returns-in_err-push_text-2-clause-up_to : goal.returns-in_err-push_text-2-clause-up_to
returns-in_err-push_text-2-clause-up_to g c =
    let at = goal.at.returns-in_err-push_text-2-clause-up_to g c in
    let run = c.args.run.now in
    step_front _ _ _ (summary_line (summary_of run.rounds)) end _ (in_steps run) _ (counted g at.In_ok-write_counters)

pub returns-clause-all : goal.returns-clause-all
returns-clause-all g c =
    let at = goal.at.returns-clause-all g c in
    let run = c.args.run.now in
    let last = c.deref.ensures.value ∙ last_page g at.In_ok-push_text-2 in
    on_ok_weaker c.write_all.result
    (λ all.
    subst (Appended (g.O.Sink.written c.args.out.now) (g.O.Sink.written c.write_all.new.self)) (in_steps run)
    (page_all _ _ _ _ _ (page_put _ _ _ _ end (page_put _ _ _ _ (summary_line (summary_of run.rounds)) (counted g at.In_ok-write_counters))) (rw last at all)))
    c.write_all.ensures.all

pub returns-clause-up_to : goal.returns-clause-up_to
returns-clause-up_to g c =
    let at = goal.at.returns-clause-up_to g c in
    let run = c.args.run.now in
    let last = c.deref.ensures.value ∙ last_page g at.In_ok-push_text-2 in
    subst (AppendsUpTo (g.O.Sink.written c.args.out.now) (g.O.Sink.written c.write_all.new.self)) (in_steps run)
    (page_up_to _ _ _ _ _ (page_put _ _ _ _ end (page_put _ _ _ _ (summary_line (summary_of run.rounds)) (counted g at.In_ok-write_counters)))
    (rw last at c.write_all.ensures.up_to))
