use Rattle.std.proofs.Common.{Err, refl, ap}
use Rattle.tc_words.specs.Lines.{words_of}
use Rattle.line_range_laws.proofs.Lines.{says}
use Rattle.round_terms.proofs.Making.{nothing_behind}
use Rattle.job_rounds.proofs.OfRoundState.Answering.{met_accepted, met_refused, same_journal}
use Rattle.tc_base.specs.Memory.{no_memory}
use Rattle.job_rounds.proofs.round_state.meeting.meet_line.Goals as goal

pub apply_named-requires-clause-line : goal.apply_named-requires-clause-line
apply_named-requires-clause-line c = says (words_of c.args.text.now) c.in-Ok.edit c.in-Ok.ensures.line

pub returns-in-Ok-apply_named-clause-met : goal.returns-in-Ok-apply_named-clause-met
returns-in-Ok-apply_named-clause-met c =
    met_accepted c.args.desk.now c.apply_named.new.desk (words_of c.args.text.now) c.in-Ok.edit c.in-Ok-apply_named.done c.in-Ok.ensures.line (c.in-Ok-apply_named.ensures.applied c.in-Ok-apply_named.done refl)

pub returns-in-Err-Refused : goal.returns-in-Err-Refused
returns-in-Err-Refused c =
    let r = c.in-Err-Refused in
    let refused = r.ensures.refused r.refusal (ap (λ f. Err f) r.field-0-is) in
    let same = same_journal c.args.desk.now c.apply_named.new.desk refused.place in
    record {
      store = c.apply_named.ensures.store;
      met = met_refused c.args.desk.now c.apply_named.new.desk (words_of c.args.text.now) c.in-Ok.edit r.refusal c.in-Ok.ensures.line (c.in_default.not-NoMemory no_memory) refused;
      named = nothing_behind _ _ _ _ same (ap (λ v. v.items) r.ensures.unnamed);
      not_met = tt;
      journal = tt;
      unnamed = tt;
    }

pub returns-clause-not_met : goal.returns-clause-not_met
returns-clause-not_met c =
    let h = c.in-Err-Held in
    (c.in-Ok.edit, c.in-Ok.ensures.line, h.ensures.held h.pool h.reader h.pin h.needed h.free (ap (λ f. Err f) h.field-0-is))

pub returns-clause-journal : goal.returns-clause-journal
returns-clause-journal c =
    let h = c.in-Err-Held in
    (h.ensures.held h.pool h.reader h.pin h.needed h.free (ap (λ f. Err f) h.field-0-is)).journal_is
