use Rattle.std.proofs.Common.{◌≡◌, ◌∙◌, ℕ, List, length, sym, ap, ap₂, subst, arith}
use Rattle.tc_base.specs.Outside.{Appended, AppendsUpTo}
use Rattle.tc_base.proofs.Appends.{AppendsUpTo-nothing}
use Rattle.filter_state.specs.Journals.{IsLawful}
use Rattle.filter_origins.specs.Entries.{entries_of}
use Rattle.filter_origins.specs.Knows.{Knows}
use Rattle.change_fates.proofs.Whole.{is_known}
use Rattle.change_fates.proofs.TheChange.{text_is, refused_is, hitless_is, few_shaken}
use Rattle.change_fates.proofs.foreseeing.foresee.Goals as goal

pub returns-in_err-applied-clause-up_to : goal.returns-in_err-applied-clause-up_to
returns-in_err-applied-clause-up_to g c = λ changed is. AppendsUpTo-nothing _ _

pub of-requires-clause-places : goal.of-requires-clause-places
of-requires-clause-places g c =
    let keeps = c.in_ok-applied.ensures.2 in
    ap length c.deref-2.ensures.value ∙ keeps.each ∙ sym (ap length c.deref.ensures.value)

pub of-requires-clause-lawful : goal.of-requires-clause-lawful
of-requires-clause-lawful g c = subst IsLawful (sym c.deref.ensures.value) c.in_ok-applied.ensures.2.kept.remembers.lawful

pub of-requires-clause-few : goal.of-requires-clause-few
of-requires-clause-few g c =
    let keeps = c.in_ok-applied.ensures.2 in
    let few = keeps.few in
    let same = ap length c.deref.ensures.value in
    let long = ap length keeps.journal_is in
    omega (arith, few, same, long)

pub new-known-requires : goal.new-known-requires
new-known-requires g c =
    let it = c.in_ok-applied.ensures in
    is_known c.args.hook c.in_ok-applied.applied it.0 it.2 c.in_ok-origins.origins
    (subst (Knows c.in_ok-origins.origins) (ap₂ entries_of c.deref-2.ensures.value c.deref.ensures.value) c.in_ok-origins.ensures)

pub shaken-requires : goal.shaken-requires
shaken-requires g c = few_shaken c.new-known.result c.args.packets.now c.in_ok-counts.counts c.in_ok-counts.ensures.counts c.requires.few

pub returns-in_err-origins-clause-up_to : goal.returns-in_err-origins-clause-up_to
returns-in_err-origins-clause-up_to g c = λ changed is. AppendsUpTo-nothing _ _

pub returns-in_err-counts-clause-up_to : goal.returns-in_err-counts-clause-up_to
returns-in_err-counts-clause-up_to g c = λ changed is.
    let it = c.in_ok-applied.ensures in
    subst (AppendsUpTo (g.O.Sink.written c.args.out.now) (g.O.Sink.written c.write_told.new.out))
    (text_is c.args.batch.now c.args.change.now c.args.force c.args.hook c.in_ok-applied.applied it.0 changed it.1 is it.2 c.new-known.result c.args.packets.now c.new-known.ensures) c.write_told.ensures.up_to

pub returns-clause-all : goal.returns-clause-all
returns-clause-all g c = λ changed is.
    let it = c.in_ok-applied.ensures in
    subst (Appended (g.O.Sink.written c.args.out.now) (g.O.Sink.written c.write_told.new.out))
    (text_is c.args.batch.now c.args.change.now c.args.force c.args.hook c.in_ok-applied.applied it.0 changed it.1 is it.2 c.new-known.result c.args.packets.now c.new-known.ensures) c.in_ok-counts.ensures.all

pub returns-clause-up_to : goal.returns-clause-up_to
returns-clause-up_to g c = λ changed is.
    let it = c.in_ok-applied.ensures in
    subst (AppendsUpTo (g.O.Sink.written c.args.out.now) (g.O.Sink.written c.write_told.new.out))
    (text_is c.args.batch.now c.args.change.now c.args.force c.args.hook c.in_ok-applied.applied it.0 changed it.1 is it.2 c.new-known.result c.args.packets.now c.new-known.ensures) c.write_told.ensures.up_to

pub returns-clause-refused : goal.returns-clause-refused
returns-clause-refused g c = λ changed is.
    let it = c.in_ok-applied.ensures in
    refused_is c.args.batch.now c.args.change.now c.args.force c.args.hook c.in_ok-applied.applied it.0 changed it.1 is it.2

pub returns-clause-hitless : goal.returns-clause-hitless
returns-clause-hitless g c = λ changed is.
    let it = c.in_ok-applied.ensures in
    hitless_is c.args.batch.now c.args.change.now c.args.force c.args.hook c.in_ok-applied.applied it.0 changed it.1 is it.2 c.new-known.result c.args.packets.now c.in_ok-counts.counts c.shaken.result c.new-known.ensures
    c.in_ok-counts.ensures.counts c.shaken.ensures
