use Rattle.std.proofs.Common.{◌∙◌, inl, sym, ap, subst}
use Rattle.filter_state.specs.declared.edit.Edit.{Edit as AnEdit}
use Rattle.filter_state.specs.declared.edit.Edit.TheVariants as edits
use Rattle.hook_store_law.specs.OfEdits.Premises.{IsAccepted}
use Rattle.hook_store_law.proofs.OfEdits.OneMask.{there_after}
use Rattle.desk_actions.specs.OfLedgers.Kept.{commits, base}
use Rattle.desk_parts.specs.OfWays.Ways.{IsWay}
use Rattle.desk_parts.proofs.ways.seeking.way_of.Goals as goal

pub way_out-requires-clause-there : goal.way_out-requires-clause-there
way_out-requires-clause-there c =
    let ledger = c.args.parts.now.ledger in
    let f = c.in-FilterDel in
    let a = c.requires.accepted in
    let is = f.is ∙ ap (edits.FilterDel f.hook f.protocol f.chain f.pref) c.in-Some.is in
    there_after (commits ledger) (base ledger) f.hook f.protocol f.chain f.pref c.in-Some.handle a.0 a.1 (subst (λ (y : AnEdit). IsAccepted (commits ledger) (base ledger) y a.0 a.1) is a.2)

pub returns-in-FilterAdd-clause-way : goal.returns-in-FilterAdd-clause-way
returns-in-FilterAdd-clause-way c = c.way_in.ensures.way c.args.edit.now (inl c.in-FilterAdd.is)

pub returns-in-Some-clause-way : goal.returns-in-Some-clause-way
returns-in-Some-clause-way c =
    let f = c.in-FilterDel in
    let is = f.is ∙ ap (edits.FilterDel f.hook f.protocol f.chain f.pref) c.in-Some.is in
    subst (λ (y : AnEdit). IsWay (commits c.args.parts.now.ledger) y c.way_out.result) (sym is) (c.way_out.ensures.way f.protocol)
