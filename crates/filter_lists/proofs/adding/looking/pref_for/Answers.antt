use Rattle.std.proofs.Common.{◌∙◌}
use Rattle.filter_lists.proofs.OfAdding.Asking.{pref_is}
use Rattle.filter_lists.proofs.adding.looking.pref_for.Goals as goal

pub returns-in-None : goal.returns-in-None
returns-in-None c =
    c.pref_below.ensures
    ∙ pref_is c.args.kept.now c.args.line.now.hook c.args.line.now.chain c.args.line.now.pref c.lowest_pref.result c.tables_of.result.now c.requires c.tables_of.ensures c.lowest_pref.ensures c.in-None.is
