use Rattle.std.proofs.Common.{refl, false}
use Rattle.filter_lists.proofs.Start.{bare_kept, bare_spells}
use Rattle.filter_lists.proofs.lists.Lists.new.Goals as goal

pub invariant_of-result : goal.invariant_of-result
invariant_of-result c =
    bare_kept _ (record {
      hooked = refl;
      ingress = c.new.ensures;
      egress = c.new-2.ensures;
      entries = c.new-3.ensures.entries;
      made = c.new-3.ensures.made;
      tables_made = refl;
      masks_made = refl;
      filters = refl;
    })

pub returns : goal.returns
returns c =
    bare_spells (record { hooked = false; ingress = c.new.result; egress = c.new-2.result; actions = c.new-3.result; tables_made = 0; masks_made = 0; filters = 0; alloc = c.args.alloc }) (record {
      hooked = refl;
      ingress = c.new.ensures;
      egress = c.new-2.ensures;
      entries = c.new-3.ensures.entries;
      made = c.new-3.ensures.made;
      tables_made = refl;
      masks_made = refl;
      filters = refl;
    })
