use Rattle.std.proofs.Common.{List, ap, subst, arith}
use Rattle.std.proofs.lemmas.List.{take_all}
use Rattle.visit_room.specs.declared.names.MaskName.{MaskName}
use Rattle.shared_hook.specs.OfDeskEdits.Parting.{names_in, gone_of, HaveLeft, IsParting, MayAllPart}
use Rattle.shared_hook.proofs.OfDeskEdits.Partings.{all_parting, all_left}
use Rattle.shared_hook.proofs.desk_edits.leaving.part_with_gone.Goals as goal

-- src/leaving.rt:93:5
pub loop-place-preserved : goal.loop-place-preserved
loop-place-preserved c = let masks0 = c.args.masks.now in let pools0 = c.args.pools.now in let tables = c.args.tables.now in let old = c.args.old.now in let inv = c.loop-place.invariant in
    let masks = c.loop-place.masks in let pools = c.loop-place.pools in let masks2 = c.part_with_some.new.masks in let pools2 = c.part_with_some.new.pools in let told = c.part_with_some.ensures in record {
      parting = all_parting masks0 pools0 tables old c.loop-place.place c.index-old-place.result c.loop-place-test.true masks pools inv.parting inv.left masks2 pools2
          (subst (λ (names : List MaskName). (m : MayAllPart masks pools tables names) → IsParting masks2 pools2 m.shape m.cells m.h m.b m.count tables m.rest) c.items.ensures.same told.parting);
      left = all_left masks0 pools0 tables old c.loop-place.place c.index-old-place.result c.loop-place-test.true masks pools inv.parting inv.left masks2 pools2
          (subst (λ (names : List MaskName). (m : MayAllPart masks pools tables names) → HaveLeft m.count pools pools2 (gone_of tables names)) c.items.ensures.same told.left);
      sized = told.sized;
    }

-- src/leaving.rt:78:1
pub returns-clause-left : goal.returns-clause-left
returns-clause-left c = λ at. let end = c.loop-place-test.false in let inv = c.loop-place.invariant in
    subst (HaveLeft at.count c.args.pools.now c.loop-place.pools) (ap (gone_of c.args.tables.now) (ap names_in (take_all c.loop-place.place c.args.old.now (omega (arith, end))))) (inv.left at)
