use Rattle.std.proofs.Common.{◌≡◌, ◌∙◌, List, refl, sym, ap, subst}
use Rattle.store_history.specs.declared.history.Commit.{Commit}
use Rattle.tc_base.specs.declared.hook.Hook.TheVariants.{Ingress, Egress}
use Rattle.pin_store.specs.Sheets.{base_of}
use Rattle.pin_store.specs.Calls.{sheet_of, seen_by}
use Rattle.filter_state.specs.declared.edit.Edit.{Edit}
use Rattle.miniq_pair.specs.Pairs.{other_place}
use Rattle.desk_pools.specs.Pools.{ArePools}
use Rattle.desk_actions.specs.Places.{AreHere}
use Rattle.desk_parts.specs.Desk.{IsDesk, hook_shape}
use Rattle.desk_parts.proofs.Opening.{whole_opens, masks_open, tables_open}
use Rattle.desk_parts.proofs.parts.Parts.new.Goals as goal

pub returns-clause-desk : goal.returns-clause-desk
returns-clause-desk c = let place = c.args.writer.place in let h = seen_by place in let b = base_of (sheet_of place) in
    let first = c.requires.first in let pools = c.in_ok-pools.ensures in let tables = c.in_ok-tables.ensures in record {
      shaped = c.requires.shape;
      whole = whole_opens h b 0 c.new-2.result first.0 first.1 refl c.new-2.ensures;
      pools = subst (λ n. ArePools c.in_ok-pools.pools h n) (sym first.1) (subst (λ (k : List (Commit Edit)). ArePools c.in_ok-pools.pools k 0) (sym first.0) pools.pools);
      sized = pools.sizes;
      actions = subst (λ (k : List (Commit Edit)). AreHere c.in_ok-actions.actions k) (sym first.0) c.in_ok-actions.ensures;
      masks = masks_open c.in_ok-masks.masks hook_shape (sheet_of place).cells h first.0 c.in_ok-masks.ensures.empty c.in_ok-masks.ensures.kept;
      ingress = tables_open Ingress c.in_ok-tables.tables.ingress h first.0 tables.ingress.0 tables.ingress.2;
      egress = tables_open Egress c.in_ok-tables.tables.egress h first.0 tables.egress.0 tables.egress.2;
      idle_ingress = pools.places.0 ∙ ap other_place (sym tables.ingress.1);
      idle_egress = pools.places.1 ∙ ap other_place (sym tables.egress.1);
    }
