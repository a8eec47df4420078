use Rattle.std.proofs.Common.{ℕ, List, refl, sym, subst}
use Rattle.tc_base.specs.declared.hook.Hook.TheVariants as hooks
use Rattle.filter_state.specs.Sound.{Each}
use Rattle.visit_room.specs.declared.names.MaskName.{MaskName}
use Rattle.visit_room.specs.declared.names.ActionName.{ActionName}
use Rattle.visit_room.specs.declared.table_head.TableHead.{TableHead}
use Rattle.walk_rules.specs.Questions.{heads_of}
use Rattle.walk_rules.specs.Steps.{Standing}
use Rattle.walk_steps.specs.Told.{MasksKnown}
use Rattle.walk_steps.specs.Walking.{IsOnWay}
use Rattle.hook_reader.specs.Known.{KnowsMask, KnowsAction}
use Rattle.hook_speed.proofs.walking.visit_all.Goals as goal

pub loop-init : goal.loop-init
loop-init c = let begun = c.begin.ensures in let reader = c.args.reader.now in (
  c.requires.store.0,
  c.requires.inside,
  refl,
  subst (λ (st : Standing). IsOnWay st) (sym begun.standing) (heads_of hooks.Ingress, refl),
  (
    subst (λ (heads : List TableHead). MasksKnown (λ (table : ℕ) (mask : MaskName). KnowsMask reader mask) heads) (sym begun.heads) tt,
    subst (λ (actions : List ActionName). Each (KnowsAction reader) actions) (sym begun.actions) tt,
  ),
)
