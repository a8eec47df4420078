use Rattle.std.proofs.Common.{◌∙◌, Some, sym, ap, refl}
use Rattle.walk_rules.specs.Questions.{told_heads}
use Rattle.classify_walk.proofs.StillHeads.{heads_answered}
use Rattle.classify_walk.proofs.StandingMasks.{masks_known}
use Rattle.classify_walk.proofs.still.StillVisits.head.Goals as goal

pub returns-clause-told : goal.returns-clause-told
returns-clause-told c = (
  record {
    kept = c.tell_heads.ensures.kept;
    answers = λ s spelled. heads_answered c.args.self.now.lists.now c.args.hook s c.tell_heads.ensures.kept spelled
        ∙ ap (λ heads. Some (told_heads heads)) (sym c.tell_heads.ensures.told);
    here = refl;
  },
  refl,
)

pub returns-clause-masks : goal.returns-clause-masks
returns-clause-masks c = masks_known c.args.self.now.lists.now c.args.hook c.tell_heads.new.into.tables c.tell_heads.ensures.kept c.tell_heads.ensures.told
