use Rattle.std.proofs.Common.{◌<◌, length, arith, refl}
use Rattle.walk_rules.specs.Questions.{filter_of}
use Rattle.flow_fields.specs.Values.{values_of}
use Rattle.walk_steps.specs.Told.{filter_told}
use Rattle.walk_steps.specs.Standings.{IsMask}
use Rattle.walk_steps.proofs.Drops.{no_mask}
use Rattle.walk_steps.proofs.Visited.{one_more}
use Rattle.walk_steps.proofs.Lookups.{mask_opened, mask_asked, goes_unhit, goes_hit}
use Rattle.walk_steps.proofs.Known.{masks_still}
use Rattle.walk_steps.proofs.steps.mask_step.Goals as goal
use Rattle.walk_steps.proofs.steps.mask_step.Goals.{then-found, else-found}

pub returns-clause-step : goal.returns-clause-step
returns-clause-step g c =
    let old = c.args.course.now in
    let hit = c.lookup-found.new.into in
    let head = c.index-heads-table.result in
    let stop : (c.args.table < length old.heads.tables) × IsMask old.heads.tables c.args.table c.args.mask = rw c.requires.stage at c.requires.course.stop in
    let place = mask_opened old.heads.tables _ c.args.table c.args.mask head _ no_mask stop.0 stop.1 c.heads.ensures c.index-heads-table.is c.as_slice.ensures.same in
    record {
      question = filter_of head.serial _ (values_of old.key.words);
      answer = filter_told c.lookup-found.result.0 hit;
      point = c.lookup-found.result.1;
      asks = mask_asked old c.args.table c.args.mask _ _ _ _ c.requires.stage place c.requires.left c.requires.course.fields;
      answered = c.lookup-found.ensures.told;
      goes = elim c.if-found.branch [
        | then-found w ↦ rw (w.course-is, w.if-found.true)
            (goes_hit old hit _ _ c.lookup-found.result.1 c.args.table c.args.mask _ _ _ _ c.requires.stage place c.push.ensures w.hit_stop-course.ensures.place)
        | else-found w ↦ rw (w.course-is, w.if-found.false)
            (goes_unhit old hit _ _ c.lookup-found.result.1 c.args.table c.args.mask _ _ _ _ c.requires.stage place c.push.ensures
            (rw w.ether_type.ensures at (w.unhit_stop-course.ensures.place hit)))
      ];
      kept = c.push.ensures;
    }

pub returns-clause-course : goal.returns-clause-course
returns-clause-course g c =
    let count = one_more c.args.course.now.points c.push.new.self c.lookup-found.result.1 c.push.ensures in
    let course = c.requires.course in
    record {
      stop = elim c.if-found.branch [
        | then-found w ↦ rw w.course-is w.hit_stop-course.ensures.stop
        | else-found w ↦ rw w.course-is (w.unhit_stop-course.ensures.stop c.lookup-found.new.into)
      ];
      fields = course.fields;
      executed = omega arith;
      visits = omega arith;
    }

pub returns-clause-known : goal.returns-clause-known
returns-clause-known g c = record {
  masks = masks_still _ _ c.lookup-found.ensures.kept_masks c.args.course.now.heads.tables c.args.course.now.heads.tables refl c.requires.known.masks;
  actions = elim c.if-found.branch [
    | then-found w ↦ rw (w.course-is, w.hit_stop-course.ensures.actions) c.lookup-found.ensures.actions
    | else-found w ↦ rw (w.course-is, w.unhit_stop-course.ensures.unhit c.lookup-found.new.into) tt
  ];
}
