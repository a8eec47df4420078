use Rattle.flow_fields.specs.Values.{values_of}
use Rattle.filter_tables.specs.SeenMask.{plain_mask}
use Rattle.classify_walk.specs.Found.{is_met}
use Rattle.classify_walk.proofs.StandingFilters.{few_actions, are_tidy, filter_answered, actions_stand}
use Rattle.classify_walk.proofs.finding.look_up.Goals as goal

pub find_actions-requires-clause-few : goal.find_actions-requires-clause-few
find_actions-requires-clause-few c = few_actions c.args.lists.now c.args.mask.serial (plain_mask c.in-Some.list.now) c.in-Some.ensures

pub find_actions-requires-clause-tidy : goal.find_actions-requires-clause-tidy
find_actions-requires-clause-tidy c = are_tidy c.args.lists.now c.args.mask.serial (plain_mask c.in-Some.list.now) c.in-Some.ensures

pub returns-in-Some-clause-told : goal.returns-in-Some-clause-told
returns-in-Some-clause-told c = λ table s spelled.
    filter_answered c.args.lists.now c.args.mask.serial table (plain_mask c.in-Some.list.now) (values_of c.args.key.now.words) s c.in-Some.ensures c.requires.known spelled
    c.find_actions.result c.find_actions.new.into c.find_actions.ensures.found c.find_actions.ensures.actions

pub returns-in-Some-clause-actions : goal.returns-in-Some-clause-actions
returns-in-Some-clause-actions c =
    actions_stand c.args.lists.now c.args.mask.serial (plain_mask c.in-Some.list.now) (is_met (values_of c.args.key.now.words) (plain_mask c.in-Some.list.now)) c.find_actions.new.into
    c.in-Some.ensures c.find_actions.ensures.actions
