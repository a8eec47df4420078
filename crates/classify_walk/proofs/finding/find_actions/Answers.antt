use Rattle.std.proofs.Common.{◌≡◌, ◌∙◌, ◌≤◌, ℕ, List, Some, None, length, sym, ap, is_some, arith}
use Rattle.std.specs.Prelude.{find}
use Rattle.std.specs.Option.{option_copied}
use Rattle.flow_fields.specs.Values.{values_of}
use Rattle.filter_index.specs.declared.filter.Filter.{Filter}
use Rattle.filter_index.specs.Listed.{has_key}
use Rattle.flow_mask.specs.Masks.{each_and}
use Rattle.filter_tables.specs.Plain.{PlainMask}
use Rattle.filter_tables.specs.SeenMask.{plain_mask}
use Rattle.walk_steps.specs.Told.{action_serials}
use Rattle.classify_walk.specs.Found.{is_met, actions_in, AreTidy}
use Rattle.classify_walk.proofs.EvenKeys.{all_even}
use Rattle.classify_walk.proofs.MetFilters.{found_is_met}
use Rattle.classify_walk.proofs.StandingFilters.{found_holds}
use Rattle.classify_walk.proofs.finding.find_actions.Goals as goal
use Rattle.classify_walk.proofs.finding.find_actions.Goals.{In-Some, In-None}

found_some : (c : In-Some) → find (has_key (each_and c.args.key.now.words c.args.list.now.mask.words)) c.args.list.now.filters.filters ≡ Some c.in-Some.filter.now
found_some c = sym c.met.ensures ∙ ap option_copied c.in-Some.is

-- the filter that is met by its words is the one that is met by its fields
met_by_fields : (words : List ℕ) (m : PlainMask) → length words ≡ 14 → AreTidy m → find (is_met (values_of words) m) m.filters ≡ find (has_key (each_and words m.mask)) m.filters
met_by_fields words m count tidy = sym (found_is_met words m (all_even words m count tidy) tidy)

met_some : (c : In-Some) → find (is_met (values_of c.args.key.now.words) (plain_mask c.args.list.now)) c.args.list.now.filters.filters ≡ Some c.in-Some.filter.now
met_some c = met_by_fields c.args.key.now.words (plain_mask c.args.list.now) c.words_of-words.ensures.count c.requires.tidy ∙ found_some c

met_none : (c : In-None) → find (is_met (values_of c.args.key.now.words) (plain_mask c.args.list.now)) c.args.list.now.filters.filters ≡ None
met_none c =
    met_by_fields c.args.key.now.words (plain_mask c.args.list.now) c.words_of-words.ensures.count c.requires.tidy
    ∙ sym c.met.ensures ∙ ap option_copied c.in-None.is

pub tell_actions-requires-clause-few : goal.tell_actions-requires-clause-few
tell_actions-requires-clause-few c =
    let few : length c.in-Some.filter.now.actions ≤ 16 =
    found_holds (λ (f : Filter). length f.actions ≤ 16) (has_key (each_and c.args.key.now.words c.args.list.now.mask.words)) c.args.list.now.filters.filters c.in-Some.filter.now
    (found_some (goal.at.tell_actions-requires-clause-few c).In-Some) c.requires.few in
    omega (arith, few, ap length c.as_slice.ensures)

pub returns-in-None-clause-found : goal.returns-in-None-clause-found
returns-in-None-clause-found c = sym (ap is_some (met_none (goal.at.returns-in-None-clause-found c).In-None))

pub returns-in-None-clause-actions : goal.returns-in-None-clause-actions
returns-in-None-clause-actions c = ap action_serials c.requires.empty ∙ sym (ap actions_in (met_none (goal.at.returns-in-None-clause-actions c).In-None))

pub returns-in-Some-clause-found : goal.returns-in-Some-clause-found
returns-in-Some-clause-found c = sym (ap is_some (met_some (goal.at.returns-in-Some-clause-found c).In-Some))

pub returns-in-Some-clause-actions : goal.returns-in-Some-clause-actions
returns-in-Some-clause-actions c = c.tell_actions.ensures ∙ c.as_slice.ensures ∙ sym (ap actions_in (met_some (goal.at.returns-in-Some-clause-actions c).In-Some))
