-- The worked run is lawful.
use Rattle.std.proofs.Common.{ℕ, List, [], ◌∷◌, refl, sym, subst, arith}
use Rattle.tc_base.specs.declared.hook.Hook.TheVariants as hooks
use Rattle.tc_base.specs.declared.hook.Proto.TheVariants as protocols
use Rattle.flow_fields.specs.Table.{fields}
use Rattle.flow_dissect.specs.Headers.{has_ipv4, has_ipv6}
use Rattle.flow_dissect.specs.Fields.{frame_values}
use Rattle.frame_edit.specs.EditedFrame.{loaded_frame}
use Rattle.act_kinds.specs.declared.params.Control.TheVariants as controls
use Rattle.act_kinds.specs.declared.params.Params.TheVariants as params
use Rattle.filter_state.specs.declared.edit.Edit.{Edit}
use Rattle.filter_state.specs.declared.edit.Edit.TheVariants as edits
use Rattle.filter_state.specs.States.{State, no_state}
use Rattle.filter_state.specs.Steps.{step}
use Rattle.filter_state.specs.Journals.{state_after}
use Rattle.walk_rules.specs.declared.verdict.Verdict.TheVariants as verdicts
use Rattle.walk_rules.specs.Questions.{Head, Question, heads_of, filter_of, params_of, told_heads, told_actions, told_params}
use Rattle.walk_rules.specs.OfPoints.Points.{Visit}
use Rattle.lawful_runs.specs.Outcomes.{IsWalked}
use Rattle.lawful_runs.specs.Lawful.{IsRound, AreRounds, IsLawfulRun}
use Rattle.lawful_runs.specs.WorkedRun.{frame, outcome, first_round, second_round, worked_job, worked_run}
use Rattle.lawful_runs.proofs.LawfulPoints.{lawful_points}
use Rattle.lawful_runs.proofs.InOrder.{in_order}
use Rattle.lawful_runs.proofs.WalkedEach.{walked_from}
use Rattle.lawful_runs.proofs.WorkedLines.{hook_line, drop_line, pass_line, drop_edit, pass_edit, hook_gives, drop_gives, pass_gives, first_given, second_given, arrival, both_given}

-- ---- the states, one after the other
abbrev hooked : State
hooked = state_after no_state (step no_state edits.HookAdd)

abbrev dropping : State
dropping = state_after hooked (step hooked drop_edit)

abbrev passing : State
passing = state_after dropping (step dropping pass_edit)

abbrev first_edits : List Edit
first_edits = edits.HookAdd ∷ drop_edit ∷ []

abbrev journal : List Edit
journal = edits.HookAdd ∷ drop_edit ∷ pass_edit ∷ []

-- ---- the first round: two lines, and no walk
first_lawful : IsRound 1 first_given [] [] first_round first_edits
first_lawful = record {
  order = in_order first_given.batches first_round.events ((refl, (refl, refl)), tt);
  results = (
    hook_line,
    hooked,
    edits.HookAdd ∷ [],
    drop_edit ∷ [],
    record { batch = _; command = _; given = (0, refl); control = refl; there = (0, refl); line = refl; words_are = refl },
    (edits.HookAdd, hook_gives, refl, refl),
    (
      drop_line,
      dropping,
      drop_edit ∷ [],
      [],
      record { batch = _; command = _; given = (0, refl); control = refl; there = (1, refl); line = refl; words_are = refl },
      (drop_edit, drop_gives, refl, refl),
      refl,
      refl,
    ),
    refl,
  );
  walked = walked_from 1 first_edits 0 2 [] [] [] tt;
}

-- ---- the walk: the head before the edit, and the rest after it
-- the table of both filters
abbrev table : Head
table = record { serial = 1; chain = 0; pref = 10; protocol = protocols.Ether 0x0800; masks = 1 ∷ [] }

abbrev visit : Question → ℕ → Visit
visit question point = record { question = question; point = point }

abbrev look : Question
look = filter_of 1 1 (frame_values frame)

abbrev visits : List Visit
visits = visit (heads_of hooks.Ingress) 2 ∷ visit look 3 ∷ visit (params_of 2) 3 ∷ []

walked : IsWalked journal 2 3 arrival outcome
unfolding frame_values has_ipv4 has_ipv6 fields
walked = record {
  walk = record { verdict = verdicts.Pass; frame = loaded_frame frame; executed = record { serial = 2; length = 60 } ∷ [] };
  visits = visits;
  walks = (
    heads_of hooks.Ingress,
    told_heads (table ∷ []),
    visit (heads_of hooks.Ingress) 2 ∷ [],
    refl,
    (refl, refl),
    (
      look,
      told_actions (2 ∷ []),
      visit (heads_of hooks.Ingress) 2 ∷ visit look 3 ∷ [],
      refl,
      (refl, refl),
      (
        params_of 2,
        told_params (params.Gact controls.Accept),
        visits,
        refl,
        (refl, refl),
        (refl, refl),
      ),
    ),
  );
  recorded = record { verdict = refl; bytes = refl; meta = refl; executed = refl };
  points = lawful_points 2 3 (visit (heads_of hooks.Ingress) 2) (visit look 3 ∷ visit (params_of 2) 3 ∷ []) (omega arith)
      ((omega arith, omega arith), ((omega arith, omega arith), ((omega arith, omega arith), tt)))
      ((λ same. absurd same, (λ same. absurd same, tt)), ((λ same. absurd same, tt), (tt, tt)));
}

-- ---- the second round
second_lawful : IsRound 1 second_given first_edits [] second_round (pass_edit ∷ [])
second_lawful = record {
  order = in_order second_given.batches second_round.events ((refl, refl), tt);
  results = (
    pass_line,
    passing,
    pass_edit ∷ [],
    [],
    record { batch = _; command = _; given = (0, refl); control = refl; there = (0, refl); line = refl; words_are = refl },
    (pass_edit, pass_gives, refl, refl),
    refl,
    refl,
  );
  walked = walked_from 1 journal 2 3 [] (arrival ∷ []) (outcome ∷ []) (omega arith, omega arith, walked, tt);
}

rounds_lawful : AreRounds 1 (first_given ∷ second_given ∷ []) [] [] worked_run.rounds journal
rounds_lawful = (first_edits, first_lawful, (pass_edit ∷ [], second_lawful, refl))

pub worked_lawful : IsLawfulRun worked_job worked_run
worked_lawful = (journal, record { rounds = subst (λ given. AreRounds 1 given [] [] worked_run.rounds journal) (sym both_given) rounds_lawful; counters = refl })
