-- Small parts of runs, of which it can be seen by hand whether they are lawful.
use Rattle.std.specs.Prelude.{ℕ, false, List, [], ◌∷◌}
use Rattle.tc_base.specs.declared.hook.Hook.TheVariants as hooks
use Rattle.frame_edit.specs.Metadata.{no_meta}
use Rattle.filter_state.specs.declared.edit.Edit.{Edit}
use Rattle.filter_state.specs.declared.edit.Edit.TheVariants as edits
use Rattle.filter_state.specs.declared.refusal.Done.TheVariants as dones
use Rattle.filter_state.specs.declared.refusal.Refusal.TheVariants as refusals
use Rattle.walk_rules.specs.declared.verdict.Verdict.TheVariants as verdicts
use Rattle.walk_rules.specs.Questions.{heads_of, filter_of, params_of}
use Rattle.batch_run.specs.Commands.{Command}
use Rattle.run_report.specs.declared.events.Event.{Event}
use Rattle.run_report.specs.declared.events.EventKind.TheVariants as kinds
use Rattle.run_report.specs.declared.outcomes.Outcome.{Outcome}
use Rattle.lawful_runs.specs.Given.{GivenBatch, Arrival}
use Rattle.walk_rules.specs.OfPoints.Points.{Visit}

-- ---- visits at a point: of the head, of a mask, of an action
abbrev pub head_at : ℕ → Visit
head_at point = record { question = heads_of hooks.Ingress; point = point }

abbrev pub mask_at : ℕ → ℕ → Visit
mask_at mask point = record { question = filter_of 1 mask []; point = point }

abbrev pub action_at : ℕ → ℕ → Visit
action_at serial point = record { question = params_of serial; point = point }

-- ---- a batch whose commands stand in the lines 1, 2 and 4, and what becomes of a line
abbrev pub command_at : ℕ → Command
command_at line = record { line = line; words = [] }

abbrev pub commands : List Command
commands = command_at 1 ∷ command_at 2 ∷ command_at 4 ∷ []

-- two controls, each with such a batch that isn't forced
abbrev pub batch_of : ℕ → GivenBatch
batch_of control = record { control = control; force = false; commands = commands }

abbrev pub two_batches : List GivenBatch
two_batches = batch_of 1 ∷ batch_of 2 ∷ []

abbrev pub accepted : ℕ → ℕ → Event
accepted control line = record { control = control; line = line; kind = kinds.Accepted dones.Hooked }

abbrev pub refused : ℕ → ℕ → Event
refused control line = record { control = control; line = line; kind = kinds.Refused refusals.HookExists }

-- ---- walks that visit an empty head alone
-- a packet without bytes, and a walk that lets it pass
abbrev pub empty_packet : Arrival
empty_packet = record {
  hook = hooks.Ingress;
  packet = record { seconds = 0; fraction = 0; original = 0; bytes = [] };
}

abbrev pub walked_by : ℕ → List ℕ → Outcome
walked_by worker points = record {
  worker = worker;
  verdict = verdicts.Pass;
  bytes = [];
  meta = no_meta;
  points = points;
  executed = [];
}

-- three edits that make no filter
abbrev pub three_edits : List Edit
three_edits = edits.HookAdd ∷ edits.HookDel ∷ edits.HookAdd ∷ []
