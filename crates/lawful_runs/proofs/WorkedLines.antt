-- The lines of the worked run's batches: their words, the edits that they give, and what these do.
use Rattle.std.proofs.Common.{◌≡◌, ℕ, false, List, [], ◌∷◌, Option, Some, None, refl, sym}
use Rattle.std.specs.Prelude.{codes}
use Rattle.tc_base.specs.declared.hook.Hook.TheVariants as hooks
use Rattle.tc_base.specs.declared.hook.Proto.TheVariants as protocols
use Rattle.flow_fields.specs.Table.{fields}
use Rattle.act_kinds.specs.declared.params.Kind.TheVariants as kinds
use Rattle.act_kinds.specs.declared.params.Control.{Control}
use Rattle.act_kinds.specs.declared.params.Control.TheVariants as controls
use Rattle.act_kinds.specs.declared.params.Params.TheVariants as params
use Rattle.filter_state.specs.declared.edit.Edit.{Edit}
use Rattle.filter_state.specs.declared.edit.Edit.TheVariants as edits
use Rattle.tc_words.specs.Lines.{lines_of, words_of, parts_between_blanks}
use Rattle.tc_words.specs.Numbers.{number_of, decimal_of}
use Rattle.tc_words.specs.Addresses.{ipv4_of, address_of}
use Rattle.line_words.specs.Forms.{protocol_of, ether_type_of}
use Rattle.tc_batch.specs.States.{State}
use Rattle.tc_batch.specs.Grammar.{Gives}
use Rattle.tc_batch.specs.Machine.{edit_at, run}
use Rattle.tc_batch.proofs.Runs.{ended}
use Rattle.batch_run.specs.Commands.{Command}
use Rattle.lawful_runs.specs.Given.{Arrival, GivenRound, given_rounds}
use Rattle.lawful_runs.specs.WorkedRun.{frame, worked_job}

-- ---- the words
abbrev pub hook_line : List (List ℕ)
hook_line = codes "qdisc" ∷ codes "add" ∷ codes "dev" ∷ codes "eth0" ∷ codes "clsact" ∷ []

abbrev filter_line : List ℕ → List ℕ → List (List ℕ)
filter_line address control =
    codes "filter" ∷ codes "add" ∷ codes "dev" ∷ codes "eth0" ∷ codes "ingress" ∷ codes "protocol" ∷ codes "ip" ∷ codes "pref" ∷ codes "10" ∷ codes "flower"
    ∷ codes "dst_ip" ∷ address ∷ codes "action" ∷ control ∷ []

abbrev pub drop_line : List (List ℕ)
drop_line = filter_line (codes "10.0.0.1") (codes "drop")

abbrev pub pass_line : List (List ℕ)
pass_line = filter_line (codes "10.0.0.2") (codes "ok")

-- ---- the edits
abbrev on_address : ℕ → Control → Edit
on_address address control = edits.FilterAdd (record {
  hook = hooks.Ingress;
  protocol = protocols.Ether 0x0800;
  chain = 0;
  pref = Some 10;
  handle = None;
  mask = record { words = 0 ∷ 0 ∷ 0 ∷ 0 ∷ 0 ∷ 0xFFFFFFFF ∷ 0 ∷ 0 ∷ 0 ∷ 0 ∷ 0 ∷ 0 ∷ 0 ∷ 0 ∷ [] };
  key = record { words = 0 ∷ 0 ∷ 0 ∷ 0 ∷ 0 ∷ address ∷ 0 ∷ 0 ∷ 0 ∷ 0 ∷ 0 ∷ 0 ∷ 0 ∷ 0 ∷ [] };
  actions = record { kind = kinds.Gact; index = None; params = Some (params.Gact control) } ∷ [];
})

abbrev pub drop_edit : Edit
drop_edit = on_address 0x0A000001 controls.Shot

abbrev pub pass_edit : Edit
pass_edit = on_address 0x0A000002 controls.Accept

abbrev ran_to : Option State → Option Edit
ran_to None = None
ran_to (Some state) = edit_at state

gives : (words : List (List ℕ)) (edit : Edit) → ran_to (run State.Start words) ≡ Some edit → Gives words edit
gives words edit is = at (run State.Start words) refl is
  where
    at : (reached : Option State) → run State.Start words ≡ reached → ran_to reached ≡ Some edit → Gives words edit
    at None so_far is = absurd (cc is)
    at (Some state) so_far is = ended words state edit so_far (sym is)

pub hook_gives : Gives hook_line edits.HookAdd
hook_gives = gives hook_line edits.HookAdd refl

pub drop_gives : Gives drop_line drop_edit
unfolding protocol_of ether_type_of number_of decimal_of ipv4_of address_of fields
drop_gives = gives drop_line drop_edit refl

pub pass_gives : Gives pass_line pass_edit
unfolding protocol_of ether_type_of number_of decimal_of ipv4_of address_of fields
pass_gives = gives pass_line pass_edit refl

-- ---- what the job gives
abbrev command : ℕ → List (List ℕ) → Command
command line words = record { line = line; words = words }

abbrev given_round : List Command → List Arrival → GivenRound
given_round commands arrivals = record { batches = record { control = 1; force = false; commands = commands } ∷ []; arrivals = arrivals }

abbrev pub first_given : GivenRound
first_given = given_round (command 1 hook_line ∷ command 2 drop_line ∷ []) []

abbrev pub arrival : Arrival
arrival = record { hook = hooks.Ingress; packet = record { seconds = 1; fraction = 0; original = 60; bytes = frame } }

abbrev pub second_given : GivenRound
second_given = given_round (command 1 pass_line ∷ []) (arrival ∷ [])

pub both_given : given_rounds worked_job ≡ first_given ∷ second_given ∷ []
unfolding lines_of words_of parts_between_blanks
both_given = refl
