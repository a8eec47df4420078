-- What an ear hears of a run (this project's own).
use Rattle.std.specs.Prelude.{ℕ, ◌+◌, List, [], ◌∷◌, ◌++◌}
use Rattle.tc_base.specs.declared.ear.EventName.{EventName}
use Rattle.run_report.specs.declared.rounds.RoundRecord.{RoundRecord}
use Rattle.run_report.specs.Counts.{accepted_count}
use Rattle.round_terms.specs.Hearing.{names_of}

-- the names of the accepted events of rounds from a number on, before which so many edits were accepted
abbrev pub names_from : ℕ → ℕ → List RoundRecord → List EventName
names_from number before [] = []
names_from number before (round ∷ rounds) =
    names_of number before round.events ++ names_from (number + 1) (before + accepted_count round.events) rounds

-- THE NAMES OF ALL ACCEPTED EVENTS of a run, in the order of its journal
abbrev pub names_in : List RoundRecord → List EventName
names_in rounds = names_from 1 0 rounds
