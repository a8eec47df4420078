-- What is left of a job behind so many of its rounds (this project's own).
use Rattle.std.specs.Prelude.{ℕ, take, drop}
use Rattle.lawful_runs.specs.declared.loaded.LoadedJob.{LoadedJob}
use Rattle.lawful_runs.specs.Given.{batches_named, captures_named, command_count, packet_count}

abbrev pub commands_left : LoadedJob → ℕ → ℕ
commands_left loaded rounds =
    command_count (drop (batches_named (take rounds loaded.job.rounds)) loaded.batches)

abbrev pub packets_left : LoadedJob → ℕ → ℕ
packets_left loaded rounds =
    packet_count (drop (captures_named (take rounds loaded.job.rounds)) loaded.captures)
