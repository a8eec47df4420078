-- The commands of a round, and those that are left behind it.
use Rattle.std.proofs.Common.{◌≡◌, ◌∙◌, ℕ, ◌+◌, ◌-◌, ◌≤◌, List, [], ◌∷◌, length, take, drop, Option, Some, sym, ap, arith}
use Rattle.std.specs.List.{slice_get}
use Rattle.std.proofs.lemmas.List.{drop-drop, length-drop}
use Rattle.std.proofs.lemmas.List.Sums.{sum_by-cons}
use Rattle.job_lines.specs.declared.job.BatchName.{BatchName}
use Rattle.job_lines.specs.declared.job.Round.{Round}
use Rattle.batch_run.specs.Commands.{commands_of}
use Rattle.lawful_runs.specs.declared.loaded.LoadedJob.{LoadedJob}
use Rattle.lawful_runs.specs.Given.{batches_named, command_count, IsLoaded}
use Rattle.round_terms.specs.Files.{RoundFile, files_with, files_at, files_of, commands_in_all}
use Rattle.round_terms.proofs.JobFiles.{first_further, first_within}
use Rattle.job_rounds.proofs.OfOneRound.Zips.{there_within}
use Rattle.job_rounds.specs.Left.{commands_left}

-- the commands of as many files as there are names, and those of the others
split : (names : List BatchName) (files : List (List ℕ)) → length names ≤ length files → command_count files ≡ commands_in_all (files_with names files) + command_count (drop (length names) files)
split [] files few = omega arith
split (name ∷ names) [] few = absurd (omega (arith, few))
split (name ∷ names) (bytes ∷ files) few =
    let rest = split names files (omega (arith, few)) in
    let all = sum_by-cons (λ (b : List ℕ). length (commands_of b)) bytes files in
    let own = sum_by-cons (λ (file : RoundFile). length (commands_of file.bytes)) (record { control = name.control; force = name.force; bytes = bytes }) (files_with names files) in
    omega (arith, rest, all, own)

pub round_split : (loaded : LoadedJob) (number : ℕ) → IsLoaded loaded → 1 ≤ number → number ≤ length loaded.job.rounds
    → commands_left loaded (number - 1) ≡ commands_in_all (files_of loaded number) + commands_left loaded number
round_split loaded number is first last =
    let rounds = loaded.job.rounds in
    let at = number - 1 in
    let found = there_within rounds at (omega (arith, first, last)) in
    let round = found.0 in
    let there : slice_get rounds at ≡ Some round = found.1 in
    let before = batches_named (take at rounds) in
    let rest : List (List ℕ) = drop before loaded.batches in
    let within = first_within loaded at round is there in
    let long = length-drop before loaded.batches in
    let parts = split round.batches rest (omega (arith, within, long)) in
    let files : files_of loaded number ≡ files_with round.batches rest = ap (λ (o : Option Round). files_at o rest) there in
    let next : at + 1 ≡ number = omega (arith, first) in
    let further : before + length round.batches ≡ batches_named (take number rounds) = sym (first_further rounds at round there) ∙ ap (λ (n : ℕ). batches_named (take n rounds)) next in
    let behind : command_count (drop (length round.batches) rest) ≡ commands_left loaded number =
    ap command_count (drop-drop (length round.batches) before loaded.batches) ∙ ap (λ (n : ℕ). command_count (drop n loaded.batches)) further in
    let own : commands_in_all (files_of loaded number) ≡ commands_in_all (files_with round.batches rest) = ap commands_in_all files in
    omega (arith, parts, behind, own)
