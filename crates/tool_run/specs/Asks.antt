-- WHAT A RUN ASKS THE SHELF FOR, however it ends: a front of its input is fetched and a front of its output put,
-- in the order of work, each name once (this project's own). The output is never fetched.
use Rattle.std.specs.Prelude.{◌≡◌, ◌⊎◌, ℕ, List, [], ◌∷◌, ◌++◌, flat_map, codes, Option, Some, None}
use Rattle.tc_base.specs.Outside.{Held, Asked, AppendsUpTo}
use Rattle.job_lines.specs.declared.job.CaptureName.{CaptureName}
use Rattle.job_lines.specs.declared.job.Round.{Round}
use Rattle.job_lines.specs.declared.job.Job.{Job}
use Rattle.tool_words.specs.Command.{Request, Walk, Show, Run, Recheck, Gen, Trace, TraceReport, Foresee}
use Rattle.job_files.specs.Holdings.{HasJobFile}
use Rattle.job_files.specs.Changes.{names_in_order}
use Rattle.job_files.specs.Inputs.{FetchesInput}

-- the names of what a run of these rounds puts, in order: a round with a capture has one
abbrev pub output_name : Option CaptureName → List (List ℕ)
output_name None = []
output_name (Some capture) = capture.out ∷ []

abbrev pub output_names : List Round → List (List ℕ)
output_names rounds = flat_map (λ (round : Round). output_name round.capture) rounds

-- the names of the files that `gen` puts, in order
abbrev pub made_names : List ℕ → List (List ℕ)
made_names front =
    (front ++ codes ".tc") ∷ (front ++ codes ".pcap") ∷ (front ++ codes ".job") ∷ (front ++ codes ".out.pcap")
    ∷ []

-- a run of the job under the name puts what that job names
abbrev pub PutsOutput : Option Held → Asked → Asked → List ℕ → Type 0
PutsOutput told old new name =
    (new ≡ old) ⊎ ((said : Job) × HasJobFile told name said × AppendsUpTo old new (output_names said.rounds))

abbrev pub Fetches : Option Held → Asked → Asked → Request → Type 0
Fetches told old new (Show b) = AppendsUpTo old new (b ∷ [])
Fetches told old new (Walk hook b c o) = AppendsUpTo old new (b ∷ c ∷ [])
Fetches told old new (Trace hook b c) = AppendsUpTo old new (b ∷ c ∷ [])
Fetches told old new (Run job) = FetchesInput told old new job []
Fetches told old new (Recheck job report) = FetchesInput told old new job (report ∷ [])
Fetches told old new (TraceReport job report) = FetchesInput told old new job (report ∷ [])
Fetches told old new (Foresee hook names force) = AppendsUpTo old new (names_in_order names)
Fetches told old new (Gen count front) = new ≡ old

abbrev pub Puts : Option Held → Asked → Asked → Request → Type 0
Puts told old new (Show b) = new ≡ old
Puts told old new (Walk hook b c o) = AppendsUpTo old new (o ∷ [])
Puts told old new (Trace hook b c) = new ≡ old
Puts told old new (Run job) = PutsOutput told old new job
Puts told old new (Recheck job report) = new ≡ old
Puts told old new (TraceReport job report) = new ≡ old
Puts told old new (Foresee hook names force) = new ≡ old
Puts told old new (Gen count front) = AppendsUpTo old new (made_names front)

-- words that are no command ask for nothing
abbrev pub FetchesIn : Option Held → Asked → Asked → Option Request → Type 0
FetchesIn told old new None = new ≡ old
FetchesIn told old new (Some request) = Fetches told old new request

abbrev pub PutsIn : Option Held → Asked → Asked → Option Request → Type 0
PutsIn told old new None = new ≡ old
PutsIn told old new (Some request) = Puts told old new request
