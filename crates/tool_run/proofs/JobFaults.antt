-- A job that is held has one loading, and no fault; one that isn't has one first fault.
use Rattle.std.proofs.Common.{◌≡◌, ◌∙◌, ℕ, List, Option, Some, Result, Ok, Err, sym}
use Rattle.tc_base.specs.Outside.{Held}
use Rattle.lawful_runs.specs.declared.loaded.LoadedJob.{LoadedJob}
use Rattle.tool_words.specs.declared.status.InputKind.{InputKind}
use Rattle.tool_words.specs.declared.status.Status.{Status}
use Rattle.tool_words.specs.declared.status.Status.TheVariants as statuses
use Rattle.job_files.specs.Holdings.{HasJob}
use Rattle.job_files.specs.Faults.{JobBreaks}
use Rattle.job_files.proofs.Exact.{one_answer}

-- the first fault of the job's files is told
abbrev pub IsJobBreak : Option Held → List ℕ → Status → Type 0
IsJobBreak told job status =
    (name : List ℕ) × (place : ℕ) × (kind : InputKind) × JobBreaks told job name place kind
    × (status ≡ statuses.BadInput name place kind)

module _ (held : Held) (job : List ℕ) where
  abbrev told : Option Held
  told = Some held

  pub one_job : (a b : LoadedJob) → HasJob told job a → HasJob told job b → a ≡ b
  one_job a b h k = let same : ◌≡◌ {A = Result LoadedJob Status} (Ok a) (Ok b) = one_answer held job (Ok a) (Ok b) h k in cc

  pub no_break : (loaded : LoadedJob) (name : List ℕ) (place : ℕ) (kind : InputKind) → HasJob told job loaded
      → JobBreaks told job name place kind → ⊥
  no_break loaded name place kind has breaks =
      let wrong : ◌≡◌ {A = Result LoadedJob Status} (Ok loaded) (Err (statuses.BadInput name place kind)) =
      one_answer held job (Ok loaded) (Err (statuses.BadInput name place kind)) has breaks in
      cc

  pub one_break : (x y : Status) → IsJobBreak told job x → IsJobBreak told job y → x ≡ y
  one_break x y (name, place, kind, breaks, is) (other, at, what, also, same) =
      let one : ◌≡◌ {A = Result LoadedJob Status} (Err (statuses.BadInput name place kind)) (Err (statuses.BadInput other at what)) =
      one_answer held job (Err (statuses.BadInput name place kind)) (Err (statuses.BadInput other at what)) breaks also in
      let status : statuses.BadInput name place kind ≡ statuses.BadInput other at what = cc one in
      is ∙ status ∙ sym same
