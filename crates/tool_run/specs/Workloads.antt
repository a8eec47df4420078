-- The job of a workload as a run is given it (this project's own).
use Rattle.std.specs.Prelude.{ℕ, false, [], ◌∷◌, None, Some, codes}
use Rattle.tc_base.specs.declared.hook.Hook.TheVariants.{Ingress}
use Rattle.job_lines.specs.declared.job.BatchName.{BatchName}
use Rattle.job_lines.specs.declared.job.CaptureName.{CaptureName}
use Rattle.job_lines.specs.declared.job.Round.{Round}
use Rattle.job_lines.specs.declared.job.Job.{Job}
use Rattle.lawful_runs.specs.declared.loaded.LoadedJob.{LoadedJob}
use Rattle.gen_files.specs.Generated.{batch_text}
use Rattle.tool_run.specs.OfGenerated.Generated.{capture_of}

-- ---- the job, under names before which no front stands: what a run comes to depends on no name
abbrev pub batch_name : BatchName
batch_name = record { control = 1; name = codes ".tc"; force = false }

abbrev pub capture_name : CaptureName
capture_name = record { hook = Ingress; name = codes ".pcap"; out = codes ".out.pcap" }

abbrev pub batch_round : Round
batch_round = record { batches = batch_name ∷ []; capture = None }

abbrev pub capture_round : Round
capture_round = record { batches = []; capture = Some capture_name }

abbrev pub made_job : Job
made_job = record { workers = 4; controls = 1; rounds = batch_round ∷ capture_round ∷ [] }

-- THE JOB WITH ITS BATCH AND ITS CAPTURE
abbrev pub workload_of : ℕ → LoadedJob
workload_of filters = record { job = made_job; batches = batch_text filters ∷ []; captures = capture_of filters ∷ [] }
