-- The whole job: its own file, and the files that it names.
use Rattle.std.proofs.Common.{◌≡◌, ◌≤◌, inl, inr, ℕ, List, [], Option, sym, subst, arith}
use Rattle.tc_base.specs.Outside.{Held}
use Rattle.job_lines.specs.declared.job.Job.{Job}
use Rattle.job_lines.specs.declared.job.Round.{Round}
use Rattle.tool_words.specs.declared.status.Status.{Status}
use Rattle.tool_words.specs.declared.status.Status.TheVariants as statuses
use Rattle.job_files.specs.OfInputs.Failures.{ReadFails}
use Rattle.job_files.specs.Named.{rounds_files, files_of}
use Rattle.job_files.specs.Holdings.{HasJobFile, HasJob}
use Rattle.job_files.specs.Faults.{JobFileFails, JobFails}
use Rattle.job_files.specs.Loaded.{Loaded}
use Rattle.job_files.specs.Growing.{nothing, Gave, Grows, FilesFail, AddFails}
use Rattle.job_files.proofs.Adding.{fails_later}

gave_nothing : (told : Option Held) → Gave told [] nothing
gave_nothing told = record {
  batches_held = tt;
  captures_held = tt;
  few_commands = omega arith;
  few_packets = omega arith;
}

pub whole_job : (told later : Option Held) (name : List ℕ) (job : Job) (rounds : List Round) (new : Loaded)
    → HasJobFile told name job → later ≡ told → rounds ≡ job.rounds → Grows later nothing (rounds_files rounds) new
    → HasJob told name (record { job = job; batches = new.batches; captures = new.captures })
whole_job told later name job rounds new says same are grows = record {
  job = says;
  files =
      subst (λ (rs : List Round). Gave told (rounds_files rs) new) are
      (subst (λ (held : Option Held). Gave held (rounds_files rounds) new) same (grows [] (gave_nothing later)));
}

module _ {S : Type 0} (held : S → Option Held) (read_faults : S → ℕ) (failed_name : S → Option (List ℕ)) where
  pub own_fails : (old new : S) (name : List ℕ) (status : Status)
      → JobFileFails held read_faults failed_name old new name status
      → JobFails held read_faults failed_name old new name status
  own_fails old new name (statuses.ReadFault file) why =
      (inl why.0, subst (ReadFails held read_faults failed_name old new) (sym why.0) why.1)
  own_fails old new name (statuses.BadInput file place kind) why = inl why
  own_fails old new name (statuses.NoMemory memory) why = tt
  own_fails old new name status why = why

  job_fails : (old new : S) (name : List ℕ) (job : Job) (status : Status) → HasJobFile (held old) name job
      → FilesFail held read_faults failed_name old new (files_of job) status
      → JobFails held read_faults failed_name old new name status
  job_fails old new name job (statuses.ReadFault file) says why = (inr (job, says, why.0), why.1)
  job_fails old new name job (statuses.BadInput file place kind) says why = inr (job, says, why)
  job_fails old new name job (statuses.NoMemory memory) says why = tt
  job_fails old new name job status says why = why

  pub files_fail : (old mid new : S) (name : List ℕ) (job : Job) (rounds : List Round) (loaded : Loaded)
      (status : Status) → HasJobFile (held old) name job → held mid ≡ held old → read_faults old ≤ read_faults mid
      → rounds ≡ job.rounds → loaded ≡ nothing
      → AddFails held read_faults failed_name mid new loaded (rounds_files rounds) status
      → JobFails held read_faults failed_name old new name status
  files_fail old mid new name job rounds loaded status says same later are none why =
      let behind : AddFails held read_faults failed_name mid new nothing (rounds_files rounds) status =
      subst (λ (l : Loaded). AddFails held read_faults failed_name mid new l (rounds_files rounds) status) none why in
      job_fails old new name job status says
      (subst (λ (rs : List Round). FilesFail held read_faults failed_name old new (rounds_files rs) status) are
      (fails_later held read_faults failed_name old mid new (rounds_files rounds) status same later
      (behind [] (gave_nothing (held mid)))))
