-- What `gen` put and wrote is what its definition says.
use Rattle.std.proofs.Common.{◌≡◌, ◌⊎◌, inl, inr, ◌∙◌, ℕ, List, Option, refl, ap, subst}
use Rattle.std.specs.Prelude.{is_some}
use Rattle.tc_base.specs.Outside.{Held, Appended, AppendsUpTo}
use Rattle.filter_state.specs.States.{no_state}
use Rattle.gen_files.specs.Generated.{batch_text, job_text}
use Rattle.pcap_io.specs.Written.{capture_bytes}
use Rattle.batch_run.specs.Commands.{commands_of}
use Rattle.batch_run.specs.Runs.{Ran}
use Rattle.batch_run.proofs.Outcomes.{some_ran}
use Rattle.tool_run.specs.declared.generated.workload.Generated.{Generated}
use Rattle.tool_run.specs.OfGenerated.Generated.{MadeFile, files_of, IsRunOf, IsGenerated, capture_of, made_files, made_text}
use Rattle.tool_words.specs.declared.status.Status.{Status}
use Rattle.tool_words.specs.Command.{Gen}
use Rattle.tool_words.specs.Ends.{status_after}
use Rattle.tool_run.specs.Made.{AllStand, AllElseStay, PutUpTo, files_in}
use Rattle.tool_run.specs.Work.{Ends}
use Rattle.tool_run.specs.Delivered.{Made, MadeSoFar}
use Rattle.tool_run.proofs.Making.{nothing_put}

-- what was made is what the definition says, file by file
same_files : (count : ℕ) (front : List ℕ) (ran : Ran) (made : Generated) → IsGenerated count front ran made
    → files_in front made ≡ made_files count front ran
same_files count front ran made is =
    ap (λ (x : List ℕ). files_of front x made.capture.items made.job.items made.output.items) is.batch
    ∙ ap (λ (x : List ℕ). files_of front (batch_text count) x made.job.items made.output.items) is.capture
    ∙ ap (λ (x : List ℕ). files_of front (batch_text count) (capture_bytes (capture_of count)) x
    made.output.items) is.job
    ∙ ap (λ (x : List ℕ). files_of front (batch_text count) (capture_bytes (capture_of count))
    (job_text front) x) is.output

-- all was put and written
pub made_all : (count : ℕ) (front : List ℕ) (ran : Ran) (made : Generated) (held_old held_new : Option Held)
    (written_old written_new : Option (List ℕ)) → IsRunOf count ran → IsGenerated count front ran made
    → AllStand held_new (files_in front made) → AllElseStay held_old held_new (files_in front made)
    → Appended written_old written_new made.text.items
    → Made held_old held_new written_old written_new count front (status_after made.refused)
made_all count front ran made held_old held_new written_old written_new runs is stand others wrote =
    let same = same_files count front ran made is in
    record {
      ran = ran;
      runs = runs;
      ended = ap status_after is.refused;
      stand = subst (λ (files : List MadeFile). AllStand held_new files) same stand;
      others = subst (λ (files : List MadeFile). AllElseStay held_old held_new files) same others;
      wrote = subst (λ (text : List ℕ). Appended written_old written_new text) is.text wrote;
    }

-- some was put, and perhaps some written
pub made_so_far : (count : ℕ) (front : List ℕ) (ran : Ran) (made : Generated)
    (held_old held_new : Option Held) (written_old written_new : Option (List ℕ)) → IsRunOf count ran
    → IsGenerated count front ran made
    → PutUpTo held_old held_new (files_in front made) → (written_new ≡ written_old)
    ⊎ (AllStand held_new (files_in front made) × AppendsUpTo written_old written_new made.text.items)
    → MadeSoFar held_old held_new written_old written_new count front
made_so_far count front ran made held_old held_new written_old written_new runs is put wrote =
    let same = same_files count front ran made is in
    record {
      ran = ran;
      runs = runs;
      put = subst (λ (files : List MadeFile). PutUpTo held_old held_new files) same put;
      front_written = written same wrote;
    }
  where
    written : files_in front made ≡ made_files count front ran → (written_new ≡ written_old)
        ⊎ (AllStand held_new (files_in front made) × AppendsUpTo written_old written_new made.text.items)
        → (written_new ≡ written_old) ⊎ (AllStand held_new (made_files count front ran)
        × AppendsUpTo written_old written_new (made_text count ran))
    written same (inl none) = inl none
    written same (inr some) =
        inr (
          subst (λ (files : List MadeFile). AllStand held_new files) same some.0,
          subst
              (λ (text : List ℕ). AppendsUpTo written_old written_new text) is.text some.1,
        )

-- nothing was put or written
pub nothing_made : (count : ℕ) (front : List ℕ) (held : Option Held) (written : Option (List ℕ))
    → MadeSoFar held held written written count front
nothing_made count front held written =
    let some = some_ran no_state 0 (commands_of (batch_text count)) in
    record {
      ran = some.0;
      runs = some.1;
      put = nothing_put held (made_files count front some.0);
      front_written = inl refl;
    }

-- what is made lets `gen` end
pub gen_ends : (told : Option Held) (count : ℕ) (front : List ℕ) (ran : Ran) → IsRunOf count ran
    → (status : Status) × Ends told (Gen count front) status
gen_ends told count front ran runs = (status_after (is_some ran.stop), (ran, runs, refl))
