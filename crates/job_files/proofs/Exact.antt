-- A shelf that tells what it holds calls for one answer at most.
use Rattle.std.proofs.Common.{◌≡◌, ◌∙◌, ◌⊎◌, inl, inr, ℕ, ◌≤◌, List, [], ◌∷◌, ◌++◌, Option, Some, None, Result, Ok, Err, sym, ap, subst, arith}
use Rattle.std.specs.Prelude.{IsSome, IsSomeAnd, IfOk, IfErr}
use Rattle.std.specs.List.{AllZip}
use Rattle.std.proofs.lemmas.Bool.{false≢true}
use Rattle.tc_base.specs.Outside.{Held}
use Rattle.pcap_io.specs.declared.capture.Capture.{Capture}
use Rattle.pcap_io.specs.Captures.{IsCapture}
use Rattle.pcap_io.proofs.Unique.{one_capture}
use Rattle.batch_run.specs.declared.limit.TheConstants.{COMMANDS_MAX}
use Rattle.walk_ends.specs.declared.limits.TheConstants.{PACKETS_MAX}
use Rattle.job_lines.specs.declared.job.Job.{Job}
use Rattle.job_lines.specs.Files.{IsJobOf, IsFormFault}
use Rattle.job_lines.proofs.Unique.{same_job, no_fault, one_fault}
use Rattle.lawful_runs.specs.declared.loaded.LoadedJob.{LoadedJob}
use Rattle.lawful_runs.specs.Given.{command_count, packet_count}
use Rattle.tool_words.specs.declared.status.InputKind.{InputKind}
use Rattle.tool_words.specs.declared.status.Status.{Status}
use Rattle.tool_words.specs.declared.status.Status.TheVariants as statuses
use Rattle.job_files.specs.OfInputs.Holdings.{Holds, HasBatch, HasCapture}
use Rattle.job_files.proofs.OfInputs.Readings.{same_bytes, same_past, not_past, not_broken, same_break}
use Rattle.job_files.specs.Named.{JobFile, name_of, batches_in, captures_in, files_of}
use Rattle.job_files.specs.Holdings.{HoldsCapture, HasFiles, HasJobFile, HasJob}
use Rattle.job_files.specs.Faults.{kind_of, HasFormFault, command_room, packet_room, FileBreaks, IsReached, FilesBreak, FilesRead, JobBreaks, JobReads, JobFails}
use Rattle.job_files.specs.Due.{CallsForFailure, CallsFor, FailedOutside}
use Rattle.job_files.proofs.Joined.{batches_joined, captures_joined, commands_joined, packets_joined, commands_from_one, packets_from_one, zip_cut, zip_one}
use Rattle.job_files.proofs.Orders.{InOrder, in_order}

-- a file that is held, well formed and within the limits, behind these batches and captures
abbrev IsGood : Option Held → List (List ℕ) → List Capture → JobFile → Type 0
IsGood told batches captures (JobFile.Batch name) =
    (bytes : List ℕ) × HasBatch told (command_room batches) name bytes
IsGood told batches captures (JobFile.Capture name) =
    (capture : Capture) × HasCapture told (packet_room captures) name capture

abbrev with_files : Job → List (List ℕ) → List Capture → LoadedJob
with_files job batches captures = record { job = job; batches = batches; captures = captures }

same_loaded : (job said : Job) (batches files : List (List ℕ)) (captures found : List Capture) → job ≡ said
    → batches ≡ files → captures ≡ found → with_files job batches captures ≡ with_files said files found
same_loaded job said batches files captures found a b c = cc

module _ (held : Held) where
  abbrev told : Option Held
  told = Some held

  one_bytes : (name x y : List ℕ) → Holds told name x → Holds told name y → x ≡ y
  one_bytes = same_bytes held

  one_capture_held : (name : List ℕ) (c d : Capture) → HoldsCapture told name c → HoldsCapture told name d
      → c ≡ d
  one_capture_held name c d h k =
      one_capture k.0 c d (subst (λ (bytes : List ℕ). IsCapture bytes c) (one_bytes name h.0 k.0 h.1 k.1) h.2) k.2

  -- ---- files
  one_batches : (files : List JobFile) (a b : List (List ℕ)) (c d : List Capture) → HasFiles told files a c
      → HasFiles told files b d → a ≡ b
  one_batches files a b c d h k =
      zip_one (Holds told) one_bytes (batches_in files) a b h.batches_held k.batches_held

  one_captures : (files : List JobFile) (a b : List (List ℕ)) (c d : List Capture) → HasFiles told files a c
      → HasFiles told files b d → c ≡ d
  one_captures files a b c d h k =
      zip_one (HoldsCapture told) one_capture_held (captures_in files) c d h.captures_held k.captures_held

  -- the next batch of a list that stands beside names
  next_batch : (name : List ℕ) (names : List (List ℕ)) (front rest : List (List ℕ))
      → AllZip (Holds told) (name ∷ names) rest → command_count (front ++ rest) ≤ COMMANDS_MAX
      → (bytes : List ℕ) × HasBatch told (command_room front) name bytes
  next_batch name names front [] each few = absurd each
  next_batch name names front (bytes ∷ rest) each few = (
    bytes,
    record { held = each.0; few = omega (arith, commands_joined front (bytes ∷ rest), commands_from_one bytes rest) },
  )

  next_capture : (name : List ℕ) (names : List (List ℕ)) (front rest : List Capture)
      → AllZip (HoldsCapture told) (name ∷ names) rest → packet_count (front ++ rest) ≤ PACKETS_MAX
      → (capture : Capture) × HasCapture told (packet_room front) name capture
  next_capture name names front [] each few = absurd each
  next_capture name names front (capture ∷ rest) each few = (
    capture,
    record {
      bytes = each.0.0;
      held = each.0.1;
      is = each.0.2;
      few = omega (arith, packets_joined front (capture ∷ rest), packets_from_one capture rest);
    },
  )

  -- a file among files that are held is good behind those before it
  good_among : (before after : List JobFile) (file : JobFile) (batches front : List (List ℕ))
      (captures ahead : List Capture) → HasFiles told (before ++ (file ∷ after)) batches captures
      → HasFiles told before front ahead → IsGood told front ahead file
  good_among before after (JobFile.Batch name) batches front captures ahead all some =
      let cut = zip_cut (Holds told) (batches_in before) (name ∷ batches_in after) batches
      (subst (λ (names : List (List ℕ)). AllZip (Holds told) names batches)
      (batches_joined before (JobFile.Batch name ∷ after)) all.batches_held) in
      let same : cut.front ≡ front = zip_one (Holds told) one_bytes (batches_in before) cut.front front cut.before
      some.batches_held in
      subst (λ (bs : List (List ℕ)). (bytes : List ℕ) × HasBatch told (command_room bs) name bytes) same
      (next_batch name (batches_in after) cut.front cut.rest cut.after
      (subst (λ (bs : List (List ℕ)). command_count bs ≤ COMMANDS_MAX) cut.is all.few_commands))
  good_among before after (JobFile.Capture name) batches front captures ahead all some =
      let cut = zip_cut (HoldsCapture told) (captures_in before) (name ∷ captures_in after) captures
      (subst (λ (names : List (List ℕ)). AllZip (HoldsCapture told) names captures)
      (captures_joined before (JobFile.Capture name ∷ after)) all.captures_held) in
      let same : cut.front ≡ ahead = zip_one (HoldsCapture told) one_capture_held (captures_in before) cut.front
      ahead cut.before some.captures_held in
      subst (λ (cs : List Capture). (capture : Capture) × HasCapture told (packet_room cs) name capture) same
      (next_capture name (captures_in after) cut.front cut.rest cut.after
      (subst (λ (cs : List Capture). packet_count cs ≤ PACKETS_MAX) cut.is all.few_packets))

  good_not_broken : (batches : List (List ℕ)) (captures : List Capture) (file : JobFile) (name : List ℕ)
      (place : ℕ) (kind : InputKind) → IsGood told batches captures file
      → FileBreaks told batches captures file name place kind → ⊥
  good_not_broken batches captures (JobFile.Batch file) name place kind good breaks =
      not_past held (command_room batches) file good.0 place good.1 breaks.1
  good_not_broken batches captures (JobFile.Capture file) name place kind good breaks =
      not_broken held (packet_room captures) file good.0 place kind good.1 breaks.1

  -- bytes stand under the name
  abbrev Stands : List ℕ → Type 0
  Stands name = (bytes : List ℕ) × Holds told name bytes

  good_stands : (batches : List (List ℕ)) (captures : List Capture) (file : JobFile)
      → IsGood told batches captures file → Stands (name_of file)
  good_stands batches captures (JobFile.Batch file) good = (good.0, good.1.held)
  good_stands batches captures (JobFile.Capture file) good = (good.1.bytes, good.1.held)

  broken_stands : (batches : List (List ℕ)) (captures : List Capture) (file : JobFile) (name : List ℕ)
      (place : ℕ) (kind : InputKind) → FileBreaks told batches captures file name place kind
      → Stands (name_of file)
  broken_stands batches captures (JobFile.Batch file) name place kind breaks = (breaks.1.bytes, breaks.1.held)
  broken_stands batches captures (JobFile.Capture file) name place kind breaks = (breaks.1.bytes, breaks.1.held)

  -- ---- one break
  abbrev SameBreak : List ℕ → ℕ → InputKind → List ℕ → ℕ → InputKind → Type 0
  SameBreak name place kind other at what = (name ≡ other) × (place ≡ at) × (kind ≡ what)

  one_file_break : (batches : List (List ℕ)) (captures : List Capture) (file : JobFile) (name : List ℕ)
      (place : ℕ) (kind : InputKind) (other : List ℕ) (at : ℕ) (what : InputKind)
      → FileBreaks told batches captures file name place kind → FileBreaks told batches captures file other at what
      → SameBreak name place kind other at what
  one_file_break batches captures (JobFile.Batch file) name place kind other at what a b =
      (a.0 ∙ sym b.0, same_past held (command_room batches) file place at a.1 b.1, a.2 ∙ sym b.2)
  one_file_break batches captures (JobFile.Capture file) name place kind other at what a b =
      let same = same_break held (packet_room captures) file place at kind what a.1 b.1 in
      (a.0 ∙ sym b.0, same.0, same.1)

  -- a file that breaks is behind all files that are good
  not_behind : (files before after : List JobFile) (file : JobFile) (batches front : List (List ℕ))
      (captures ahead : List Capture) (name : List ℕ) (place : ℕ) (kind : InputKind)
      → HasFiles told files batches captures → files ≡ before ++ (file ∷ after) → HasFiles told before front ahead
      → FileBreaks told front ahead file name place kind → ⊥
  not_behind files before after file batches front captures ahead name place kind all order some breaks =
      good_not_broken front ahead file name place kind
      (good_among before after file batches front captures ahead
      (subst (λ (fs : List JobFile). HasFiles told fs batches captures) order all) some) breaks

  no_files_break : (files : List JobFile) (batches : List (List ℕ)) (captures : List Capture) (name : List ℕ)
      (place : ℕ) (kind : InputKind) → HasFiles told files batches captures
      → FilesBreak told files name place kind → ⊥
  no_files_break files batches captures name place kind all found =
      not_behind files found.reached.before found.reached.after found.file batches found.batches captures
      found.captures name place kind all found.reached.order found.reached.good found.breaks

  module _ (files : List JobFile) where
    in_one_order : (a b : List (List ℕ)) (c d : List Capture) (f g : JobFile) (x : IsReached told files a c f)
        (y : IsReached told files b d g) → InOrder x.before f y.before g
    in_one_order a b c d f g x y =
        in_order x.before f x.after y.before g y.after (sym x.order ∙ y.order)

    one_files_break : (name : List ℕ) (place : ℕ) (kind : InputKind) (other : List ℕ) (at : ℕ) (what : InputKind)
        → FilesBreak told files name place kind → FilesBreak told files other at what
        → SameBreak name place kind other at what
    one_files_break name place kind other at what x y =
        elim (in_one_order x.batches y.batches x.captures y.captures x.file y.file x.reached y.reached) [
          | inl same ↦
              let good = subst (λ (fs : List JobFile). HasFiles told fs x.batches x.captures) same.0
              x.reached.good in
              let bs = one_batches y.reached.before x.batches y.batches x.captures y.captures good y.reached.good in
              let cs = one_captures y.reached.before x.batches y.batches x.captures y.captures good y.reached.good in
              one_file_break y.batches y.captures y.file name place kind other at what
              (subst (λ (f : JobFile). FileBreaks told y.batches y.captures f name place kind) same.1
              (subst (λ (k : List Capture). FileBreaks told y.batches k x.file name place kind) cs
              (subst (λ (b : List (List ℕ)). FileBreaks told b x.captures x.file name place kind) bs x.breaks)))
              y.breaks
          | inr (inl first) ↦ absurd (not_behind y.reached.before x.reached.before first.0 x.file y.batches
              x.batches y.captures x.captures name place kind y.reached.good first.1 x.reached.good x.breaks)
          | inr (inr second) ↦ absurd (not_behind x.reached.before y.reached.before second.0 y.file x.batches
              y.batches x.captures y.captures other at what x.reached.good second.1 y.reached.good y.breaks)
        ]

    -- a file that comes to be read, where a file breaks, stands
    read_stands : (name : List ℕ) (place : ℕ) (kind : InputKind) (file : List ℕ)
        → FilesBreak told files name place kind → FilesRead told files file → Stands file
    read_stands name place kind file x y =
        subst Stands (sym y.named)
        (elim (in_one_order x.batches y.batches x.captures y.captures x.file y.file x.reached y.reached) [
          | inl same ↦ subst (λ (f : JobFile). Stands (name_of f)) same.1
              (broken_stands x.batches x.captures x.file name place kind x.breaks)
          | inr (inl first) ↦ absurd (not_behind y.reached.before x.reached.before first.0 x.file y.batches
              x.batches y.captures x.captures name place kind y.reached.good first.1 x.reached.good x.breaks)
          | inr (inr second) ↦ good_stands y.batches y.captures y.file
              (good_among y.reached.before second.0 y.file x.batches y.batches x.captures y.captures
              (subst (λ (fs : List JobFile). HasFiles told fs x.batches x.captures) second.1 x.reached.good)
              y.reached.good)
        ])

    all_stand : (batches : List (List ℕ)) (captures : List Capture) (file : List ℕ)
        → HasFiles told files batches captures → FilesRead told files file → Stands file
    all_stand batches captures file all y =
        subst Stands (sym y.named)
        (good_stands y.batches y.captures y.file
        (good_among y.reached.before y.reached.after y.file batches y.batches captures y.captures
        (subst (λ (fs : List JobFile). HasFiles told fs batches captures) y.reached.order all) y.reached.good))

  -- ---- the job's own file
  one_job_file : (name : List ℕ) (a b : Job) → HasJobFile told name a → HasJobFile told name b → a ≡ b
  one_job_file name a b h k =
      same_job k.bytes a b
      (subst (λ (bytes : List ℕ). IsJobOf bytes a) (one_bytes name h.bytes k.bytes h.held k.held) h.is) k.is

  no_form_fault : (name : List ℕ) (job : Job) (place : ℕ) (kind : InputKind) → HasJobFile told name job
      → HasFormFault told name place kind → ⊥
  no_form_fault name job place kind h k =
      no_fault k.bytes job place k.what
      (subst (λ (bytes : List ℕ). IsJobOf bytes job) (one_bytes name h.bytes k.bytes h.held k.held) h.is) k.is

  one_form_fault : (name : List ℕ) (p q : ℕ) (k l : InputKind) → HasFormFault told name p k
      → HasFormFault told name q l → (p ≡ q) × (k ≡ l)
  one_form_fault name p q k l h g =
      let same = one_fault g.bytes p q h.what g.what
      (subst (λ (bytes : List ℕ). IsFormFault bytes p h.what) (one_bytes name h.bytes g.bytes h.held g.held) h.is)
      g.is in
      (same.0, h.told_as ∙ ap kind_of same.1 ∙ sym g.told_as)

  -- ---- the whole job
  one_job : (name : List ℕ) (a b : LoadedJob) → HasJob told name a → HasJob told name b → a ≡ b
  one_job name a b h k =
      let job = one_job_file name a.job b.job h.job k.job in
      let files = subst (λ (j : Job). HasFiles told (files_of j) a.batches a.captures) job h.files in
      let bs = one_batches (files_of b.job) a.batches b.batches a.captures b.captures files k.files in
      let cs = one_captures (files_of b.job) a.batches b.batches a.captures b.captures files k.files in
      same_loaded a.job b.job a.batches b.batches a.captures b.captures job bs cs

  no_job_break : (name : List ℕ) (loaded : LoadedJob) (file : List ℕ) (place : ℕ) (kind : InputKind)
      → HasJob told name loaded → JobBreaks told name file place kind → ⊥
  no_job_break name loaded file place kind has (inl own) = no_form_fault name loaded.job place kind has.job own.1
  no_job_break name loaded file place kind has (inr (said, says, breaks)) =
      no_files_break (files_of loaded.job) loaded.batches loaded.captures file place kind has.files
      (subst (λ (j : Job). FilesBreak told (files_of j) file place kind)
      (one_job_file name said loaded.job says has.job) breaks)

  one_job_break : (name file : List ℕ) (place : ℕ) (kind : InputKind) (other : List ℕ) (at : ℕ)
      (what : InputKind) → JobBreaks told name file place kind → JobBreaks told name other at what
      → SameBreak file place kind other at what
  one_job_break name file place kind other at what (inl a) (inl b) =
      let same = one_form_fault name place at kind what a.1 b.1 in (a.0 ∙ sym b.0, same.0, same.1)
  one_job_break name file place kind other at what (inl a) (inr (said, says, breaks)) =
      absurd (no_form_fault name said place kind says a.1)
  one_job_break name file place kind other at what (inr (said, says, breaks)) (inl b) =
      absurd (no_form_fault name said at what says b.1)
  one_job_break name file place kind other at what (inr (said, says, breaks)) (inr (job, is, ends)) =
      one_files_break (files_of job) file place kind other at what
      (subst (λ (j : Job). FilesBreak told (files_of j) file place kind) (one_job_file name said job says is) breaks)
      ends

  -- ---- what is due
  same_status : (name : List ℕ) (place : ℕ) (kind : InputKind) (other : List ℕ) (at : ℕ) (what : InputKind)
      → SameBreak name place kind other at what
      → statuses.BadInput name place kind ≡ statuses.BadInput other at what
  same_status name place kind other at what same =
      let a = same.0 in
      let b = same.1 in
      let c = same.2 in
      cc

  no_due_break : (name : List ℕ) (loaded : LoadedJob) (status : Status) → HasJob told name loaded
      → CallsForFailure told name status → ⊥
  no_due_break name loaded (statuses.BadInput file place kind) has due =
      no_job_break name loaded file place kind has due
  no_due_break name loaded status has due = due

  one_break_status : (name file : List ℕ) (place : ℕ) (kind : InputKind) (status : Status)
      → JobBreaks told name file place kind → CallsForFailure told name status
      → statuses.BadInput file place kind ≡ status
  one_break_status name file place kind (statuses.BadInput other at what) breaks due =
      same_status file place kind other at what (one_job_break name file place kind other at what breaks due)
  one_break_status name file place kind status breaks due = absurd due

  one_failure : (name : List ℕ) (status other : Status) → CallsForFailure told name status
      → CallsForFailure told name other → status ≡ other
  one_failure name (statuses.BadInput file place kind) other due also =
      one_break_status name file place kind other due also
  one_failure name status other due also = absurd due

  pub one_answer : (name : List ℕ) (a b : Result LoadedJob Status) → CallsFor told name a → CallsFor told name b → a ≡ b
  one_answer name (Ok a) (Ok b) x y = ap (λ (l : LoadedJob). Ok l) (one_job name a b x y)
  one_answer name (Ok a) (Err b) x y = absurd (no_due_break name a b x y)
  one_answer name (Err a) (Ok b) x y = absurd (no_due_break name b a y x)
  one_answer name (Err a) (Err b) x y = ap (λ (s : Status). Err s) (one_failure name a b x y)

  -- ---- what comes to be read stands, up to what is due
  job_stands : (name file : List ℕ) (loaded : LoadedJob) → HasJob told name loaded → JobReads told name file
      → Stands file
  job_stands name file loaded has (inl own) = subst Stands (sym own) (has.job.bytes, has.job.held)
  job_stands name file loaded has (inr (said, says, read)) =
      all_stand (files_of loaded.job) loaded.batches loaded.captures file has.files
      (subst (λ (j : Job). FilesRead told (files_of j) file) (one_job_file name said loaded.job says has.job) read)

  break_stands : (name file other : List ℕ) (place : ℕ) (kind : InputKind) → JobBreaks told name other place kind
      → JobReads told name file → Stands file
  break_stands name file other place kind (inl a) (inl own) = subst Stands (sym own) (a.1.bytes, a.1.held)
  break_stands name file other place kind (inl a) (inr (said, says, read)) =
      absurd (no_form_fault name said place kind says a.1)
  break_stands name file other place kind (inr (said, says, breaks)) (inl own) =
      subst Stands (sym own) (says.bytes, says.held)
  break_stands name file other place kind (inr (said, says, breaks)) (inr (job, is, read)) =
      read_stands (files_of job) other place kind file
      (subst (λ (j : Job). FilesBreak told (files_of j) other place kind) (one_job_file name said job says is) breaks)
      read

  failure_stands : (name file : List ℕ) (status : Status) → CallsForFailure told name status
      → JobReads told name file → Stands file
  failure_stands name file (statuses.BadInput other place kind) due reads =
      break_stands name file other place kind due reads
  failure_stands name file status due reads = absurd due

  pub stands : (name file : List ℕ) (due : Result LoadedJob Status) → CallsFor told name due
      → JobReads told name file → Stands file
  stands name file (Ok loaded) due reads = job_stands name file loaded due reads
  stands name file (Err status) due reads = failure_stands name file status due reads

-- ---- for a shelf that may tell or not
one_told : (told : Option Held) (name : List ℕ) (a b : Result LoadedJob Status) → IsSome told
    → CallsFor told name a → CallsFor told name b → a ≡ b
one_told None name a b some x y = absurd (false≢true some)
one_told (Some held) name a b some x y = one_answer held name a b x y

missing_not_due : (told : Option Held) (name file : List ℕ) (due : Result LoadedJob Status)
    → CallsFor told name due → JobReads told name file → IsSomeAnd told (λ h. h file ≡ None) → ⊥
missing_not_due None name file due is reads none = absurd none
missing_not_due (Some held) name file due is reads none =
    let there = stands held name file due is reads in
    let is_there : held file ≡ Some there.0 = there.1 in
    cc

module _ {S : Type 0} (held : S → Option Held) (read_faults : S → ℕ) (failed_name : S → Option (List ℕ)) where
  pub due_or_outside : (old new : S) (name : List ℕ) (result : Result LoadedJob Status)
      → IfOk result (HasJob (held old) name)
      → IfErr result (JobFails held read_faults failed_name old new name) → IsSome (held old)
      → (due : Result LoadedJob Status) → CallsFor (held old) name due
      → (result ≡ due) ⊎ FailedOutside read_faults old new result
  due_or_outside old new name (Ok loaded) done why some due is =
      inl (one_told (held old) name (Ok loaded) due some done is)
  due_or_outside old new name (Err (statuses.BadInput file place kind)) done why some due is =
      inl (one_told (held old) name (Err (statuses.BadInput file place kind)) due some why is)
  due_or_outside old new name (Err (statuses.ReadFault file)) done (reads, inl none) some due is =
      absurd (missing_not_due (held old) name file due is reads none)
  due_or_outside old new name (Err (statuses.ReadFault file)) done (reads, inr failed) some due is = inr failed.0
  due_or_outside old new name (Err (statuses.NoMemory memory)) done why some due is = inr tt
  due_or_outside old new name (Err status) done why some due is = absurd why
