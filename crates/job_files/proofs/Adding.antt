-- Files that are added to those that were loaded before.
use Rattle.std.proofs.Common.{◌≡◌, ◌∙◌, inl, inr, ℕ, ◌≤◌, List, [], ◌∷◌, ◌++◌, Option, None, sym, ap, subst, arith, append_assoc}
use Rattle.std.specs.Prelude.{IsSomeAnd}
use Rattle.std.specs.List.{AllZip}
use Rattle.std.proofs.lemmas.List.{append-nil}
use Rattle.tc_base.specs.Outside.{Held, Rose}
use Rattle.pcap_io.specs.declared.capture.Capture.{Capture}
use Rattle.tool_words.specs.declared.status.Status.{Status}
use Rattle.tool_words.specs.declared.status.Status.TheVariants as statuses
use Rattle.job_files.specs.OfInputs.Holdings.{Holds, HasBatch, HasCapture}
use Rattle.job_files.specs.OfInputs.Failures.{ReadFails}
use Rattle.job_files.specs.Named.{JobFile, batches_in, captures_in}
use Rattle.job_files.specs.Holdings.{HoldsCapture, HasFiles}
use Rattle.job_files.specs.Faults.{command_room, packet_room, IsReached, FilesBreak, FilesRead}
use Rattle.job_files.specs.Loaded.{Loaded}
use Rattle.job_files.specs.Growing.{Gave, Grows, FilesFail, AddFails}
use Rattle.job_files.proofs.Joined.{batches_joined, captures_joined, commands_joined, packets_joined, all_zip_joined}

-- ---- one file more
pub batch_more : (told : Option Held) (files : List JobFile) (batches : List (List ℕ)) (captures : List Capture)
    (name bytes : List ℕ) → HasFiles told files batches captures
    → HasBatch told (command_room batches) name bytes
    → HasFiles told (files ++ JobFile.Batch name ∷ []) (batches ++ bytes ∷ []) captures
batch_more told files batches captures name bytes has batch = record {
  batches_held =
      subst (λ (names : List (List ℕ)). AllZip (Holds told) names (batches ++ bytes ∷ []))
      (sym (batches_joined files (JobFile.Batch name ∷ [])))
      (all_zip_joined (Holds told) (batches_in files) batches (name ∷ []) (bytes ∷ []) has.batches_held
      (batch.held, tt));
  captures_held =
      subst (λ (names : List (List ℕ)). AllZip (HoldsCapture told) names captures)
      (sym (captures_joined files (JobFile.Batch name ∷ []) ∙ append-nil (captures_in files)))
      has.captures_held;
  few_commands =
      let few = has.few_commands in
      let more = batch.few in
      omega (arith, commands_joined batches (bytes ∷ []));
  few_packets = has.few_packets;
}

pub capture_more : (told : Option Held) (files : List JobFile) (batches : List (List ℕ))
    (captures : List Capture) (name : List ℕ) (capture : Capture) → HasFiles told files batches captures
    → HasCapture told (packet_room captures) name capture
    → HasFiles told (files ++ JobFile.Capture name ∷ []) batches (captures ++ capture ∷ [])
capture_more told files batches captures name capture has found = record {
  batches_held =
      subst (λ (names : List (List ℕ)). AllZip (Holds told) names batches)
      (sym (batches_joined files (JobFile.Capture name ∷ []) ∙ append-nil (batches_in files)))
      has.batches_held;
  captures_held =
      subst (λ (names : List (List ℕ)). AllZip (HoldsCapture told) names (captures ++ capture ∷ []))
      (sym (captures_joined files (JobFile.Capture name ∷ [])))
      (all_zip_joined (HoldsCapture told) (captures_in files) captures (name ∷ []) (capture ∷ [])
      has.captures_held ((found.bytes, found.held, found.is), tt));
  few_commands = has.few_commands;
  few_packets =
      let few = has.few_packets in
      let more = found.few in
      omega (arith, packets_joined captures (capture ∷ []));
}

-- ---- files behind files
pub grows_none : (told : Option Held) (loaded : Loaded) → Grows told loaded [] loaded
grows_none told loaded front gave = subst (λ (files : List JobFile). Gave told files loaded) (sym (append-nil front)) gave

pub grows_then : (told : Option Held) (old mid new : Loaded) (files more : List JobFile) → Grows told old files mid
    → Grows told mid more new → Grows told old (files ++ more) new
grows_then told old mid new files more first second front gave =
    subst (λ (all : List JobFile). Gave told all new) (append_assoc front files more)
    (second (front ++ files) (first front gave))

pub grows_on : (told later : Option Held) (old mid new : Loaded) (files more all : List JobFile) → later ≡ told
    → all ≡ files ++ more → Grows told old files mid → Grows later mid more new → Grows told old all new
grows_on told later old mid new files more all same order first second =
    subst (λ (whole : List JobFile). Grows told old whole new) (sym order)
    (grows_then told old mid new files more first
    (subst (λ (held : Option Held). Grows held mid more new) same second))

-- ---- a fault among files is one among more files
reached_sooner : (told : Option Held) (files more : List JobFile) (batches : List (List ℕ))
    (captures : List Capture) (file : JobFile) → IsReached told files batches captures file
    → IsReached told (files ++ more) batches captures file
reached_sooner told files more batches captures file reached = record {
  before = reached.before;
  after = reached.after ++ more;
  order =
      ap (λ (all : List JobFile). all ++ more) reached.order
      ∙ append_assoc reached.before (file ∷ reached.after) more;
  good = reached.good;
}

module _ {S : Type 0} (held : S → Option Held) (read_faults : S → ℕ) (failed_name : S → Option (List ℕ)) where
  fails_sooner : (old new : S) (files more : List JobFile) (status : Status)
      → FilesFail held read_faults failed_name old new files status
      → FilesFail held read_faults failed_name old new (files ++ more) status
  fails_sooner old new files more (statuses.ReadFault name) why =
      let read = why.0 in (
        record {
          batches = read.batches;
          captures = read.captures;
          file = read.file;
          reached = reached_sooner (held old) files more read.batches read.captures read.file read.reached;
          named = read.named;
        },
        why.1,
      )
  fails_sooner old new files more (statuses.BadInput name place kind) why = record {
    batches = why.batches;
    captures = why.captures;
    file = why.file;
    reached = reached_sooner (held old) files more why.batches why.captures why.file why.reached;
    breaks = why.breaks;
  }
  fails_sooner old new files more (statuses.NoMemory memory) why = tt
  fails_sooner old new files more status why = absurd why

  pub add_fails_sooner : (old new : S) (loaded : Loaded) (files more : List JobFile) (status : Status)
      → AddFails held read_faults failed_name old new loaded files status
      → AddFails held read_faults failed_name old new loaded (files ++ more) status
  add_fails_sooner old new loaded files more status why front gave =
      subst (λ (all : List JobFile). FilesFail held read_faults failed_name old new all status)
      (append_assoc front files more) (fails_sooner old new (front ++ files) more status (why front gave))

  -- a later call of a shelf that holds what it held
  rose_later : (first old new : S) → read_faults first ≤ read_faults old → Rose (read_faults old) (read_faults new)
      → Rose (read_faults first) (read_faults new)
  rose_later first old new later rose = grind (arith, rose)

  read_fails_later : (first old new : S) (name : List ℕ) → held old ≡ held first
      → read_faults first ≤ read_faults old → ReadFails held read_faults failed_name old new name
      → ReadFails held read_faults failed_name first new name
  read_fails_later first old new name same later (inl none) =
      inl (subst (λ (told : Option Held). IsSomeAnd told (λ h. h name ≡ None)) same none)
  read_fails_later first old new name same later (inr failed) = inr (rose_later first old new later failed.0, failed.1)

  pub fails_later : (first old new : S) (files : List JobFile) (status : Status) → held old ≡ held first
      → read_faults first ≤ read_faults old → FilesFail held read_faults failed_name old new files status
      → FilesFail held read_faults failed_name first new files status
  fails_later first old new files (statuses.ReadFault name) same later why = (
    subst (λ (told : Option Held). FilesRead told files name) same why.0,
    read_fails_later first old new name same later why.1,
  )
  fails_later first old new files (statuses.BadInput name place kind) same later why =
      subst (λ (told : Option Held). FilesBreak told files name place kind) same why
  fails_later first old new files (statuses.NoMemory memory) same later why = tt
  fails_later first old new files status same later why = absurd why

  -- a fault behind files that were loaded in earlier calls
  pub add_fails_then : (first old new : S) (loaded mid : Loaded) (files more : List JobFile) (status : Status)
      → held old ≡ held first → read_faults first ≤ read_faults old → Grows (held first) loaded files mid
      → AddFails held read_faults failed_name old new mid more status
      → AddFails held read_faults failed_name first new loaded (files ++ more) status
  add_fails_then first old new loaded mid files more status same later grows why front gave =
      let there : Gave (held old) (front ++ files) mid =
      subst (λ (told : Option Held). Gave told (front ++ files) mid) (sym same) (grows front gave) in
      subst (λ (all : List JobFile). FilesFail held read_faults failed_name first new all status)
      (append_assoc front files more)
      (fails_later first old new ((front ++ files) ++ more) status same later (why (front ++ files) there))

  -- a fault of one among files, behind those before it
  pub add_fails_among : (first old new : S) (loaded mid : Loaded) (before file rest all : List JobFile)
      (status : Status) → all ≡ before ++ (file ++ rest) → held old ≡ held first
      → read_faults first ≤ read_faults old → Grows (held first) loaded before mid
      → AddFails held read_faults failed_name old new mid file status
      → AddFails held read_faults failed_name first new loaded all status
  add_fails_among first old new loaded mid before file rest all status order same later grows why =
      subst (λ (files : List JobFile). AddFails held read_faults failed_name first new loaded files status)
      (sym order)
      (add_fails_then first old new loaded mid before (file ++ rest) status same later grows
      (add_fails_sooner old new mid file rest status why))

-- ---- what was added
pub batch_grows : (told : Option Held) (old : Loaded) (batches items : List (List ℕ)) (captures : List Capture)
    (name text bytes : List ℕ) (room : ℕ) → record { batches = batches; captures = captures } ≡ old
    → text ≡ name → room ≡ command_room batches → HasBatch told room text bytes → items ≡ batches ++ bytes ∷ []
    → Grows told old (JobFile.Batch name ∷ []) (record { batches = items; captures = captures })
batch_grows told old batches items captures name text bytes room view named left has are front gave =
    let before : HasFiles told front batches captures = subst (λ (l : Loaded). Gave told front l) (sym view) gave in
    let batch : HasBatch told (command_room batches) name bytes =
    subst (λ (n : List ℕ). HasBatch told (command_room batches) n bytes) named
    (subst (λ (r : ℕ). HasBatch told r text bytes) left has) in
    subst (λ (all : List (List ℕ)). HasFiles told (front ++ JobFile.Batch name ∷ []) all captures) (sym are)
    (batch_more told front batches captures name bytes before batch)

pub capture_grows : (told : Option Held) (old : Loaded) (batches : List (List ℕ)) (captures items : List Capture)
    (name text : List ℕ) (capture : Capture) (room : ℕ) → record { batches = batches; captures = captures } ≡ old
    → text ≡ name → room ≡ packet_room captures → HasCapture told room text capture
    → items ≡ captures ++ capture ∷ []
    → Grows told old (JobFile.Capture name ∷ []) (record { batches = batches; captures = items })
capture_grows told old batches captures items name text capture room view named left has are front gave =
    let before : HasFiles told front batches captures = subst (λ (l : Loaded). Gave told front l) (sym view) gave in
    let found : HasCapture told (packet_room captures) name capture =
    subst (λ (n : List ℕ). HasCapture told (packet_room captures) n capture) named
    (subst (λ (r : ℕ). HasCapture told r text capture) left has) in
    subst (λ (all : List Capture). HasFiles told (front ++ JobFile.Capture name ∷ []) batches all) (sym are)
    (capture_more told front batches captures name capture before found)
