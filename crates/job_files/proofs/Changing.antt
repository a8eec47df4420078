-- A shelf that tells what it holds has one change of three names at most, or one first fault.
use Rattle.std.proofs.Common.{◌≡◌, ◌⊎◌, inl, inr, ◌∙◌, ℕ, List, Option, Some, sym, ap, subst}
use Rattle.batch_run.specs.declared.limit.TheConstants.{COMMANDS_MAX}
use Rattle.walk_ends.specs.declared.limits.TheConstants.{PACKETS_MAX}
use Rattle.tc_base.specs.Outside.{Held}
use Rattle.pcap_io.specs.declared.capture.Capture.{Capture}
use Rattle.pcap_io.specs.Captures.{IsCapture}
use Rattle.pcap_io.proofs.Unique.{one_capture}
use Rattle.tool_words.specs.Command.{ChangeFiles}
use Rattle.tool_words.specs.declared.status.InputKind.{InputKind}
use Rattle.tool_words.specs.declared.status.InputKind.TheVariants as kinds
use Rattle.tool_words.specs.declared.status.Status.{Status}
use Rattle.tool_words.specs.declared.status.Status.TheVariants as statuses
use Rattle.job_files.specs.declared.inputs.changes.LoadedChange.{LoadedChange}
use Rattle.job_files.specs.OfInputs.Holdings.{Holds, HasBatch, HasTooManyLines, HasCapture, HasBreak}
use Rattle.job_files.proofs.OfInputs.Readings.{same_bytes, same_past, not_past, not_broken, same_break}
use Rattle.job_files.specs.Changes.{room_behind, HasChange, HasFirst, HasBoth, PassesBehind, ChangeBreaks, ChangeReads}

abbrev of_files : List ℕ → List ℕ → Capture → LoadedChange
of_files batch change capture = record { batch = batch; change = change; capture = capture }

same_files : (a b c d : List ℕ) (x y : Capture) → a ≡ b → c ≡ d → x ≡ y → of_files a c x ≡ of_files b d y
same_files a b c d x y p q r = cc

same_input : (name other : List ℕ) (place at : ℕ) (kind what : InputKind) → name ≡ other → place ≡ at → kind ≡ what
    → statuses.BadInput name place kind ≡ statuses.BadInput other at what
same_input name other place at kind what p q r = cc

module _ (held : Held) (names : ChangeFiles) where
  abbrev told : Option Held
  told = Some held

  one_batch : (room other : ℕ) (name x y : List ℕ) → HasBatch told room name x → HasBatch told other name y → x ≡ y
  one_batch room other name x y h k = same_bytes held name x y h.held k.held

  one_taken : (room : ℕ) (name : List ℕ) (c d : Capture) → HasCapture told room name c → HasCapture told room name d
      → c ≡ d
  one_taken room name c d h k =
      one_capture k.bytes c d (subst (λ (bytes : List ℕ). IsCapture bytes c)
      (same_bytes held name h.bytes k.bytes h.held k.held) h.is) k.is

  -- THE CHANGE IS ONE
  pub one_loaded : (a b : LoadedChange) → HasChange told names a → HasChange told names b → a ≡ b
  one_loaded a b h k =
      same_files a.batch b.batch a.change b.change a.capture b.capture
      (one_batch COMMANDS_MAX COMMANDS_MAX names.batch a.batch b.batch h.batch k.batch)
      (one_batch (room_behind a.batch) (room_behind b.batch) names.change a.change b.change h.change k.change)
      (one_taken PACKETS_MAX names.capture a.capture b.capture h.capture k.capture)

  -- ---- a batch and its change that stand don't pass the limit
  within : (bytes : List ℕ) (line : ℕ) → HasBatch told COMMANDS_MAX names.batch bytes
      → HasTooManyLines told COMMANDS_MAX names.batch line → ⊥
  within bytes line h past = not_past held COMMANDS_MAX names.batch bytes line h past

  within_behind : (bytes more : List ℕ) (line : ℕ) → HasBatch told COMMANDS_MAX names.batch bytes
      → HasBatch told (room_behind bytes) names.change more → PassesBehind told names line → ⊥
  within_behind bytes more line h k past =
      not_past held (room_behind bytes) names.change more line k
      (subst (λ (b : List ℕ). HasTooManyLines told (room_behind b) names.change line)
      (one_batch COMMANDS_MAX COMMANDS_MAX names.batch past.bytes bytes past.batch h) past.past)

  -- files that stand have no break
  pub loaded_not_broken : (a : LoadedChange) (name : List ℕ) (place : ℕ) (kind : InputKind)
      → HasChange told names a → ChangeBreaks told names name place kind → ⊥
  loaded_not_broken a name place kind h (inl past) = within a.batch place h.batch past.1
  loaded_not_broken a name place kind h (inr (inl past)) =
      within_behind a.batch a.change place h.batch h.change past.1
  loaded_not_broken a name place kind h (inr (inr broken)) =
      not_broken held PACKETS_MAX names.capture a.capture place kind h.capture broken.2

  -- THE FIRST BREAK IS ONE
  same_behind : (p q : ℕ) → PassesBehind told names p → PassesBehind told names q → p ≡ q
  same_behind p q h k =
      same_past held (room_behind k.bytes) names.change p q
      (subst (λ (b : List ℕ). HasTooManyLines told (room_behind b) names.change p)
      (one_batch COMMANDS_MAX COMMANDS_MAX names.batch h.bytes k.bytes h.batch k.batch) h.past) k.past

  pub one_broken : (name other : List ℕ) (place at : ℕ) (kind what : InputKind)
      → ChangeBreaks told names name place kind → ChangeBreaks told names other at what
      → statuses.BadInput name place kind ≡ statuses.BadInput other at what
  one_broken name other place at kind what (inl h) (inl k) =
      same_input name other place at kind what (h.0 ∙ sym k.0)
      (same_past held COMMANDS_MAX names.batch place at h.1 k.1) (h.2 ∙ sym k.2)
  one_broken name other place at kind what (inl h) (inr (inl k)) = absurd (within k.1.bytes place k.1.batch h.1)
  one_broken name other place at kind what (inl h) (inr (inr k)) = absurd (within k.1.bytes place k.1.batch h.1)
  one_broken name other place at kind what (inr (inl h)) (inl k) = absurd (within h.1.bytes at h.1.batch k.1)
  one_broken name other place at kind what (inr (inl h)) (inr (inl k)) =
      same_input name other place at kind what (h.0 ∙ sym k.0) (same_behind place at h.1 k.1) (h.2 ∙ sym k.2)
  one_broken name other place at kind what (inr (inl h)) (inr (inr k)) =
      absurd (within_behind k.1.bytes k.1.more place k.1.batch k.1.change h.1)
  one_broken name other place at kind what (inr (inr h)) (inl k) = absurd (within h.1.bytes at h.1.batch k.1)
  one_broken name other place at kind what (inr (inr h)) (inr (inl k)) =
      absurd (within_behind h.1.bytes h.1.more at h.1.batch h.1.change k.1)
  one_broken name other place at kind what (inr (inr h)) (inr (inr k)) =
      let e = same_break held PACKETS_MAX names.capture place at kind what h.2 k.2 in
      same_input name other place at kind what (h.0 ∙ sym k.0) e.0 e.1

  -- ---- what comes to be read stands, where the files are held or one of them breaks
  named : (name file bytes : List ℕ) → name ≡ file → Holds told file bytes → (found : List ℕ) × Holds told name found
  named name file bytes is holds = (bytes, subst (λ (n : List ℕ). Holds told n bytes) (sym is) holds)

  pub loaded_stands : (a : LoadedChange) (name : List ℕ) → HasChange told names a → ChangeReads told names name
      → (found : List ℕ) × Holds told name found
  loaded_stands a name h (inl is) = named name names.batch a.batch is h.batch.held
  loaded_stands a name h (inr (inl reads)) = named name names.change a.change reads.0 h.change.held
  loaded_stands a name h (inr (inr reads)) = named name names.capture h.capture.bytes reads.0 h.capture.held

  pub broken_stands : (file name : List ℕ) (place : ℕ) (kind : InputKind) → ChangeBreaks told names file place kind
      → ChangeReads told names name → (found : List ℕ) × Holds told name found
  broken_stands file name place kind (inl h) (inl is) = named name names.batch h.1.bytes is h.1.held
  broken_stands file name place kind (inl h) (inr (inl reads)) = absurd (within reads.1.0 place reads.1.1 h.1)
  broken_stands file name place kind (inl h) (inr (inr reads)) =
      absurd (within reads.1.bytes place reads.1.batch h.1)
  broken_stands file name place kind (inr (inl h)) (inl is) = named name names.batch h.1.bytes is h.1.batch.held
  broken_stands file name place kind (inr (inl h)) (inr (inl reads)) =
      named name names.change h.1.past.bytes reads.0 h.1.past.held
  broken_stands file name place kind (inr (inl h)) (inr (inr reads)) =
      absurd (within_behind reads.1.bytes reads.1.more place reads.1.batch reads.1.change h.1)
  broken_stands file name place kind (inr (inr h)) (inl is) = named name names.batch h.1.bytes is h.1.batch.held
  broken_stands file name place kind (inr (inr h)) (inr (inl reads)) =
      named name names.change h.1.more reads.0 h.1.change.held
  broken_stands file name place kind (inr (inr h)) (inr (inr reads)) =
      named name names.capture h.2.bytes reads.0 h.2.held
