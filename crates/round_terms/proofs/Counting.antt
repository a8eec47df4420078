-- No more lines are met than the batches have.
use Rattle.std.proofs.Common.{◌≡◌, ◌∙◌, ℕ, zero, suc, ◌+◌, ◌≤◌, ◌<◌, ◌≢◌, ◌==◌, Bool, true, false, List, [], ◌∷◌, length, Some, refl, sym, ap, subst, eq-eqb, arith}
use Rattle.std.specs.Prelude.{sum_by, slice_set, if◌then◌else◌}
use Rattle.std.specs.List.{slice_get}
use Rattle.std.proofs.lemmas.List.Sums.{sum_by-cons}
use Rattle.filter_state.specs.declared.edit.Edit.{Edit}
use Rattle.filter_state.specs.States.{State}
use Rattle.run_report.specs.declared.events.Event.{Event}
use Rattle.lawful_runs.specs.Given.{GivenBatch}
use Rattle.lawful_runs.specs.Events.{events_of, AreResults}
use Rattle.round_terms.specs.Files.{RoundFile}
use Rattle.round_terms.specs.declared.place.Place.{Place}
use Rattle.round_terms.specs.Files.{given_of, batches_of}

-- ---- the batch at a place
pub given_at : (files : List RoundFile) (at : ℕ) (file : RoundFile) → slice_get files at ≡ Some file → slice_get (batches_of files) at ≡ Some (given_of file)
given_at [] at file is = absurd (cc is)
given_at (first ∷ files) zero file is = let same : first ≡ file = cc in ap (λ (f : RoundFile). Some (given_of f)) same
given_at (first ∷ files) (suc at) file is = given_at files at file is

pub record IsGivenAt (files : List RoundFile) (batch : GivenBatch) : Type 0 where
  pub at : ℕ
  pub file : RoundFile
  pub there : slice_get files at ≡ Some file
  pub same : given_of file ≡ batch

behind : (first : RoundFile) (files : List RoundFile) (batch : GivenBatch) → IsGivenAt files batch → IsGivenAt (first ∷ files) batch
behind first files batch it = record { at = suc it.at; file = it.file; there = it.there; same = it.same }

pub file_at : (files : List RoundFile) (at : ℕ) (batch : GivenBatch) → slice_get (batches_of files) at ≡ Some batch → IsGivenAt files batch
file_at [] at batch is = absurd (cc is)
file_at (first ∷ files) zero batch is = let same : given_of first ≡ batch = cc in record { at = 0; file = first; there = refl; same = same }
file_at (first ∷ files) (suc at) batch is = behind first files batch (file_at files at batch is)

-- ---- sums
pub sum_most : (g h : RoundFile → ℕ) (files : List RoundFile) → ((at : ℕ) (f : RoundFile) → slice_get files at ≡ Some f → h f ≤ g f) → sum_by h files ≤ sum_by g files
sum_most g h [] each = omega arith
sum_most g h (first ∷ files) each =
    let here = each 0 first refl in
    let rest = sum_most g h files (λ at f is. each (suc at) f is) in
    let a = sum_by-cons g first files in
    let b = sum_by-cons h first files in
    omega (arith, here, rest, a, b)

pub sum_more : (g h : RoundFile → ℕ) (files : List RoundFile) (at : ℕ) (file : RoundFile) → slice_get files at ≡ Some file → ((at : ℕ) (f : RoundFile) → slice_get files at ≡ Some f → h f ≤ g f) → h file + 1 ≤ g file
    → sum_by h files + 1 ≤ sum_by g files
sum_more g h [] at file is each more = absurd (cc is)
sum_more g h (first ∷ files) zero file is each more =
    let same : file ≡ first = cc in
    let own : h first + 1 ≤ g first = subst (λ (f : RoundFile). h f + 1 ≤ g f) same more in
    let rest = sum_most g h files (λ at f is. each (suc at) f is) in
    let a = sum_by-cons g first files in
    let b = sum_by-cons h first files in
    omega (arith, own, rest, a, b)
sum_more g h (first ∷ files) (suc at) file is each more =
    let here = each 0 first refl in
    let rest = sum_more g h files at file is (λ at f is. each (suc at) f is) more in
    let a = sum_by-cons g first files in
    let b = sum_by-cons h first files in
    omega (arith, here, rest, a, b)

-- ---- each event is counted with its control
one_in : (b : Bool) (first : Event) (kept : List Event) → length kept ≤ length (if b then first ∷ kept else kept)
one_in true first kept = omega arith
one_in false first kept = omega arith

own_in : (b : Bool) (first : Event) (kept : List Event) → b ≡ true → length kept + 1 ≤ length (if b then first ∷ kept else kept)
own_in true first kept is = omega arith
own_in false first kept is = absurd (cc is)

pub each_counted : (files : List RoundFile) (s : State) (events : List Event) (edits : List Edit) → AreResults (batches_of files) s events edits → length events ≤ sum_by (λ (f : RoundFile). length (events_of f.control events)) files
each_counted files s [] edits is = omega arith
each_counted files s (first ∷ events) edits (words, next, own, rest, line, result, more, whole) =
    let later = each_counted files next events rest more in
    let it = file_at files line.given.0 line.batch line.given.1 in
    let control : it.file.control ≡ line.batch.control = ap (λ (b : GivenBatch). b.control) it.same in
    let by : first.control ≡ it.file.control = sym line.control ∙ sym control in
    let g : RoundFile → ℕ = λ (f : RoundFile). length (events_of f.control (first ∷ events)) in
    let h : RoundFile → ℕ = λ (f : RoundFile). length (events_of f.control events) in
    let grown : sum_by h files + 1 ≤ sum_by g files =
    sum_more g h files it.at it.file it.there (λ at f is. one_in (first.control == f.control) first (events_of f.control events))
    (own_in (first.control == it.file.control) first (events_of it.file.control events) (eq-eqb first.control it.file.control by)) in
    omega (arith, later, grown)

-- ---- places
pub set_same : (places : List Place) (at : ℕ) (place : Place) → at < length places → slice_get (slice_set places at place) at ≡ Some place
set_same [] at place less = absurd (omega (arith, less))
set_same (first ∷ places) zero place less = refl
set_same (first ∷ places) (suc at) place less = set_same places at place (omega (arith, less))

pub set_other : (places : List Place) (at other : ℕ) (place : Place) → other ≢ at → slice_get (slice_set places at place) other ≡ slice_get places other
set_other [] at other place apart = refl
set_other (first ∷ places) zero zero place apart = absurd (apart refl)
set_other (first ∷ places) zero (suc other) place apart = refl
set_other (first ∷ places) (suc at) zero place apart = refl
set_other (first ∷ places) (suc at) (suc other) place apart = set_other places at other place (λ same. apart (ap suc same))
