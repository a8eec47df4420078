-- The batches of a round of a job.
use Rattle.std.proofs.Common.{◌≡◌, ◌∙◌, ℕ, zero, suc, ◌+◌, ◌-◌, ◌*◌, ◌≤◌, ◌<◌, List, [], ◌∷◌, length, take, drop, get_or, Option, Some, None, refl, sym, ap, subst, arith}
use Rattle.std.specs.List.{slice_get, AllByRecursion}
use Rattle.std.proofs.lemmas.Option.{slice_get-get_or}
use Rattle.std.proofs.lemmas.List.{drop-drop}
use Rattle.std.proofs.lemmas.List.Sums.{sum_by-cons}
use Rattle.pcap_io.specs.declared.capture.Capture.{Capture}
use Rattle.job_lines.specs.declared.job.BatchName.{BatchName}
use Rattle.job_lines.specs.declared.job.Round.{Round}
use Rattle.job_lines.specs.Jobs.{IsBatch, ByControl, IsRound}
use Rattle.lawful_runs.specs.declared.loaded.LoadedJob.{LoadedJob}
use Rattle.lawful_runs.specs.Given.{GivenBatch, GivenRound, given_batches, batches_named, capture_count, rounds_from, given_rounds, IsLoaded}
use Rattle.round_terms.specs.Files.{RoundFile, files_with, files_at, first_file, files_of, AreFiles, given_of, batches_of}

-- ---- as a lawful run sees them
given_with : (names : List BatchName) (files : List (List ℕ)) → given_batches names files ≡ batches_of (files_with names files)
given_with [] files = refl
given_with (name ∷ names) [] = refl
given_with (name ∷ names) (bytes ∷ files) = ap (λ (more : List GivenBatch). given_of (record { control = name.control; force = name.force; bytes = bytes }) ∷ more) (given_with names files)

given_from : (rounds : List Round) (files : List (List ℕ)) (captures : List Capture) (at : ℕ) (given : GivenRound) → slice_get (rounds_from rounds files captures) at ≡ Some given
    → given.batches ≡ batches_of (files_at (slice_get rounds at) (drop (batches_named (take at rounds)) files))
given_from [] files captures at given is = absurd (cc is)
given_from (round ∷ rounds) files captures zero given is =
    let same : given_batches round.batches files ≡ given.batches = cc in
    sym same ∙ given_with round.batches files
given_from (round ∷ rounds) files captures (suc at) given is =
    let many : batches_named (round ∷ take at rounds) ≡ length round.batches + batches_named (take at rounds) = sum_by-cons (λ (r : Round). length r.batches) round (take at rounds) in
    given_from rounds (drop (length round.batches) files) (drop (capture_count round.capture) captures) at given is
    ∙ ap (λ (rest : List (List ℕ)). batches_of (files_at (slice_get rounds at) rest)) (drop-drop (batches_named (take at rounds)) (length round.batches) files ∙ ap (λ (n : ℕ). drop n files) (sym many))

pub given_is : (loaded : LoadedJob) (number : ℕ) (given : GivenRound) → slice_get (given_rounds loaded) (number - 1) ≡ Some given → given.batches ≡ batches_of (files_of loaded number)
given_is loaded number given is = given_from loaded.job.rounds loaded.batches loaded.captures (number - 1) given is

-- ---- each control has one at most
all_at : {X : Type 0} (P : X → Type 0) (xs : List X) (at : ℕ) (x : X) → AllByRecursion P xs → slice_get xs at ≡ Some x → P x
all_at P [] at x all is = absurd (cc is)
all_at P (first ∷ xs) zero x all is = let same : first ≡ x = cc in subst P same all.0
all_at P (first ∷ xs) (suc at) x all is = all_at P xs at x all.1 is

files_above : (least : ℕ) (names : List BatchName) (files : List (List ℕ)) (at : ℕ) (file : RoundFile) → AllByRecursion (λ (later : BatchName). least < later.control) names → slice_get (files_with names files) at ≡ Some file → least < file.control
files_above least [] files at file all is = absurd (cc is)
files_above least (name ∷ names) [] at file all is = absurd (cc is)
files_above least (name ∷ names) (bytes ∷ files) zero file all is =
    let same : record { control = name.control; force = name.force; bytes = bytes } ≡ file = cc in
    subst (λ (f : RoundFile). least < f.control) same all.0
files_above least (name ∷ names) (bytes ∷ files) (suc at) file all is = files_above least names files at file all.1 is

files_apart : (names : List BatchName) (files : List (List ℕ)) (at other : ℕ) (file also : RoundFile) → ByControl names → slice_get (files_with names files) at ≡ Some file → slice_get (files_with names files) other ≡ Some also
    → file.control ≡ also.control → at ≡ other
files_apart [] files at other file also by is there same = absurd (cc is)
files_apart (name ∷ names) [] at other file also by is there same = absurd (cc is)
files_apart (name ∷ names) (bytes ∷ files) zero zero file also by is there same = refl
files_apart (name ∷ names) (bytes ∷ files) zero (suc other) file also by is there same =
    let here : record { control = name.control; force = name.force; bytes = bytes } ≡ file = cc in
    let low : name.control ≡ file.control = ap (λ (f : RoundFile). f.control) here in
    let more = files_above name.control names files other also by.0 there in
    absurd (omega (arith, low, more, same))
files_apart (name ∷ names) (bytes ∷ files) (suc at) zero file also by is there same =
    let here : record { control = name.control; force = name.force; bytes = bytes } ≡ also = cc in
    let low : name.control ≡ also.control = ap (λ (f : RoundFile). f.control) here in
    let more = files_above name.control names files at file by.0 is in
    absurd (omega (arith, low, more, same))
files_apart (name ∷ names) (bytes ∷ files) (suc at) (suc other) file also by is there same = ap suc (files_apart names files at other file also by.1 is there same)

files_numbered : (controls : ℕ) (names : List BatchName) (files : List (List ℕ)) (at : ℕ) (file : RoundFile) → AllByRecursion (IsBatch controls) names → slice_get (files_with names files) at ≡ Some file
    → (1 ≤ file.control) × (file.control ≤ controls)
files_numbered controls [] files at file all is = absurd (cc is)
files_numbered controls (name ∷ names) [] at file all is = absurd (cc is)
files_numbered controls (name ∷ names) (bytes ∷ files) zero file all is =
    let same : record { control = name.control; force = name.force; bytes = bytes } ≡ file = cc in
    subst (λ (f : RoundFile). (1 ≤ f.control) × (f.control ≤ controls)) same (all.0.0, all.0.1)
files_numbered controls (name ∷ names) (bytes ∷ files) (suc at) file all is = files_numbered controls names files at file all.1 is

files_there : (controls : ℕ) (rounds : List Round) (at : ℕ) (found : Option Round) (files : List (List ℕ)) → AllByRecursion (IsRound controls) rounds → slice_get rounds at ≡ found → AreFiles (files_at found files) controls
files_there controls rounds at None files all is = record {
  apart = λ here other file also none there same. absurd (cc none);
  numbered = λ here file none. absurd (cc none);
}
files_there controls rounds at (Some round) files all is =
    let it = all_at (IsRound controls) rounds at round all is in
    record {
      apart = λ here other file also found there same. files_apart round.batches files here other file also it.1 found there same;
      numbered = λ here file found. files_numbered controls round.batches files here file it.0 found;
    }

pub are_files : (loaded : LoadedJob) (number : ℕ) → IsLoaded loaded → AreFiles (files_of loaded number) loaded.job.controls
are_files loaded number is =
    files_there loaded.job.controls loaded.job.rounds (number - 1) (slice_get loaded.job.rounds (number - 1)) (drop (first_file loaded number) loaded.batches) is.job.4 refl

-- ---- the place of a round's batches
sum_taken : (rounds : List Round) (at : ℕ) (round : Round) → slice_get rounds at ≡ Some round → batches_named (take (suc at) rounds) ≡ batches_named (take at rounds) + length round.batches
sum_taken [] at round is = absurd (cc is)
sum_taken (first ∷ rounds) zero round is =
    let same : first ≡ round = cc in
    let one = sum_by-cons (λ (r : Round). length r.batches) first [] in
    let long = ap (λ (r : Round). length r.batches) same in
    omega (arith, one, long)
sum_taken (first ∷ rounds) (suc at) round is =
    let rest = sum_taken rounds at round is in
    let a = sum_by-cons (λ (r : Round). length r.batches) first (take (suc at) rounds) in
    let b = sum_by-cons (λ (r : Round). length r.batches) first (take at rounds) in
    omega (arith, rest, a, b)

sum_within : (rounds : List Round) (at : ℕ) → batches_named (take at rounds) ≤ batches_named rounds
sum_within [] zero = omega arith
sum_within [] (suc at) = omega arith
sum_within (first ∷ rounds) zero = omega arith
sum_within (first ∷ rounds) (suc at) =
    let rest = sum_within rounds at in
    let a = sum_by-cons (λ (r : Round). length r.batches) first (take at rounds) in
    let b = sum_by-cons (λ (r : Round). length r.batches) first rounds in
    omega (arith, rest, a, b)

-- one round further
pub first_further : (rounds : List Round) (at : ℕ) (round : Round) → slice_get rounds at ≡ Some round → batches_named (take (at + 1) rounds) ≡ batches_named (take at rounds) + length round.batches
first_further rounds at round is = let more : at + 1 ≡ suc at = omega arith in ap (λ (n : ℕ). batches_named (take n rounds)) more ∙ sum_taken rounds at round is

-- a round's batches stand among those of all files
pub first_within : (loaded : LoadedJob) (at : ℕ) (round : Round) → IsLoaded loaded → slice_get loaded.job.rounds at ≡ Some round → batches_named (take at loaded.job.rounds) + length round.batches ≤ length loaded.batches
first_within loaded at round is there =
    let more = sum_taken loaded.job.rounds at round there in
    let all = sum_within loaded.job.rounds (suc at) in
    let many = is.batches in
    omega (arith, more, all, many)

-- ---- one of them
with_at : (names : List BatchName) (files : List (List ℕ)) (at : ℕ) (name : BatchName) (bytes : List ℕ) → slice_get names at ≡ Some name → slice_get files at ≡ Some bytes
    → slice_get (files_with names files) at ≡ Some (record { control = name.control; force = name.force; bytes = bytes })
with_at [] files at name bytes is there = absurd (cc is)
with_at (first ∷ names) [] at name bytes is there = absurd (cc there)
with_at (first ∷ names) (own ∷ files) zero name bytes is there =
    let same : first ≡ name = cc in
    let also : own ≡ bytes = cc in
    ap (λ (n : BatchName). Some (record { control = n.control; force = n.force; bytes = own })) same ∙ ap (λ (b : List ℕ). Some (record { control = name.control; force = name.force; bytes = b })) also
with_at (first ∷ names) (own ∷ files) (suc at) name bytes is there = with_at names files at name bytes is there

name_of : (names : List BatchName) (files : List (List ℕ)) (at : ℕ) (file : RoundFile) → slice_get (files_with names files) at ≡ Some file → (name : BatchName) × (slice_get names at ≡ Some name) × (name.control ≡ file.control)
name_of [] files at file is = absurd (cc is)
name_of (first ∷ names) [] at file is = absurd (cc is)
name_of (first ∷ names) (own ∷ files) zero file is =
    let same : record { control = first.control; force = first.force; bytes = own } ≡ file = cc in
    (first, refl, ap (λ (f : RoundFile). f.control) same)
name_of (first ∷ names) (own ∷ files) (suc at) file is = name_of names files at file is

-- ---- a batch that is looked up
get_drop : {X : Type 0} (n at : ℕ) (xs : List X) → slice_get (drop n xs) at ≡ slice_get xs (n + at)
get_drop zero at xs = let same : at ≡ 0 + at = omega arith in ap (slice_get xs) same
get_drop (suc n) at [] = refl
get_drop (suc n) at (x ∷ xs) = let same : suc (n + at) ≡ suc n + at = omega arith in get_drop n at xs ∙ ap (slice_get (x ∷ xs)) same

pub batch_there : (loaded : LoadedJob) (number at : ℕ) (round : Round) (name : BatchName) (bytes : List ℕ) → slice_get loaded.job.rounds (number - 1) ≡ Some round → slice_get round.batches at ≡ Some name
    → slice_get loaded.batches (first_file loaded number + at) ≡ Some bytes → slice_get (files_of loaded number) at ≡ Some (record { control = name.control; force = name.force; bytes = bytes })
batch_there loaded number at round name bytes is named there =
    let rest = drop (first_file loaded number) loaded.batches in
    ap (λ (found : Option Round). slice_get (files_at found rest) at) is
    ∙ with_at round.batches rest at name bytes named (get_drop (first_file loaded number) at loaded.batches ∙ there)

pub none_named : (loaded : LoadedJob) (number : ℕ) (round : Round) (control : ℕ) → slice_get loaded.job.rounds (number - 1) ≡ Some round → ((at : ℕ) (name : BatchName) → slice_get round.batches at ≡ Some name → name.control ≡ control → ⊥)
    → (at : ℕ) (file : RoundFile) → slice_get (files_of loaded number) at ≡ Some file → file.control ≡ control → ⊥
none_named loaded number round control is none = λ at file there by.
    let rest = drop (first_file loaded number) loaded.batches in
    let it = name_of round.batches rest at file (ap (λ (found : Option Round). slice_get (files_at found rest) at) (sym is) ∙ there) in
    none at it.0 it.1 (it.2 ∙ by)

-- ---- elements of lists that are lent
pub there_at : {X : Type 0} (xs ys : List X) (at : ℕ) (d : X) → xs ≡ ys → at < length xs → slice_get ys at ≡ Some (get_or xs at d)
there_at xs ys at d same less = subst (λ (zs : List _). slice_get zs at ≡ Some (get_or xs at d)) same (slice_get-get_or xs at d less)

-- ---- a round has four batches at most
few_above : (controls least : ℕ) (names : List BatchName) → least ≤ controls → AllByRecursion (λ (later : BatchName). least < later.control) names → ByControl names → AllByRecursion (IsBatch controls) names → least + length names ≤ controls
few_above controls least [] low above by each = omega (arith, low)
few_above controls least (name ∷ names) low above by each =
    let own = each.0.1 in
    let more = above.0 in
    let rest = few_above controls name.control names own by.0 by.1 each.1 in
    omega (arith, more, rest)

few_named : (controls : ℕ) (names : List BatchName) → ByControl names → AllByRecursion (IsBatch controls) names → length names ≤ controls
few_named controls [] by each = omega arith
few_named controls (name ∷ names) by each =
    let own = each.0 in
    let low = own.0 in
    let rest = few_above controls name.control names own.1 by.0 by.1 each.1 in
    omega (arith, low, rest)

pub round_few : (loaded : LoadedJob) (at : ℕ) (round : Round) → IsLoaded loaded → slice_get loaded.job.rounds at ≡ Some round → length round.batches ≤ 4
round_few loaded at round is there =
    let it = all_at (IsRound loaded.job.controls) loaded.job.rounds at round is.job.4 there in
    let few = few_named loaded.job.controls round.batches it.1 it.0 in
    let most = is.job.3 in
    omega (arith, few, most)

few_taken : (controls : ℕ) (rounds : List Round) (at : ℕ) → controls ≤ 4 → AllByRecursion (IsRound controls) rounds → batches_named (take at rounds) ≤ 4 * at
few_taken controls [] zero most all = omega arith
few_taken controls [] (suc at) most all = omega arith
few_taken controls (round ∷ rounds) zero most all = omega arith
few_taken controls (round ∷ rounds) (suc at) most all =
    let few = few_named controls round.batches all.0.1 all.0.0 in
    let rest = few_taken controls rounds at most all.1 in
    let sum = sum_by-cons (λ (r : Round). length r.batches) round (take at rounds) in
    omega (arith, few, rest, sum, most)

pub first_few : (loaded : LoadedJob) (at : ℕ) → IsLoaded loaded → batches_named (take at loaded.job.rounds) ≤ 4 * at
first_few loaded at is = few_taken loaded.job.controls loaded.job.rounds at is.job.3 is.job.4
