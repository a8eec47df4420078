-- The files of a list that is gone through: those of its front, and the next one's.
use Rattle.std.proofs.Common.{◌≡◌, ◌∙◌, ℕ, ◌+◌, ◌<◌, List, [], ◌∷◌, ◌++◌, get_or, length, take, drop, sym, ap, subst, suc, add-one}
use Rattle.std.proofs.Math.Seq.{drop-cons}
use Rattle.std.proofs.lemmas.List.{map-append, take_more, take-append-drop, append-nil}
use Rattle.std.proofs.lemmas.Grind.{flat_map-append}
use Rattle.job_lines.specs.declared.job.BatchName.{BatchName}
use Rattle.job_lines.specs.declared.job.Round.{Round}
use Rattle.job_files.specs.Named.{JobFile, batch_files, round_files, rounds_files, AreNames}
use Rattle.job_files.proofs.Joined.{each_before, each_behind}
use Rattle.job_files.proofs.Said.{named}

-- a list around the element at an index
pub around : {A : Type 0} (xs : List A) (i : ℕ) (x : A) → i < length xs → x ≡ get_or xs i x
    → xs ≡ take i xs ++ (x ∷ drop (i + 1) xs)
around xs i x here is =
    sym (take-append-drop i xs)
    ∙ ap (λ (rest : List _). take i xs ++ rest)
    (drop-cons xs i x here ∙ ap (λ (y : _). y ∷ drop (suc i) xs) (sym is) ∙ ap (λ (k : ℕ). x ∷ drop k xs) (sym (add-one i)))

pub one_more : {A : Type 0} (xs : List A) (i : ℕ) (x : A) → i < length xs → x ≡ get_or xs i x
    → take (i + 1) xs ≡ take i xs ++ x ∷ []
one_more xs i x here is = take_more xs i x here ∙ ap (λ (y : _). take i xs ++ y ∷ []) (sym is)

-- ---- batches
pub batches_around : (batches : List BatchName) (i : ℕ) (batch : BatchName) → i < length batches
    → batch ≡ get_or batches i batch
    → batch_files batches
    ≡ batch_files (take i batches) ++ ((JobFile.Batch batch.name ∷ []) ++ batch_files (drop (i + 1) batches))
batches_around batches i batch here is =
    ap batch_files (around batches i batch here is)
    ∙ map-append (λ (b : BatchName). JobFile.Batch b.name) (take i batches) (batch ∷ drop (i + 1) batches)

pub batches_more : (batches : List BatchName) (i : ℕ) (batch : BatchName) → i < length batches
    → batch ≡ get_or batches i batch
    → batch_files (take (i + 1) batches) ≡ batch_files (take i batches) ++ JobFile.Batch batch.name ∷ []
batches_more batches i batch here is =
    ap batch_files (one_more batches i batch here is)
    ∙ map-append (λ (b : BatchName). JobFile.Batch b.name) (take i batches) (batch ∷ [])

-- ---- rounds
pub rounds_around : (rounds : List Round) (i : ℕ) (round : Round) → i < length rounds
    → round ≡ get_or rounds i round
    → rounds_files rounds
    ≡ rounds_files (take i rounds) ++ (round_files round ++ rounds_files (drop (i + 1) rounds))
rounds_around rounds i round here is =
    ap rounds_files (around rounds i round here is)
    ∙ flat_map-append round_files (take i rounds) (round ∷ drop (i + 1) rounds)

pub rounds_more : (rounds : List Round) (i : ℕ) (round : Round) → i < length rounds
    → round ≡ get_or rounds i round
    → rounds_files (take (i + 1) rounds) ≡ rounds_files (take i rounds) ++ round_files round
rounds_more rounds i round here is =
    ap rounds_files (one_more rounds i round here is)
    ∙ flat_map-append round_files (take i rounds) (round ∷ [])
    ∙ ap (λ (files : List JobFile). rounds_files (take i rounds) ++ files) (append-nil (round_files round))

-- ---- names among names
pub names_among : (before file rest all : List JobFile) → all ≡ before ++ (file ++ rest) → AreNames all
    → AreNames file
names_among before file rest all order each =
    each_before named file rest
    (each_behind named before (file ++ rest) (subst AreNames order each))
