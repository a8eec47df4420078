-- Names that are fetched one after the other.
use Rattle.std.proofs.Common.{◌≡◌, ◌∙◌, inr, ℕ, List, [], ◌∷◌, ◌++◌, Option, Result, Ok, Err, sym, ap, subst}
use Rattle.std.proofs.lemmas.List.{map-append, append-nil}
use Rattle.tc_base.specs.Outside.{Held, Asked, AsksFor, Appended, AppendsUpTo}
use Rattle.tc_base.proofs.Appends.{Appended-then, AppendsUpTo-then, AppendsUpTo-all, AppendsUpTo-last, AppendsUpTo-more, AppendsUpTo-front}
use Rattle.job_lines.specs.declared.job.BatchName.{BatchName}
use Rattle.job_lines.specs.declared.job.Job.{Job}
use Rattle.job_lines.specs.declared.job.Round.{Round}
use Rattle.job_files.specs.Named.{JobFile, name_of, batch_files, capture_files, round_files, rounds_files}
use Rattle.job_files.specs.Holdings.{HasJobFile}
use Rattle.job_files.specs.Inputs.{names_of, input_names, FetchesInput}

-- all names are a front of themselves
pub asked_all : (a b : Asked) (names : List (List ℕ)) → Appended a b names → AppendsUpTo a b names
asked_all a b names all = AppendsUpTo-all a b names all

pub asked_under : (a b : Asked) (read name : List ℕ) → read ≡ name → Appended a b (read ∷ [])
    → AppendsUpTo a b (name ∷ [])
asked_under a b read name same all =
    subst (λ (n : List ℕ). AppendsUpTo a b (n ∷ [])) same (asked_all a b (read ∷ []) all)

-- ---- the three files of a change
pub one_of_three : (a b : Asked) (x y z : List ℕ) → AppendsUpTo a b (x ∷ []) → AppendsUpTo a b (x ∷ y ∷ z ∷ [])
one_of_three a b x y z first = AppendsUpTo-more a b (x ∷ []) (y ∷ z ∷ []) first

pub two_of_three : (a b c : Asked) (x y z : List ℕ) → Appended a b (x ∷ []) → AppendsUpTo b c (y ∷ [])
    → AppendsUpTo a c (x ∷ y ∷ z ∷ [])
two_of_three a b c x y z first second = AppendsUpTo-then a b c (x ∷ []) (y ∷ []) (z ∷ []) first second

pub three_asked : (a b c d : Asked) (x y z : List ℕ) → Appended a b (x ∷ []) → Appended b c (y ∷ [])
    → AppendsUpTo c d (z ∷ []) → AppendsUpTo a d (x ∷ y ∷ z ∷ [])
three_asked a b c d x y z first second third =
    AppendsUpTo-last a c d (x ∷ y ∷ []) (z ∷ []) (Appended-then a b c (x ∷ []) (y ∷ []) first second) third

pub three_done : (a b c d : Asked) (x y z : List ℕ) → Appended a b (x ∷ []) → Appended b c (y ∷ [])
    → Appended c d (z ∷ []) → Appended a d (x ∷ y ∷ z ∷ [])
three_done a b c d x y z first second third =
    Appended-then a c d (x ∷ y ∷ []) (z ∷ []) (Appended-then a b c (x ∷ []) (y ∷ []) first second) third

-- files, and then more files
pub asked_then : (a b c : Asked) (files more all : List JobFile) → all ≡ files ++ more
    → Appended a b (names_of files) → Appended b c (names_of more) → Appended a c (names_of all)
asked_then a b c files more all order first second =
    subst (λ (names : List (List ℕ)). Appended a c names) (sym (ap names_of order ∙ map-append name_of files more))
    (Appended-then a b c (names_of files) (names_of more) first second)

-- files, and then a front of those behind them
pub asked_part : (a b c : Asked) (files some rest all : List JobFile) → all ≡ files ++ (some ++ rest)
    → Appended a b (names_of files) → AppendsUpTo b c (names_of some) → AppendsUpTo a c (names_of all)
asked_part a b c files some rest all order first second =
    subst (λ (names : List (List ℕ)). AppendsUpTo a c names)
    (sym (ap names_of order ∙ map-append name_of files (some ++ rest)
    ∙ ap (λ (behind : List (List ℕ)). names_of files ++ behind) (map-append name_of some rest)))
    (AppendsUpTo-then a b c (names_of files) (names_of some) (names_of rest) first second)

-- ---- the batches of a round, and then its capture
pub asked_front : (a b : Asked) (round : Round) (batches : List BatchName) → batches ≡ round.batches
    → AppendsUpTo a b (names_of (batch_files batches)) → AppendsUpTo a b (names_of (round_files round))
asked_front a b round batches same some =
    subst (λ (names : List (List ℕ)). AppendsUpTo a b names)
    (ap (λ (bs : List BatchName). names_of (batch_files bs) ++ names_of (capture_files round.capture)) same
    ∙ sym (map-append name_of (batch_files round.batches) (capture_files round.capture)))
    (AppendsUpTo-more a b (names_of (batch_files batches)) (names_of (capture_files round.capture)) some)

pub round_asked : {T E : Type 0} → (a b c : Asked) (round : Round) (batches : List BatchName)
    → batches ≡ round.batches → (result : Result T E) → Appended a b (names_of (batch_files batches))
    → AsksFor b c (names_of (capture_files round.capture)) result → AsksFor a c (names_of (round_files round)) result
round_asked a b c round batches same (Ok done) first second =
    asked_then a b c (batch_files batches) (capture_files round.capture) (round_files round)
    (ap (λ (bs : List BatchName). batch_files bs ++ capture_files round.capture) (sym same)) first second
round_asked a b c round batches same (Err fault) first second =
    asked_part a b c (batch_files batches) (capture_files round.capture) [] (round_files round)
    (ap (λ (bs : List BatchName). batch_files bs ++ capture_files round.capture) (sym same)
    ∙ ap (λ (files : List JobFile). batch_files batches ++ files) (sym (append-nil (capture_files round.capture))))
    first second

-- ---- the job's own file, and then those that it names
pub all_asked : (a b c : Asked) (name : List ℕ) (job : Job) (rounds : List Round) → rounds ≡ job.rounds
    → Appended a b (name ∷ []) → Appended b c (names_of (rounds_files rounds))
    → Appended a c (input_names name job)
all_asked a b c name job rounds same own files =
    subst (λ (all : List Round). Appended a c (name ∷ names_of (rounds_files all))) same
    (Appended-then a b c (name ∷ []) (names_of (rounds_files rounds)) own files)

pub some_asked : (told : Option Held) (a b c : Asked) (name : List ℕ) (job : Job) (rounds : List Round)
    → HasJobFile told name job → rounds ≡ job.rounds → Appended a b (name ∷ [])
    → AppendsUpTo b c (names_of (rounds_files rounds)) → FetchesInput told a c name []
some_asked told a b c name job rounds has same own files =
    inr (
      job,
      has,
      subst (λ (names : List (List ℕ)). AppendsUpTo a c names) (sym (append-nil (input_names name job)))
          (subst (λ (all : List Round). AppendsUpTo a c (name ∷ names_of (rounds_files all))) same
          (AppendsUpTo-last a b c (name ∷ []) (names_of (rounds_files rounds)) own files)),
    )

pub whole_asked : (told : Option Held) (a b : Asked) (name : List ℕ) (job : Job) → HasJobFile told name job
    → Appended a b (input_names name job) → FetchesInput told a b name []
whole_asked told a b name job has all =
    inr (job, has, AppendsUpTo-front a b (input_names name job) [] all)
