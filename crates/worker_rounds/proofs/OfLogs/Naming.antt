-- Rows named at their numbers.
use Rattle.std.proofs.Common.{◌≡◌, ◌∙◌, ℕ, ◌+◌, ◌<◌, ◌≤◌, ◌≢◌, zero, suc, List, [], ◌∷◌, ◌++◌, length, take, drop, get_or, append_assoc, add-one, append-nil, Some, refl, sym, ap, subst, inl, inr, arith}
use Rattle.std.proofs.Math.ListN.{set}
use Rattle.std.specs.Prelude.{All, map, slice_get, option_and_then, option_map}
use Rattle.std.specs.List.{flat_map, AllByRecursion}
use Rattle.std.proofs.lemmas.List.{take_all, drop_all, length-map}
use Rattle.std.proofs.lemmas.Option.{slice_get-map, slice_get-get_or, slice_get_read}
use Rattle.std.proofs.lemmas.Bool.Decides.{eqb_tells}
use Rattle.std.proofs.lemmas.List.Elements.{recursion_from_All, All-from_recursion, All-append, All-weaker, All-more}
use Rattle.run_report.specs.declared.outcomes.OutcomePlace.{OutcomePlace}
use Rattle.lawful_runs.specs.OfLogs.Logs.{LogRow}
use Rattle.worker_rounds.specs.OfLogs.Rows.{numbers_of}
use Rattle.worker_rounds.specs.OfLogs.Named.{number_there, IsNamed}

-- ---- a list after a write
read_same : {X : Type 0} (xs : List X) (at : ℕ) (x : X) → at < length xs → slice_get (set xs at x) at ≡ Some x
read_same [] at x within = absurd (omega arith)
read_same (y ∷ xs) zero x within = refl
read_same (y ∷ xs) (suc at) x within = read_same xs at x (omega arith)

read_other : {X : Type 0} (xs : List X) (at other : ℕ) (x : X) → other ≢ at → slice_get (set xs at x) other ≡ slice_get xs other
read_other [] at other x apart = refl
read_other (y ∷ xs) zero zero x apart = absurd (apart refl)
read_other (y ∷ xs) zero (suc other) x apart = refl
read_other (y ∷ xs) (suc at) zero x apart = refl
read_other (y ∷ xs) (suc at) (suc other) x apart = read_other xs at other x (λ same. apart (ap suc same))

-- ---- one row named
module _ (all : List (List ℕ)) (places : List OutcomePlace) (number : ℕ) (place : OutcomePlace) (within : number < length places) (is : number_there all place ≡ Some number) where
  pub named_now : IsNamed all (set places number place) number
  named_now = ap (option_and_then (number_there all)) (read_same places number place within) ∙ is

  pub named_still : (other : ℕ) → IsNamed all places other → IsNamed all (set places number place) other
  named_still other before = elim (eqb_tells other number) [
    | inl told ↦ subst (λ (n : ℕ). IsNamed all (set places number place) n) (sym told.1) named_now
    | inr told ↦ ap (option_and_then (number_there all)) (read_other places number other place told.1) ∙ before
  ]

-- the row is in the list
pub there_of : (all : List (List ℕ)) (list row number : ℕ) (numbers : List ℕ) → slice_get all list ≡ Some numbers → slice_get numbers row ≡ Some number
    → number_there all (record { list = list; row = row }) ≡ Some number
there_of all list row number numbers listed there = ap (option_and_then (λ (ns : List ℕ). slice_get ns row)) listed ∙ there

-- ---- log after log
each_left : (P : ℕ → Type 0) (xs ys : List ℕ) → AllByRecursion P (xs ++ ys) → AllByRecursion P xs
each_left P [] ys each = tt
each_left P (x ∷ xs) ys each = (each.0, each_left P xs ys each.1)

each_right : (P : ℕ → Type 0) (xs ys : List ℕ) → AllByRecursion P (xs ++ ys) → AllByRecursion P ys
each_right P [] ys each = each
each_right P (x ∷ xs) ys each = each_right P xs ys each.1

each_of_log : (P : ℕ → Type 0) (logs : List (List LogRow)) (at : ℕ) (log : List LogRow) → at < length logs → AllByRecursion P (flat_map numbers_of logs)
    → AllByRecursion P (numbers_of (get_or logs at log))
each_of_log P [] at log within each = absurd (omega arith)
each_of_log P (first ∷ logs) zero log within each = each_left P (numbers_of first) (flat_map numbers_of logs) each
each_of_log P (first ∷ logs) (suc at) log within each = each_of_log P logs at log (omega arith) (each_right P (numbers_of first) (flat_map numbers_of logs) each)

-- what holds of all numbers holds of those of a log
pub of_log : (P : ℕ → Type 0) (logs : List (List LogRow)) (at : ℕ) (log : List LogRow) → at < length logs → log ≡ get_or logs at log → All P (flat_map numbers_of logs) → All P (numbers_of log)
of_log P logs at log within is all =
    subst (λ (rows : List LogRow). All P (numbers_of rows)) (sym is)
    (All-from_recursion P (numbers_of (get_or logs at log)) (each_of_log P logs at log within (recursion_from_All P (flat_map numbers_of logs) all)))

numbers_next : (logs : List (List LogRow)) (at : ℕ) (log : List LogRow) → at < length logs
    → flat_map numbers_of (take (suc at) logs) ≡ flat_map numbers_of (take at logs) ++ numbers_of (get_or logs at log)
numbers_next [] at log within = absurd (omega arith)
numbers_next (first ∷ logs) zero log within = append-nil (numbers_of first)
numbers_next (first ∷ logs) (suc at) log within =
    ap (λ (ns : List ℕ). numbers_of first ++ ns) (numbers_next logs at log (omega arith))
    ∙ sym (append_assoc (numbers_of first) (flat_map numbers_of (take at logs)) (numbers_of (get_or logs at log)))

-- and of those of a log more
next_log : (P : ℕ → Type 0) (logs : List (List LogRow)) (at : ℕ) (log : List LogRow) → at < length logs → log ≡ get_or logs at log → All P (flat_map numbers_of (take at logs)) → All P (numbers_of log)
    → All P (flat_map numbers_of (take (at + 1) logs))
next_log P logs at log within is before now =
    subst (All P)
    (sym (ap (λ (n : ℕ). flat_map numbers_of (take n logs)) (add-one at) ∙ numbers_next logs at log within ∙ ap (λ (rows : List LogRow). flat_map numbers_of (take at logs) ++ numbers_of rows) (sym is)))
    (All-append P (flat_map numbers_of (take at logs)) (numbers_of log) before now)

-- ---- one row more
module _ (all : List (List ℕ)) (places : List OutcomePlace) (list at_row : ℕ) (numbers : List ℕ) (less : at_row < length numbers) (within : get_or numbers at_row 0 < length places)
    (listed : slice_get all list ≡ Some numbers) where
  abbrev next_places : List OutcomePlace
  next_places = set places (get_or numbers at_row 0) (record { list = list; row = at_row })

  there : number_there all (record { list = list; row = at_row }) ≡ Some (get_or numbers at_row 0)
  there = there_of all list at_row (get_or numbers at_row 0) numbers listed (slice_get-get_or numbers at_row 0 less)

  pub row_kept : (number : ℕ) → IsNamed all places number → IsNamed all next_places number
  row_kept = named_still all places (get_or numbers at_row 0) (record { list = list; row = at_row }) within there

  pub row_named : All (IsNamed all places) (take at_row numbers) → All (IsNamed all next_places) (take (at_row + 1) numbers)
  row_named before =
      All-more (IsNamed all next_places) numbers at_row 0 less (All-weaker (IsNamed all places) (IsNamed all next_places) row_kept (take at_row numbers) before)
      (named_now all places (get_or numbers at_row 0) (record { list = list; row = at_row }) within there)

pub all_taken : {X : Type 0} (P : X → Type 0) (xs : List X) (at : ℕ) → length xs ≤ at → All P (take at xs) → All P xs
all_taken P xs at most taken = subst (All P) (take_all at xs most) taken

-- ---- one log more
pub written : {X : Type 0} (new old : List X) (many : ℕ) → length new ≡ length old → many ≡ length old → take many (new ++ drop (length new) old) ≡ new
written new old many same is =
    ap (λ (rest : List _). take many (new ++ rest)) (drop_all (length new) old (omega (arith, same)))
    ∙ ap (take many) (append-nil new) ∙ take_all many new (omega (arith, same, is))

module _ (logs : List (List LogRow)) (at : ℕ) (log : List LogRow) (numbers : List ℕ) (within : at < length logs) (is : log ≡ get_or logs at log) (own : numbers ≡ numbers_of log) where
  pub below_log : (count bound : ℕ) → bound ≡ count → All (λ (n : ℕ). n < count) (flat_map numbers_of logs) → All (λ (n : ℕ). n < bound) numbers
  below_log count bound same below =
      subst (λ (ns : List ℕ). All (λ (n : ℕ). n < bound) ns) (sym own)
      (subst (λ (b : ℕ). All (λ (n : ℕ). n < b) (numbers_of log)) (sym same) (of_log (λ (n : ℕ). n < count) logs at log within is below))

  pub few_log : (most : ℕ) → All (λ (rows : List LogRow). length rows ≤ most) logs → length numbers ≤ most
  few_log most few =
      let most_rows : length (get_or logs at log) ≤ most = few at log within in
      let own_rows = ap length own in
      let many = length-map log (λ (it : LogRow). it.number) in
      let same = ap length is in
      omega (arith, most_rows, own_rows, many, same)

  listed : slice_get (map numbers_of logs) at ≡ Some numbers
  listed =
      slice_get-map numbers_of logs at ∙ ap (option_map numbers_of) (slice_get_read logs (length logs) at log refl within is)
      ∙ ap (λ (ns : List ℕ). Some ns) (sym own)

  pub log_named : (old seen new back : List OutcomePlace) → seen ≡ old → back ≡ new → All (IsNamed (map numbers_of logs) old) (flat_map numbers_of (take at logs))
      → ((all : List (List ℕ)) → slice_get all at ≡ Some numbers → All (IsNamed all new) numbers)
      → ((all : List (List ℕ)) → slice_get all at ≡ Some numbers → (number : ℕ) → IsNamed all seen number → IsNamed all new number)
      → All (IsNamed (map numbers_of logs) back) (flat_map numbers_of (take (at + 1) logs))
  log_named old seen new back seen_is back_is before named kept =
      let all = map numbers_of logs in
      subst (λ (ps : List OutcomePlace). All (IsNamed all ps) (flat_map numbers_of (take (at + 1) logs))) (sym back_is)
      (next_log (IsNamed all new) logs at log within is
      (All-weaker (IsNamed all old) (IsNamed all new) (λ number it. kept all listed number (subst (λ (ps : List OutcomePlace). IsNamed all ps number) (sym seen_is) it)) (flat_map numbers_of (take at logs)) before)
      (subst (All (IsNamed all new)) own (named all listed)))

pub logs_taken : (P : ℕ → Type 0) (logs : List (List LogRow)) (at : ℕ) → length logs ≤ at → All P (flat_map numbers_of (take at logs)) → All P (flat_map numbers_of logs)
logs_taken P logs at most taken = subst (λ (ls : List (List LogRow)). All P (flat_map numbers_of ls)) (take_all at logs most) taken
