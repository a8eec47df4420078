-- Parts of buffers that grow at their ends.
use Rattle.std.proofs.Common.{◌≡◌, ◌∙◌, ℕ, ◌-◌, ◌<◌, ◌≤◌, List, [], ◌∷◌, ◌++◌, length, take, drop, length-drop, get_or, Some, zero, suc, refl, sym, ap, ap₂, subst, arith, length-append}
use Rattle.std.specs.Prelude.{slice_get, slice_range}
use Rattle.std.proofs.Math.Seq.{drop-append_seam}
use Rattle.std.proofs.lemmas.List.{drop-append-le, take-append-le}
use Rattle.tc_report.proofs.Lines.{take_whole}
use Rattle.run_report.specs.declared.outcomes.Outcome.{Outcome}
use Rattle.run_report.specs.declared.outcome_list.Ends.{Ends}
use Rattle.run_report.specs.declared.outcome_list.Row.{Row}
use Rattle.run_report.specs.Kept.{first_ends, ends_of, start_of, AreParts, AreRowsUpTo, outcome_in, outcomes_in}

-- a part stays as it is
part_kept : {X : Type 0} (xs more : List X) (start end : ℕ) → start ≤ end → end ≤ length xs → slice_range (xs ++ more) start end ≡ slice_range xs start end
part_kept xs more start end order within =
    ap (take (end - start)) (drop-append-le start xs more (omega arith))
    ∙ take-append-le (end - start) (drop start xs) more (omega (arith, length-drop start xs))

-- what is put behind is the part behind
part_put : {X : Type 0} (xs more : List X) → slice_range (xs ++ more) (length xs) (length (xs ++ more)) ≡ more
part_put xs more =
    ap (take (length (xs ++ more) - length xs)) (drop-append_seam xs more)
    ∙ take_whole more (length (xs ++ more) - length xs) (omega (arith, length-append xs more))

-- ---- rows
-- the rows' parts end no earlier than they begin
ends_lie : (last start : Ends) (rows : List Row) → AreRowsUpTo last start rows → AreParts start last
ends_lie last start [] lie = subst (AreParts start) lie (omega arith, omega arith, omega arith)
ends_lie last start (row ∷ rows) lie =
    let first = lie.0 in
    let rest = ends_lie last row.ends rows lie.1 in
    (omega (arith, first.0, rest.0), omega (arith, first.1, rest.1), omega (arith, first.2, rest.2))

-- the parts of the packet in a row lie in the buffers
pub parts_at : (last start : Ends) (rows : List Row) (place : ℕ) (d : Row) → place < length rows → AreRowsUpTo last start rows
    → AreParts (start_of start rows place) (get_or rows place d).ends × AreParts (get_or rows place d).ends last
parts_at last start [] place d within lie = absurd (omega arith)
parts_at last start (row ∷ rows) zero d within lie = (lie.0, ends_lie last row.ends rows lie.1)
parts_at last start (row ∷ rows) (suc place) d within lie = parts_at last row.ends rows place d (omega arith) lie.1

-- they begin where those of the row before end
pub start_behind : (start : Ends) (rows : List Row) (place : ℕ) (d : Row) → place < length rows → start_of start rows (suc place) ≡ (get_or rows place d).ends
start_behind start [] place d within = absurd (omega arith)
start_behind start (row ∷ rows) zero d within = refl
start_behind start (row ∷ rows) (suc place) d within = start_behind row.ends rows place d (omega arith)

-- ---- outcomes
pub outcomes_count : (bytes points : List ℕ) (executed : List (ℕ × ℕ)) (start : Ends) (rows : List Row) → length (outcomes_in bytes points executed start rows) ≡ length rows
outcomes_count bytes points executed start [] = refl
outcomes_count bytes points executed start (row ∷ rows) = ap suc (outcomes_count bytes points executed row.ends rows)

-- the outcome in a row
pub outcome_at : (bytes points : List ℕ) (executed : List (ℕ × ℕ)) (start : Ends) (rows : List Row) (place : ℕ) (d : Row) → place < length rows
    → slice_get (outcomes_in bytes points executed start rows) place ≡ Some (outcome_in bytes points executed (start_of start rows place) (get_or rows place d))
outcome_at bytes points executed start [] place d within = absurd (omega arith)
outcome_at bytes points executed start (row ∷ rows) zero d within = refl
outcome_at bytes points executed start (row ∷ rows) (suc place) d within = outcome_at bytes points executed row.ends rows place d (omega arith)

-- ---- one outcome more
-- its row, where its parts end there
abbrev pub row_of : Outcome → Ends → Row
row_of outcome ends = record {
  ends = ends;
  worker = outcome.worker;
  priority = outcome.meta.priority;
  mark = outcome.meta.mark;
  queue = outcome.meta.queue;
  verdict = outcome.verdict;
}

module _ (bytes points : List ℕ) (executed : List (ℕ × ℕ)) (outcome : Outcome) where
  abbrev all_bytes : List ℕ
  all_bytes = bytes ++ outcome.bytes

  abbrev all_points : List ℕ
  all_points = points ++ outcome.points

  abbrev all_executed : List (ℕ × ℕ)
  all_executed = executed ++ outcome.executed

  abbrev pub last_row : Row
  last_row = row_of outcome (ends_of all_bytes all_points all_executed)

  -- what was there stays
  row_kept : (start : Ends) (row : Row) → AreParts start row.ends → AreParts row.ends (ends_of bytes points executed)
      → outcome_in all_bytes all_points all_executed start row ≡ outcome_in bytes points executed start row
  row_kept start row order within =
      let b = part_kept bytes outcome.bytes start.bytes row.ends.bytes order.0 within.0 in
      let p = part_kept points outcome.points start.points row.ends.points order.1 within.1 in
      let e = part_kept executed outcome.executed start.executed row.ends.executed order.2 within.2 in
      rw (b, p, e) refl

  last_is : outcome_in all_bytes all_points all_executed (ends_of bytes points executed) last_row ≡ outcome
  last_is = rw (part_put bytes outcome.bytes, part_put points outcome.points, part_put executed outcome.executed) refl

  pub outcomes_put : (start : Ends) (rows : List Row) → AreRowsUpTo (ends_of bytes points executed) start rows
      → outcomes_in all_bytes all_points all_executed start (rows ++ last_row ∷ []) ≡ outcomes_in bytes points executed start rows ++ outcome ∷ []
  outcomes_put start [] lie =
      ap (λ (at : Ends). outcome_in all_bytes all_points all_executed at last_row ∷ []) lie ∙ ap (λ (o : Outcome). o ∷ []) last_is
  outcomes_put start (row ∷ rows) lie =
      ap₂ (λ (o : Outcome) (os : List Outcome). o ∷ os) (row_kept start row lie.0 (ends_lie (ends_of bytes points executed) row.ends rows lie.1))
      (outcomes_put row.ends rows lie.1)

  pub rows_put : (start : Ends) (rows : List Row) → AreRowsUpTo (ends_of bytes points executed) start rows
      → AreRowsUpTo (ends_of all_bytes all_points all_executed) start (rows ++ last_row ∷ [])
  rows_put start [] lie =
      let longer : AreParts (ends_of bytes points executed) (ends_of all_bytes all_points all_executed) = (
        omega (arith, length-append bytes outcome.bytes),
        omega (arith, length-append points outcome.points),
        omega (arith, length-append executed outcome.executed),
      ) in
      (subst (λ (at : Ends). AreParts at (ends_of all_bytes all_points all_executed)) (sym lie) longer, refl)
  rows_put start (row ∷ rows) lie = (lie.0, rows_put row.ends rows lie.1)

  -- the same of what is equal to all that
  pub put_behind : (rows : List Row) (bs ps : List ℕ) (es : List (ℕ × ℕ)) (all : List Row) (b p e : ℕ) → AreRowsUpTo (ends_of bytes points executed) first_ends rows
      → bs ≡ all_bytes → ps ≡ all_points → es ≡ all_executed → b ≡ length bs → p ≡ length ps → e ≡ length es
      → all ≡ rows ++ row_of outcome (record { bytes = b; points = p; executed = e }) ∷ []
      → (outcomes_in bs ps es first_ends all ≡ outcomes_in bytes points executed first_ends rows ++ outcome ∷ []) × AreRowsUpTo (ends_of bs ps es) first_ends all
  put_behind rows bs ps es all b p e lie is_b is_p is_e end_b end_p end_e put =
      rw (put, end_b, end_p, end_e, is_b, is_p, is_e) (outcomes_put first_ends rows lie, rows_put first_ends rows lie)

-- ---- what is seen of a list
module _ (bytes points : List ℕ) (executed : List (ℕ × ℕ)) (rows : List Row) (all : List Outcome) (seen : outcomes_in bytes points executed first_ends rows ≡ all) where
  pub many_rows : length all ≡ length rows
  many_rows = ap length (sym seen) ∙ outcomes_count bytes points executed first_ends rows

  -- the outcome in a row, from what is lent
  pub read_row : (place : ℕ) (row d : Row) (start : Ends) (outcome : Outcome) → place < length rows → get_or rows place d ≡ row → start ≡ start_of first_ends rows place
      → outcome ≡ outcome_in bytes points executed start row → slice_get all place ≡ Some outcome
  read_row place row d start outcome within there begins is =
      ap (λ (os : List Outcome). slice_get os place) (sym seen) ∙ outcome_at bytes points executed first_ends rows place d within
      ∙ ap₂ (λ (s : Ends) (r : Row). Some (outcome_in bytes points executed s r)) (sym begins) there ∙ ap (λ (o : Outcome). Some o) (sym is)

-- where the parts of the packet in a row lie, from what is lent
pub parts_of : (last start : Ends) (rows : List Row) (place : ℕ) (row : Row) → place < length rows → AreRowsUpTo last first_ends rows
    → get_or rows place row ≡ row → start ≡ start_of first_ends rows place → AreParts start row.ends × AreParts row.ends last
parts_of last start rows place row within lie there begins =
    let at = parts_at last first_ends rows place row within lie in (
      subst (λ (s : Ends). AreParts s row.ends) (sym begins) (subst (λ (r : Row). AreParts (start_of first_ends rows place) r.ends) there at.0),
      subst (λ (r : Row). AreParts r.ends last) there at.1,
    )
