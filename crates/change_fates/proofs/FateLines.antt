-- The lines of a packet's fates, one after the other.
use Rattle.std.proofs.Common.{◌≡◌, ◌∙◌, ℕ, ◌+◌, ◌<◌, ◌≤◌, Bool, true, false, List, [], ◌∷◌, ◌++◌, length, refl, sym, ap, ap₂, subst, append_assoc, append-nil, arith}
use Rattle.std.specs.Prelude.{drop, Option, Some, IfSome, Result, Ok, Err, OnOk, if◌then◌else◌}
use Rattle.std.specs.List.{slice_get}
use Rattle.std.proofs.lemmas.List.{drop_all, length-map}
use Rattle.walk_texts.specs.Texts.{joined}
use Rattle.walk_fate_laws.specs.declared.kinds.When.{When}
use Rattle.walk_fate_laws.specs.Told.{Told}
use Rattle.walk_fate_laws.specs.Times.{when_of}
use Rattle.fate_search.specs.Found.{Found, found_of, all_found}
use Rattle.change_fates.specs.Texts.{fate_line}
use Rattle.change_fates.specs.Told.{ChangeAt, answers_in, told_in, whens_in, is_neither, met_lines, fate_lines, fates_lines}
use Rattle.change_fates.specs.Paging.{IsOnPage}
use Rattle.change_fates.proofs.Lists.{is_there, joined_append}
use Rattle.change_fates.proofs.Paging.{on_more}
use Rattle.change_fates.proofs.Viewed.{of_some}

-- those from a place on
abbrev pub lines_from : ChangeAt → ℕ → List ℕ → List When → List Found → ℕ → List ℕ
lines_from change number bytes whens founds place = joined (fates_lines change number bytes (drop place whens) (drop place founds))

module _ (change : ChangeAt) (number : ℕ) (bytes : List ℕ) where
  pub one_line : (whens : List When) (founds : List Found) (place : ℕ) (when : When) (found : Found) → drop place whens ≡ when ∷ drop (place + 1) whens → drop place founds ≡ found ∷ drop (place + 1) founds
      → lines_from change number bytes whens founds place ≡ joined (fate_lines change number bytes when found) ++ lines_from change number bytes whens founds (place + 1)
  one_line whens founds place when found w f =
      ap₂ (λ (ws : List When) (fs : List Found). joined (fates_lines change number bytes ws fs)) w f
      ∙ joined_append (fate_lines change number bytes when found) (fates_lines change number bytes (drop (place + 1) whens) (drop (place + 1) founds))

  no_fates : (whens : List When) → fates_lines change number bytes whens [] ≡ []
  no_fates [] = refl
  no_fates (when ∷ whens) = refl

  pub no_line : (whens : List When) (founds : List Found) (place : ℕ) → length founds ≤ place → lines_from change number bytes whens founds place ≡ []
  no_line whens founds place past =
      ap (λ (fs : List Found). joined (fates_lines change number bytes (drop place whens) fs)) (drop_all place founds past)
      ∙ ap joined (no_fates (drop place whens))

  -- there is a time for each fate
  pub as_many : length (whens_in change bytes) ≡ length (all_found (told_in change bytes))
  as_many =
      length-map (told_in change bytes) (λ (told : Told). when_of (answers_in change) change.before (length change.entries) change.hook bytes told.key)
      ∙ sym (length-map (told_in change bytes) found_of)

-- one fate's line alone, or with what was met behind it
pub line_alone : (change : ChangeAt) (number : ℕ) (bytes : List ℕ) (when : When) (found : Found) (page new : List ℕ) → is_neither when ≡ false → new ≡ page ++ fate_line number when found
    → new ≡ page ++ joined (fate_lines change number bytes when found)
line_alone change number bytes when found page new not_so put =
    put ∙ ap (λ (xs : List ℕ). page ++ xs) (sym (append-nil (fate_line number when found))
    ∙ ap (λ (b : Bool). fate_line number when found ++ joined (if b then met_lines change number bytes found.points else [])) (sym not_so))

pub line_and_met : {T E : Type 0} (result : Result T E) (change : ChangeAt) (number : ℕ) (bytes : List ℕ) (when : When) (found : Found) (page middle new : List ℕ) → is_neither when ≡ true
    → middle ≡ page ++ fate_line number when found → OnOk result (new ≡ middle ++ joined (met_lines change number bytes found.points))
    → OnOk result (new ≡ page ++ joined (fate_lines change number bytes when found))
line_and_met (Ok done) change number bytes when found page middle new is put met =
    let line = fate_line number when found in
    let lines = met_lines change number bytes found.points in
    met ∙ ap (λ (xs : List ℕ). xs ++ joined lines) put ∙ append_assoc page line (joined lines)
    ∙ ap (λ (b : Bool). page ++ (line ++ joined (if b then lines else []))) (sym is)
line_and_met (Err refused) change number bytes when found page middle new is put met = tt

-- ---- the next fate, by its place
pub record IsNext (change : ChangeAt) (number : ℕ) (bytes : List ℕ) (place : ℕ) (when : When) (found : Found) : Type 0 where
  pub there : slice_get (all_found (told_in change bytes)) place ≡ Some found
  pub lines : lines_from change number bytes (whens_in change bytes) (all_found (told_in change bytes)) place
      ≡ joined (fate_lines change number bytes when found) ++ lines_from change number bytes (whens_in change bytes) (all_found (told_in change bytes)) (place + 1)

pub is_next : (change : ChangeAt) (number : ℕ) (bytes : List ℕ) (place : ℕ) (when : When) (found : Found) → place < length (all_found (told_in change bytes))
    → IfSome (slice_get (whens_in change bytes) place) (λ w. when ≡ w) → IfSome (slice_get (all_found (told_in change bytes)) place) (λ f. found ≡ f) → IsNext change number bytes place when found
is_next change number bytes place when found within w f =
    let many = as_many change number bytes in
    let one = is_there (whens_in change bytes) place (omega (arith, within, many)) in
    let other = is_there (all_found (told_in change bytes)) place within in
    let same_when : when ≡ one.x = of_some (slice_get (whens_in change bytes) place) one.x (λ (x : When). when ≡ x) one.at w in
    let same_found : found ≡ other.x = of_some (slice_get (all_found (told_in change bytes)) place) other.x (λ (x : Found). found ≡ x) other.at f in
    record {
      there = other.at ∙ ap (λ (x : Found). Some x) (sym same_found);
      lines = one_line change number bytes (whens_in change bytes) (all_found (told_in change bytes)) place one.x other.x one.left other.left
          ∙ ap₂ (λ (x : When) (y : Found). joined (fate_lines change number bytes x y) ++ lines_from change number bytes (whens_in change bytes) (all_found (told_in change bytes)) (place + 1)) (sym same_when) (sym same_found);
    }

-- it is put on the page
pub next_page : (change : ChangeAt) (number : ℕ) (bytes : List ℕ) (place : ℕ) (when : When) (found : Found) (first now : Option (List ℕ)) (whole page new rest : List ℕ) → IsNext change number bytes place when found
    → new ≡ page ++ joined (fate_lines change number bytes when found)
    → IsOnPage first now whole page (lines_from change number bytes (whens_in change bytes) (all_found (told_in change bytes)) place ++ rest)
    → IsOnPage first now whole new (lines_from change number bytes (whens_in change bytes) (all_found (told_in change bytes)) (place + 1) ++ rest)
next_page change number bytes place when found first now whole page new rest next put at =
    let lines = joined (fate_lines change number bytes when found) in
    let left = lines_from change number bytes (whens_in change bytes) (all_found (told_in change bytes)) (place + 1) in
    on_more first now whole page new lines (left ++ rest) put
    (subst (IsOnPage first now whole page) (ap (λ (xs : List ℕ). xs ++ rest) next.lines ∙ append_assoc lines left rest) at)
