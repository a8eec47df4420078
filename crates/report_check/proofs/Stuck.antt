-- Where no line may come a report is stuck, whatever its next line is.
use Rattle.std.proofs.Common.{◌≡◌, ◌∙◌, ℕ, ◌==◌, Bool, true, false, List, [], ◌∷◌, length, drop, refl, sym, ap, subst}
use Rattle.std.specs.Prelude.{if◌then◌else◌}
use Rattle.lawful_runs.specs.declared.loaded.LoadedJob.{LoadedJob}
use Rattle.report_laws.specs.OfLineCuts.Cuts.{byte_before, cut}
use Rattle.report_laws.specs.Stands.{Stand, Takes}
use Rattle.report_laws.specs.OfWholePaths.FirstBadLines.{IsOpen}
use Rattle.report_check.specs.declared.events.cursor.Cursor.{Cursor}
use Rattle.tool_words.specs.declared.reason.Reason.{Reason}
use Rattle.tool_words.specs.declared.reason.Reason.TheVariants as reasons
use Rattle.report_check.specs.Reasons.{IsReason, IsWhy}
use Rattle.report_check.specs.OfEvents.Cursors.{IsWithin, IsNextLine, lines_left, IsAt, GetsStuck, IsStuck, IsRefused, IsReasonUnless, MustBe}
use Rattle.report_check.proofs.OfEvents.AtLines.{next_is, at_same}

abbrev IsRest : List ℕ → List ℕ → List (List ℕ) → Type 0
IsRest bytes line rest = cut (drop (length line) bytes) ≡ rest

rest_by : (byte : ℕ) (b : Bool) (bytes first : List ℕ) (lines : List (List ℕ)) (line : List ℕ) (rest : List (List ℕ)) → cut bytes ≡ first ∷ lines → IsRest bytes first lines
    → (if b then (byte ∷ []) ∷ first ∷ lines else (byte ∷ first) ∷ lines) ≡ line ∷ rest → IsRest (byte ∷ bytes) line rest
rest_by byte true bytes first lines line rest is more same =
    let one : byte ∷ [] ≡ line = cc in
    let left : ◌≡◌ {A = List (List ℕ)} (first ∷ lines) rest = cc in
    subst (λ (l : List ℕ). IsRest (byte ∷ bytes) l rest) one (is ∙ left)
rest_by byte false bytes first lines line rest is more same =
    let one : byte ∷ first ≡ line = cc in
    let left : lines ≡ rest = cc in
    subst (λ (l : List ℕ). IsRest (byte ∷ bytes) l rest) one (more ∙ left)

rest_before : (byte : ℕ) (bytes : List ℕ) (lines : List (List ℕ)) (line : List ℕ) (rest : List (List ℕ)) → cut bytes ≡ lines → ((first : List ℕ) (more : List (List ℕ)) → cut bytes ≡ first ∷ more → IsRest bytes first more)
    → byte_before byte lines ≡ line ∷ rest → IsRest (byte ∷ bytes) line rest
rest_before byte bytes [] line rest is deeper same =
    let one : byte ∷ [] ≡ line = cc in
    let left : ◌≡◌ {A = List (List ℕ)} [] rest = cc in
    subst (λ (l : List ℕ). IsRest (byte ∷ bytes) l rest) one (is ∙ left)
rest_before byte bytes (first ∷ lines) line rest is deeper same = rest_by byte (byte == 10) bytes first lines line rest is (deeper first lines is) same

rest_is : (bytes line : List ℕ) (rest : List (List ℕ)) → cut bytes ≡ line ∷ rest → IsRest bytes line rest
rest_is [] line rest is = absurd (cc is)
rest_is (byte ∷ bytes) line rest is = rest_before byte bytes (cut bytes) line rest refl (λ first more same. rest_is bytes first more same) is

pub next_line_is : (bytes : List ℕ) (cursor : Cursor) (line : List ℕ) (rest : List (List ℕ)) → IsWithin bytes cursor → lines_left bytes cursor ≡ line ∷ rest → IsNextLine bytes cursor line
next_line_is bytes cursor line rest within is =
    let text : List ℕ = drop cursor.at bytes in
    next_is bytes text line (drop (length line) text) cursor.at within.0 refl (is ∙ ap (λ (ls : List (List ℕ)). line ∷ ls) (sym (rest_is text line rest is)))

-- no line that comes next may come
abbrev pub MayNot : LoadedJob → List ℕ → Cursor → Stand → Type 0
MayNot loaded bytes cursor stand = (line : List ℕ) (next : Stand) → IsNextLine bytes cursor line → Takes loaded stand line next → ⊥

pub stuck_for : (loaded : LoadedJob) (bytes : List ℕ) (cursor : Cursor) (stand : Stand) (reason told : Reason) → IsWithin bytes cursor → (lines_left bytes cursor ≡ [] → told ≡ reasons.Cut) → ((line : List ℕ) → IsNextLine bytes cursor line → told ≡ reason)
    → IsAt loaded bytes cursor stand → (lines_left bytes cursor ≡ [] → IsOpen stand) → IsRefused loaded bytes cursor stand reason → IsStuck loaded bytes (record cursor { reason = told })
stuck_for loaded bytes cursor stand reason told within cut_is told_is at unended refused = by_lines (lines_left bytes cursor) refl
  where
    by_lines : (lines : List (List ℕ)) → lines_left bytes cursor ≡ lines → IsStuck loaded bytes (record cursor { reason = told })
    by_lines [] is = record {
      stand = stand;
      is_at = at_same loaded bytes cursor told stand at;
      stuck = subst (GetsStuck loaded stand) (sym is) (unended is);
      why = subst (λ (ls : List (List ℕ)). IsWhy loaded stand ls told) (sym is) (cut_is is);
    }
    by_lines (line ∷ rest) is =
        let next = next_line_is bytes cursor line rest within is in
        let never = refused line next in
        record {
          stand = stand;
          is_at = at_same loaded bytes cursor told stand at;
          stuck = subst (GetsStuck loaded stand) (sym is) never.0;
          why = subst (λ (ls : List (List ℕ)). IsWhy loaded stand ls told) (sym is) (subst (IsReason loaded stand line) (sym (told_is line next)) never.1);
        }

-- a text that has to come, and doesn't
pub refused_unless : (loaded : LoadedJob) (bytes : List ℕ) (cursor : Cursor) (stand : Stand) (text : List ℕ) (reason : Reason) → ((line : List ℕ) → IsNextLine bytes cursor line → line ≡ text → ⊥) → MustBe loaded bytes cursor stand text
    → IsReasonUnless loaded bytes cursor stand text reason → IsRefused loaded bytes cursor stand reason
refused_unless loaded bytes cursor stand text reason other must why = λ line next.
    ((λ behind takes. other line next (must line behind next takes)), why line next (other line next))
