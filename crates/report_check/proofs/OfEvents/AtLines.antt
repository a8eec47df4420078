-- A cursor goes behind a line.
use Rattle.std.proofs.Common.{◌≡◌, ◌∙◌, ℕ, zero, suc, ◌+◌, ◌≤◌, ◌==◌, Bool, true, false, List, [], ◌∷◌, ◌++◌, length, drop, refl, sym, ap, arith, append_assoc}
use Rattle.std.specs.Prelude.{if◌then◌else◌}
use Rattle.std.proofs.Math.Seq.{drop-append_seam}
use Rattle.std.proofs.lemmas.List.{length-append, length-drop}
use Rattle.lawful_runs.specs.declared.loaded.LoadedJob.{LoadedJob}
use Rattle.report_laws.specs.OfLineCuts.Cuts.{byte_before, cut, joined}
use Rattle.report_laws.specs.Stands.{Stand, start, Takes}
use Rattle.report_laws.proofs.Paths.{path_append}
use Rattle.report_laws.proofs.OfWholePaths.Cutting.{joined_cut}
use Rattle.tool_words.specs.declared.reason.Reason.{Reason}
use Rattle.report_check.specs.declared.events.cursor.Cursor.{Cursor}
use Rattle.report_check.specs.OfEvents.Cursors.{IsLineAt, IsNextLine, IsAt}

-- ---- a line of bytes has a byte
first_some : (byte : ℕ) (b : Bool) (first : List ℕ) (lines : List (List ℕ)) (line : List ℕ) (rest : List (List ℕ)) → (if b then (byte ∷ []) ∷ first ∷ lines else (byte ∷ first) ∷ lines) ≡ line ∷ rest → 1 ≤ length line
first_some byte true first lines line rest is = let same : line ≡ byte ∷ [] = cc is in let long = ap length same in omega (arith, long)
first_some byte false first lines line rest is = let same : line ≡ byte ∷ first = cc is in let long = ap length same in omega (arith, long)

before_some : (byte : ℕ) (lines : List (List ℕ)) (line : List ℕ) (rest : List (List ℕ)) → byte_before byte lines ≡ line ∷ rest → 1 ≤ length line
before_some byte [] line rest is = let same : line ≡ byte ∷ [] = cc is in let long = ap length same in omega (arith, long)
before_some byte (first ∷ lines) line rest is = first_some byte (byte == 10) first lines line rest is

line_some : (bytes line : List ℕ) (rest : List (List ℕ)) → cut bytes ≡ line ∷ rest → 1 ≤ length line
line_some [] line rest is = absurd (cc is)
line_some (byte ∷ bytes) line rest is = before_some byte (cut bytes) line rest is

-- ---- the next line
nothing : (n : ℕ) → ◌≡◌ {A = List ℕ} (drop n []) []
nothing zero = refl
nothing (suc n) = refl

drop_more : (n m : ℕ) (bytes : List ℕ) → drop n (drop m bytes) ≡ drop (m + n) bytes
drop_more n zero bytes = let same : n ≡ zero + n = omega arith in ap (λ (k : ℕ). drop k bytes) same
drop_more n (suc m) [] = nothing n ∙ sym (nothing (suc m + n))
drop_more n (suc m) (byte ∷ bytes) = let same : suc (m + n) ≡ suc m + n = omega arith in drop_more n m bytes ∙ ap (λ (k : ℕ). drop k (byte ∷ bytes)) same

pub next_is : (bytes text line rest : List ℕ) (at : ℕ) → at ≤ length bytes → text ≡ drop at bytes → cut text ≡ line ∷ cut rest → IsLineAt bytes at line
next_is bytes text line rest at in_bytes is cut_is =
    let whole : text ≡ line ++ rest = sym (joined_cut text) ∙ ap joined cut_is ∙ ap (λ (bs : List ℕ). line ++ bs) (joined_cut rest) in
    let left : rest ≡ drop (at + length line) bytes =
    sym (drop-append_seam line rest) ∙ ap (drop (length line)) (sym whole ∙ is) ∙ drop_more (length line) at bytes in
    let long = ap length whole in
    let sum = length-append line rest in
    let few = ap length is ∙ length-drop at bytes in
    record {
      first = ap cut (sym is) ∙ cut_is ∙ ap (λ (bs : List ℕ). line ∷ cut bs) left;
      within = omega (arith, long, sum, few, in_bytes);
      some = line_some text line (cut rest) cut_is;
    }

abbrev pub behind_line : Cursor → List ℕ → Cursor
behind_line cursor line = record cursor { at = cursor.at + length line; line = cursor.line + 1 }

-- the path goes on with a line that may come
pub at_next : (bytes line : List ℕ) (cursor : Cursor) → IsNextLine bytes cursor line → (loaded : LoadedJob) (stand next : Stand) → IsAt loaded bytes cursor stand → Takes loaded stand line next
    → IsAt loaded bytes (behind_line cursor line) next
at_next bytes line cursor is loaded stand next at takes = record {
  lines = at.lines ++ (line ∷ []);
  gone = at.gone ∙ ap (λ (ls : List (List ℕ)). at.lines ++ ls) is.first ∙ sym (append_assoc at.lines (line ∷ []) (cut (drop (cursor.at + length line) bytes)));
  counted = (let sum = length-append at.lines (line ∷ []) in let count = at.counted in omega (arith, sum, count));
  path = path_append loaded start stand next at.lines (line ∷ []) at.path (next, takes, refl);
}

-- ---- stuck
-- a place is the same whatever reason is noted there
pub at_same : (loaded : LoadedJob) (bytes : List ℕ) (cursor : Cursor) (reason : Reason) (stand : Stand) → IsAt loaded bytes cursor stand → IsAt loaded bytes (record cursor { reason = reason }) stand
at_same loaded bytes cursor reason stand at = record { lines = at.lines; gone = at.gone; counted = at.counted; path = at.path }
