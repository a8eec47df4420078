-- The lines of a file, cut off one by one.
use Rattle.std.proofs.Common.{◌≡◌, ◌∙◌, ℕ, ◌+◌, ◌<◌, ◌≤◌, Bool, true, false, List, [], ◌∷◌, ◌++◌, length, take, drop, length-drop, refl, sym, ap, append_assoc, append-nil, arith, eqb, cond, Some, None}
use Rattle.std.specs.Prelude.{map, position}
use Rattle.std.proofs.Math.Seq.{drop-length}
use Rattle.std.proofs.lemmas.Bool.Decides.{nat_tests}
use Rattle.std.specs.Borrow.{Bor}
use Rattle.std.proofs.lemmas.List.{map-append, drop-drop, length-take-le}
use Rattle.std.specs.List.{slice_split}
use Rattle.std.specs.Str.Lines.{strip_carriage_return}
use Rattle.tc_words.specs.Lines.{lines_of, without_last_empty, cut_once}
use Rattle.tc_words.proofs.Parts.{parts_cut, parts_uncut_at, parts_cut_at, some_part, from_mapped_Some}

-- a part with others behind it is a line
not_last : (part : List ℕ) (parts : List (List ℕ)) → 0 < length parts → without_last_empty (part ∷ parts) ≡ part ∷ without_last_empty parts
not_last part [] lt = absurd (omega arith)
not_last part (next ∷ more) lt = refl

-- the first line ends at the first line feed
pub lines_of-cut : (bytes line more : List ℕ) → cut_once 10 bytes ≡ Some (line, more) → lines_of bytes ≡ strip_carriage_return line ∷ lines_of more
unfolding lines_of
lines_of-cut bytes line more e =
    ap (λ (ps : List (List ℕ)). map strip_carriage_return (without_last_empty ps)) (parts_cut_at 10 bytes line more e).1
    ∙ ap (map strip_carriage_return) (not_last line (slice_split (λ b. eqb b 10) more) (some_part (λ b. eqb b 10) more))

-- the last part, where it is not empty, less its carriage return
at_end : (bytes : List ℕ) (b : Bool) → map strip_carriage_return (cond b [] (bytes ∷ [])) ≡ cond b [] (strip_carriage_return bytes ∷ [])
at_end bytes true = refl
at_end bytes false = refl

-- what stands behind the last line feed is a line unless it is empty
pub lines_of-uncut : (bytes : List ℕ) → cut_once 10 bytes ≡ None → lines_of bytes ≡ cond (eqb (length bytes) 0) [] (strip_carriage_return bytes ∷ [])
unfolding lines_of
lines_of-uncut bytes e = ap (λ (ps : List (List ℕ)). map strip_carriage_return (without_last_empty ps)) (parts_uncut_at 10 bytes e) ∙ at_end bytes (eqb (length bytes) 0)

-- the lines that a list of slices lends
abbrev bytes_of : List (Bor (List ℕ)) → List (List ℕ)
bytes_of lines = map (λ line. line.now) lines

-- one slice more is one line more
bytes_of-pushed : (old new : List (Bor (List ℕ))) (pushed : Bor (List ℕ)) (line : List ℕ) → new ≡ old ++ pushed ∷ [] → pushed.now ≡ line → bytes_of new ≡ bytes_of old ++ line ∷ []
bytes_of-pushed old new pushed line is_new is_line =
    ap bytes_of is_new ∙ map-append (λ (l : Bor (List ℕ)). l.now) old (pushed ∷ []) ∙ ap (λ (l : List ℕ). bytes_of old ++ l ∷ []) is_line

-- one line more: the lines so far stand in front of what is still to cut
pub one_line_more : (rest line more : List ℕ) (total : List (List ℕ)) (old new : List (Bor (List ℕ))) (pushed : Bor (List ℕ)) → lines_of rest ≡ line ∷ lines_of more → new ≡ old ++ pushed ∷ []
    → pushed.now ≡ line → bytes_of old ++ lines_of rest ≡ total → bytes_of new ++ lines_of more ≡ total
one_line_more rest line more total old new pushed e is_new is_line so_far =
    ap (λ (lines : List (List ℕ)). lines ++ lines_of more) (bytes_of-pushed old new pushed line is_new is_line)
    ∙ append_assoc (bytes_of old) (line ∷ []) (lines_of more)
    ∙ ap (λ (lines : List (List ℕ)). bytes_of old ++ lines) (sym e)
    ∙ so_far

-- nothing is left: the lines so far are all
pub all_lines : (rest : List ℕ) (total : List (List ℕ)) (old : List (Bor (List ℕ))) → lines_of rest ≡ [] → bytes_of old ++ lines_of rest ≡ total → bytes_of old ≡ total
all_lines rest total old none so_far = sym (append-nil (bytes_of old)) ∙ ap (λ (lines : List (List ℕ)). bytes_of old ++ lines) (sym none) ∙ so_far

-- ---- the first line from a place on
-- where a line feed ends it, the next one begins behind that
pub behind_cut : (bytes : List ℕ) (at : ℕ) (line more : List ℕ) → at ≤ length bytes → cut_once 10 (drop at bytes) ≡ Some (line, more)
    → (drop (at + length line + 1) bytes ≡ more) × (at + length line + 1 ≤ length bytes)
behind_cut bytes at line more low e =
    let rest : List ℕ = drop at bytes in
    let found = from_mapped_Some (λ n. (take n rest, drop (n + 1) rest)) (position (λ b. eqb b 10) rest) (line, more) e in
    let lt = (parts_cut (λ b. eqb b 10) rest found.0 found.1).0 in
    let is_line : take found.0 rest ≡ line = ap (λ (p : List ℕ × List ℕ). p.0) found.2 in
    let is_more : drop (found.0 + 1) rest ≡ more = ap (λ (p : List ℕ × List ℕ). p.1) found.2 in
    let long : length line ≡ found.0 = sym (ap length is_line) ∙ length-take-le found.0 rest (omega (arith, lt)) in
    let same : at + (found.0 + 1) ≡ at + length line + 1 = omega (arith, long) in
    let size = length-drop at bytes in
    (ap (λ n. drop n bytes) (sym same) ∙ sym (drop-drop (found.0 + 1) at bytes) ∙ is_more, omega (arith, long, lt, size, low))

pub first_cut : (bytes : List ℕ) (at : ℕ) (line more text : List ℕ) → at ≤ length bytes → cut_once 10 (drop at bytes) ≡ Some (line, more) → text ≡ strip_carriage_return line
    → lines_of (drop at bytes) ≡ text ∷ lines_of (drop (at + length line + 1) bytes)
first_cut bytes at line more text low e is =
    let cut = behind_cut bytes at line more low e in
    lines_of-cut (drop at bytes) line more e ∙ ap (λ (t : List ℕ). t ∷ lines_of more) (sym is) ∙ ap (λ (b : List ℕ). text ∷ lines_of b) (sym cut.0)

-- where nothing is left there is no line
pub none_left : (bytes : List ℕ) → cut_once 10 bytes ≡ None → eqb (length bytes) 0 ≡ true → lines_of bytes ≡ []
none_left bytes e empty = lines_of-uncut bytes e ∙ ap (λ b. cond b [] (strip_carriage_return bytes ∷ [])) empty

-- the last line needs no line feed
pub last_cut : (bytes : List ℕ) (at : ℕ) (text : List ℕ) → cut_once 10 (drop at bytes) ≡ None → eqb (length (drop at bytes)) 0 ≡ false → text ≡ strip_carriage_return (drop at bytes)
    → lines_of (drop at bytes) ≡ text ∷ lines_of (drop (length bytes) bytes)
last_cut bytes at text e some is =
    lines_of-uncut (drop at bytes) e
    ∙ ap (λ b. cond b [] (strip_carriage_return (drop at bytes) ∷ [])) some
    ∙ ap (λ (t : List ℕ). t ∷ []) (sym is)
    ∙ ap (λ (more : List (List ℕ)). text ∷ more) (sym (ap lines_of (drop-length bytes) ∙ lines_of-uncut [] refl))

-- where nothing stands from a place on, that place is the end
pub nothing_behind : (bytes : List ℕ) (at : ℕ) → at ≤ length bytes → eqb (length (drop at bytes)) 0 ≡ true → at ≡ length bytes
nothing_behind bytes at low none =
    let left : length (drop at bytes) ≡ 0 = grind (arith, nat_tests, none) in
    omega (arith, length-drop at bytes, left)
