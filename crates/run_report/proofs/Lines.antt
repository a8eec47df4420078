-- Lines that are put one behind the other, each with its number.
use Rattle.std.proofs.Common.{◌≡◌, ◌∙◌, ℕ, ◌+◌, ◌<◌, ◌≤◌, List, ◌++◌, length, take, get_or, sym, ap}
use Rattle.std.specs.Prelude.{map}
use Rattle.std.specs.List.{flat_map, enumerate_from}
use Rattle.std.proofs.lemmas.List.Folds.{flat_map-map}
use Rattle.std.proofs.lemmas.List.FromFn.{length-enumerate_from, get_or-enumerate_from}
use Rattle.tc_report.proofs.Lines.{item_more, flat_parts, take_whole}
use Rattle.walk_texts.specs.Texts.{joined}

-- one element more, of elements that are numbered
numbered_more : {X : Type 0} (text : ℕ × X → List ℕ) (first : ℕ) (old before after : List ℕ) (xs : List X) (k number : ℕ) (x : X) → k < length xs → number ≡ first + k → get_or xs k x ≡ x →
    before ≡ old ++ flat_map text (take k (enumerate_from first xs)) → after ≡ before ++ text (number, x) →
    after ≡ old ++ flat_map text (take (k + 1) (enumerate_from first xs))
numbered_more {X = X} text first old before after xs k number x within at is so_far last =
    item_more text old before after (enumerate_from first xs) k (number, x) (rw length-enumerate_from within)
    (get_or-enumerate_from first xs k (number, x) within ∙ ap (λ (n : ℕ). (n, get_or xs k x)) (sym at) ∙ ap (λ (y : X). (number, y)) is) so_far last

-- the same where each has a line
pub line_more : {X : Type 0} (line : ℕ × X → List ℕ) (first : ℕ) (old before after : List ℕ) (xs : List X) (k number : ℕ) (x : X) → k < length xs → number ≡ first + k → get_or xs k x ≡ x →
    before ≡ old ++ joined (map line (take k (enumerate_from first xs))) → after ≡ before ++ line (number, x) →
    after ≡ old ++ joined (map line (take (k + 1) (enumerate_from first xs)))
line_more line first old before after xs k number x within at is so_far last =
    let whole = λ (n : ℕ). flat_map-map (λ (l : List ℕ). l) line (take n (enumerate_from first xs)) in
    numbered_more line first old before after xs k number x within at is (so_far ∙ ap (λ (t : List ℕ). old ++ t) (whole k)) last
    ∙ ap (λ (t : List ℕ). old ++ t) (sym (whole (k + 1)))

-- the same where each has several lines
pub lines_more : {X : Type 0} (lines : ℕ × X → List (List ℕ)) (first : ℕ) (old before after : List ℕ) (xs : List X) (k number : ℕ) (x : X) → k < length xs → number ≡ first + k → get_or xs k x ≡ x →
    before ≡ old ++ joined (flat_map lines (take k (enumerate_from first xs))) → after ≡ before ++ joined (lines (number, x)) →
    after ≡ old ++ joined (flat_map lines (take (k + 1) (enumerate_from first xs)))
lines_more {X = X} lines first old before after xs k number x within at is so_far last =
    let whole = λ (n : ℕ). flat_parts (λ (l : List ℕ). l) lines (take n (enumerate_from first xs)) in
    numbered_more (λ (y : ℕ × X). joined (lines y)) first old before after xs k number x within at is (so_far ∙ ap (λ (t : List ℕ). old ++ t) (whole k)) last
    ∙ ap (λ (t : List ℕ). old ++ t) (sym (whole (k + 1)))

-- all were gone through
pub all_numbered : {X : Type 0} (first : ℕ) (xs : List X) (k : ℕ) → length xs ≤ k → take k (enumerate_from first xs) ≡ enumerate_from first xs
all_numbered first xs k all = take_whole (enumerate_from first xs) k (rw length-enumerate_from all)
