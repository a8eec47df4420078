-- A text that is written page by page.
use Rattle.std.proofs.Common.{◌≡◌, ◌∙◌, ℕ, ◌+◌, ◌<◌, List, [], ◌∷◌, ◌++◌, Option, length, get_or, take, refl, sym, ap, subst, append_assoc, append-nil}
use Rattle.std.proofs.lemmas.List.{take-append-drop, map-append}
use Rattle.std.specs.Prelude.{map, drop}
use Rattle.std.specs.List.{flat_map}
use Rattle.tc_report.proofs.Lines.{text_more, flat_mapped}
use Rattle.std.proofs.lemmas.Grind.{flat_map-append}
use Rattle.tc_base.specs.Outside.{Appended, AppendsUpTo}
use Rattle.tc_base.proofs.Appends.{Appended-then, AppendsUpTo-front, AppendsUpTo-last, AppendsUpTo-more}
use Rattle.walk_texts.specs.Texts.{joined}
use Rattle.run_report.specs.Pages.{IsPaged}

-- more is put on the page
pub page_put : (old new : Option (List ℕ)) (text page more : List ℕ) → IsPaged old new text page → IsPaged old new (text ++ more) (page ++ more)
page_put old new text page more is = record {
  front = is.front;
  wrote = is.wrote;
  whole = sym (append_assoc is.front page more) ∙ ap (λ (xs : List ℕ). xs ++ more) is.whole;
}

-- what stood on the page was paged on
pub page_then : (old middle new : Option (List ℕ)) (text page next : List ℕ) → IsPaged old middle text page → IsPaged middle new page next → IsPaged old new text next
page_then old middle new text page next is more = record {
  front = is.front ++ more.front;
  wrote = Appended-then old middle new is.front more.front is.wrote more.wrote;
  whole = append_assoc is.front more.front next ∙ ap (λ (xs : List ℕ). is.front ++ xs) more.whole ∙ is.whole;
}

-- more was put on the page, and that was paged on
pub page_on : (old middle new : Option (List ℕ)) (text page more next : List ℕ) → IsPaged old middle text page → IsPaged middle new (page ++ more) next → IsPaged old new (text ++ more) next
page_on old middle new text page more next is then =
    page_then old middle new (text ++ more) (page ++ more) next (page_put old middle text page more is) then

-- what was written is a front of the text, and of a longer one
pub page_front : (old new : Option (List ℕ)) (text page more : List ℕ) → IsPaged old new text page → AppendsUpTo old new (text ++ more)
page_front old new text page more is =
    subst (λ (t : List ℕ). AppendsUpTo old new t)
    (sym (append_assoc is.front page more) ∙ ap (λ (xs : List ℕ). xs ++ more) is.whole)
    (AppendsUpTo-front old new is.front (page ++ more) is.wrote)

-- of the page a front was written
pub page_up_to : (old middle new : Option (List ℕ)) (text page : List ℕ) → IsPaged old middle text page → AppendsUpTo middle new page → AppendsUpTo old new text
page_up_to old middle new text page is front =
    subst (AppendsUpTo old new) is.whole (AppendsUpTo-last old middle new is.front page is.wrote front)

-- the page was written
pub page_all : (old middle new : Option (List ℕ)) (text page : List ℕ) → IsPaged old middle text page → Appended middle new page → Appended old new text
page_all old middle new text page is all =
    subst (Appended old new) is.whole (Appended-then old middle new is.front page is.wrote all)

-- the lines of some, and those of the others
pub lines_parted : {X : Type 0} (line : X → List ℕ) (xs : List X) (k : ℕ) → joined (map line xs) ≡ joined (map line (take k xs)) ++ joined (map line (drop k xs))
lines_parted {X = X} line xs k =
    ap (λ (ys : List X). joined (map line ys)) (sym (take-append-drop k xs))
    ∙ ap joined (map-append line (take k xs) (drop k xs))
    ∙ flat_map-append (λ (l : List ℕ). l) (map line (take k xs)) (map line (drop k xs))

-- ---- a text of which a part was paged
module _ (old new : Option (List ℕ)) (before part rest whole : List ℕ) (parted : whole ≡ part ++ rest) where
  longer : (before ++ part) ++ rest ≡ before ++ whole
  longer = append_assoc before part rest ∙ ap (λ (xs : List ℕ). before ++ xs) (sym parted)

  pub part_up_to : AppendsUpTo old new (before ++ part) → AppendsUpTo old new (before ++ whole)
  part_up_to front = subst (AppendsUpTo old new) longer (AppendsUpTo-more old new (before ++ part) rest front)

  pub part_front : (page : List ℕ) → IsPaged old new (before ++ part) page → AppendsUpTo old new (before ++ whole)
  part_front page is = subst (AppendsUpTo old new) longer (page_front old new (before ++ part) page rest is)

-- the page was turned, and more was put on it
pub page_line : (old middle new : Option (List ℕ)) (text page next after more longer : List ℕ) → IsPaged old middle text page → IsPaged middle new page next
    → after ≡ next ++ more → text ++ more ≡ longer → IsPaged old new longer after
page_line old middle new text page next after more longer is turned put whole =
    rw (put, sym whole) (page_put old new text next more (page_then old middle new text page next is turned))

-- ---- texts of parts
-- the lines of some, and those of the others
pub parts_parted : {X : Type 0} (lines : X → List (List ℕ)) (xs : List X) (k : ℕ) → joined (flat_map lines xs) ≡ joined (flat_map lines (take k xs)) ++ joined (flat_map lines (drop k xs))
parts_parted {X = X} lines xs k =
    ap (λ (ys : List X). joined (flat_map lines ys)) (sym (take-append-drop k xs))
    ∙ ap joined (flat_map-append lines (take k xs) (drop k xs))
    ∙ flat_map-append (λ (l : List ℕ). l) (flat_map lines (take k xs)) (flat_map lines (drop k xs))

-- the lines of some, and that of one more
pub mapped_more : {X : Type 0} (line : X → List ℕ) (before : List ℕ) (xs : List X) (k : ℕ) (x : X) → k < length xs
    → (before ++ joined (map line (take k xs))) ++ line (get_or xs k x) ≡ before ++ joined (map line (take (k + 1) xs))
mapped_more line before xs k x within =
    let whole = λ (n : ℕ). flat_mapped (λ (l : List ℕ). l) line (take n xs) in
    text_more line before (before ++ joined (map line (take k xs))) _ xs k x within (ap (λ (t : List ℕ). before ++ t) (whole k)) refl
    ∙ ap (λ (t : List ℕ). before ++ t) (sym (whole (k + 1)))

-- ---- texts in several steps
-- the lines of a round
pub round_in_steps : (page first : List ℕ) (events packets : List (List ℕ)) (last : List ℕ)
    → (((page ++ first) ++ joined events) ++ joined packets) ++ last ≡ page ++ joined (first ∷ (events ++ (packets ++ (last ∷ []))))
round_in_steps page first events packets last =
    let text : List (List ℕ) → List ℕ = joined in
    append_assoc ((page ++ first) ++ text events) (text packets) last
    ∙ append_assoc (page ++ first) (text events) (text packets ++ last)
    ∙ append_assoc page first (text events ++ (text packets ++ last))
    ∙ ap (λ (t : List ℕ). page ++ (first ++ t))
    (sym (flat_map-append (λ (l : List ℕ). l) events (packets ++ (last ∷ []))
    ∙ ap (λ (t : List ℕ). text events ++ t) (flat_map-append (λ (l : List ℕ). l) packets (last ∷ []) ∙ ap (λ (t : List ℕ). text packets ++ t) (append-nil last))))

-- the lines of a report
pub report_in_steps : (first : List ℕ) (rounds counters : List (List ℕ)) (summary last : List ℕ)
    → (((first ++ joined rounds) ++ joined counters) ++ summary) ++ last ≡ joined (first ∷ (rounds ++ (counters ++ (summary ∷ last ∷ []))))
report_in_steps first rounds counters summary last =
    let text : List (List ℕ) → List ℕ = joined in
    append_assoc ((first ++ text rounds) ++ text counters) summary last
    ∙ append_assoc (first ++ text rounds) (text counters) (summary ++ last)
    ∙ append_assoc first (text rounds) (text counters ++ (summary ++ last))
    ∙ ap (λ (t : List ℕ). first ++ t)
    (sym (flat_map-append (λ (l : List ℕ). l) rounds (counters ++ (summary ∷ last ∷ []))
    ∙ ap (λ (t : List ℕ). text rounds ++ t) (flat_map-append (λ (l : List ℕ). l) counters (summary ∷ last ∷ []) ∙ ap (λ (t : List ℕ). text counters ++ (summary ++ t)) (append-nil last))))

-- a front of the first steps is one of all, and so is what was written of them
module _ (old new : Option (List ℕ)) (so_far next last whole : List ℕ) (steps : (so_far ++ next) ++ last ≡ whole) where
  pub step_up_to : AppendsUpTo old new so_far → AppendsUpTo old new whole
  step_up_to front =
      subst (AppendsUpTo old new) (sym (append_assoc so_far next last) ∙ steps) (AppendsUpTo-more old new so_far (next ++ last) front)

  pub step_front : (page : List ℕ) → IsPaged old new so_far page → AppendsUpTo old new whole
  step_front page is =
      subst (AppendsUpTo old new) (sym (append_assoc so_far next last) ∙ steps) (page_front old new so_far page (next ++ last) is)
