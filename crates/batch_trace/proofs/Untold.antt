-- What is left of a text, line by line.
use Rattle.std.proofs.Common.{◌≡◌, ◌∙◌, ℕ, ◌<◌, ◌==◌, Bool, true, false, List, [], ◌∷◌, ◌++◌, length, refl, sym, ap, append_assoc, arith}
use Rattle.std.specs.Prelude.{not, if◌then◌else◌}
use Rattle.std.specs.List.{list_all, flat_map, slice_split}
use Rattle.std.proofs.lemmas.List.Splits.{slice_split_at}
use Rattle.tc_words.specs.Lines.{without_last_empty}
use Rattle.tc_words.proofs.Parts.{some_part}
use Rattle.line_texts.proofs.Joins.{avoids-All}
use Rattle.walk_texts.specs.Texts.{joined}
use Rattle.batch_trace.specs.Traced.{Part, own, told, text_in, own_in}
use Rattle.batch_trace.specs.Untold.{lines_in, is_told, untold_line, without_told}

-- no line ends in it
abbrev pub free : List ℕ → Bool
free text = list_all (λ (b : ℕ). not (b == 10)) text

not_last : (part : List ℕ) (parts : List (List ℕ)) → 0 < length parts → without_last_empty (part ∷ parts) ≡ part ∷ without_last_empty parts
not_last part [] lt = absurd (omega arith)
not_last part (next ∷ more) lt = refl

first_line : (line rest : List ℕ) → free line ≡ true → lines_in (line ++ (10 ∷ rest)) ≡ line ∷ lines_in rest
first_line line rest is =
    ap without_last_empty (slice_split_at (λ (b : ℕ). b == 10) line 10 rest (avoids-All (λ (b : ℕ). b == 10) line is) refl)
    ∙ not_last line (slice_split (λ (b : ℕ). b == 10) rest) (some_part (λ (b : ℕ). b == 10) rest)

-- ---- texts that stay, and texts that go, whatever stands behind them
abbrev pub Stays : List ℕ → Type 0
Stays text = (rest : List ℕ) → without_told (text ++ rest) ≡ text ++ without_told rest

abbrev pub Goes : List ℕ → Type 0
Goes text = (rest : List ℕ) → without_told (text ++ rest) ≡ without_told rest

first_left : (line rest : List ℕ) → free line ≡ true → without_told ((line ++ (10 ∷ [])) ++ rest) ≡ untold_line line ++ without_told rest
first_left line rest is = ap without_told (append_assoc line (10 ∷ []) rest) ∙ ap (flat_map untold_line) (first_line line rest is)

pub line_stays : (line : List ℕ) → free line ≡ true → is_told line ≡ false → Stays (line ++ (10 ∷ []))
line_stays line is other = λ rest. first_left line rest is ∙ ap (λ (b : Bool). (if b then [] else line ++ (10 ∷ [])) ++ without_told rest) other

pub line_goes : (line : List ℕ) → free line ≡ true → is_told line ≡ true → Goes (line ++ (10 ∷ []))
line_goes line is begins = λ rest. first_left line rest is ∙ ap (λ (b : Bool). (if b then [] else line ++ (10 ∷ [])) ++ without_told rest) begins

pub none_stays : Stays []
none_stays = λ rest. refl

pub none_goes : Goes []
none_goes = λ rest. refl

pub stays_append : (a b : List ℕ) → Stays a → Stays b → Stays (a ++ b)
stays_append a b first second = λ rest. ap without_told (append_assoc a b rest) ∙ first (b ++ rest) ∙ ap (λ (text : List ℕ). a ++ text) (second rest) ∙ sym (append_assoc a b (without_told rest))

pub goes_append : (a b : List ℕ) → Goes a → Goes b → Goes (a ++ b)
goes_append a b first second = λ rest. ap without_told (append_assoc a b rest) ∙ first (b ++ rest) ∙ second rest

-- ---- lines
abbrev pub AllStay : List (List ℕ) → Type 0
AllStay [] = Unit {0}
AllStay (line ∷ lines) = Stays line × AllStay lines

abbrev pub AllGo : List (List ℕ) → Type 0
AllGo [] = Unit {0}
AllGo (line ∷ lines) = Goes line × AllGo lines

pub all_go_append : (xs ys : List (List ℕ)) → AllGo xs → AllGo ys → AllGo (xs ++ ys)
all_go_append [] ys first second = second
all_go_append (x ∷ xs) ys first second = (first.0, all_go_append xs ys first.1 second)

pub all_stay_append : (xs ys : List (List ℕ)) → AllStay xs → AllStay ys → AllStay (xs ++ ys)
all_stay_append [] ys first second = second
all_stay_append (x ∷ xs) ys first second = (first.0, all_stay_append xs ys first.1 second)

pub joined_stay : (lines : List (List ℕ)) → AllStay lines → Stays (joined lines)
joined_stay [] stay = none_stays
joined_stay (line ∷ lines) stay = stays_append line (joined lines) stay.0 (joined_stay lines stay.1)

pub joined_go : (lines : List (List ℕ)) → AllGo lines → Goes (joined lines)
joined_go [] go = none_goes
joined_go (line ∷ lines) go = goes_append line (joined lines) go.0 (joined_go lines go.1)

-- ---- parts
abbrev pub IsFair : Part → Type 0
IsFair (own text) = Stays text
IsFair (told text) = Goes text

abbrev pub AreFair : List Part → Type 0
AreFair [] = Unit {0}
AreFair (part ∷ parts) = IsFair part × AreFair parts

pub fair_append : (xs ys : List Part) → AreFair xs → AreFair ys → AreFair (xs ++ ys)
fair_append [] ys first second = second
fair_append (x ∷ xs) ys first second = (first.0, fair_append xs ys first.1 second)

-- the parts that are told beside go, and no other
pub own_left : (parts : List Part) → AreFair parts → without_told (text_in parts) ≡ own_in parts
own_left [] fair = refl
own_left (own text ∷ parts) (stays, fair) = stays (text_in parts) ∙ ap (λ (left : List ℕ). text ++ left) (own_left parts fair)
own_left (told text ∷ parts) (goes, fair) = goes (text_in parts) ∙ own_left parts fair
