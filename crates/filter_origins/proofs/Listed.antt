-- Filters in the list of those that were brought.
use Rattle.std.proofs.Common.{◌≡◌, ◌∙◌, ◌⊎◌, inl, inr, ℕ, zero, suc, ◌+◌, ◌<◌, ◌≤◌, ◌==◌, Bool, false, List, [], ◌∷◌, ◌++◌, length, Option, Some, None, refl, sym, ap, subst, arith, eqb-true, eq-eqb}
use Rattle.std.specs.Prelude.{slice_get, slice_set, slice_index_or, option_map, if◌then◌else◌}
use Rattle.std.specs.Option.{option_and_then}
use Rattle.std.proofs.lemmas.Bool.{cases_lt, false_from_ne_true}
use Rattle.std.proofs.lemmas.List.{length-append}
use Rattle.std.proofs.lemmas.Option.{slice_get-map}
use Rattle.filter_state.specs.declared.edit.Edit.{Edit}
use Rattle.filter_state.specs.States.{Row}
use Rattle.filter_state.specs.Steps.{step}
use Rattle.filter_state.specs.Journals.{state_at}
use Rattle.edit_lines.specs.declared.line.Line.{Line}
use Rattle.filter_origins.specs.declared.brought.Brought.{Brought}
use Rattle.filter_origins.specs.Entries.{Entry, edits_of, line_of, line_at}
use Rattle.filter_origins.specs.Brought.{row_put, row_after}
use Rattle.filter_origins.specs.Origins.{brought_row, brought_among}
use Rattle.filter_origins.specs.Noted.{went, gone_at, place_in}

abbrev pub Gone : Type 0
Gone = ℕ → Row → Option ℕ

abbrev pub none_gone : Gone
none_gone number row = None

-- ---- one filter
abbrev pub brought_one : Line → Row → Option ℕ → Brought
brought_one by row gone = record {
  by = by;
  hook = row.hook;
  chain = row.chain;
  pref = row.pref;
  protocol = row.protocol;
  handle = row.handle;
  gone = gone;
}

row_same : (line : Option Line) (o : Option Row) (f g : Row → Option ℕ) → ((row : Row) → o ≡ Some row → f row ≡ g row) → brought_row line o f ≡ brought_row line o g
row_same (Some by) (Some row) f g same = ap (λ (gone : Option ℕ). brought_one by row gone ∷ []) (same row refl)
row_same (Some by) None f g same = refl
row_same None o f g same = refl

row_length : (line : Option Line) (o : Option Row) (f g : Row → Option ℕ) → length (brought_row line o f) ≡ length (brought_row line o g)
row_length (Some by) (Some row) f g = refl
row_length (Some by) None f g = refl
row_length None o f g = refl

row_is : (line : Option Line) (o : Option Row) (f : Row → Option ℕ) (by : Line) (row : Row) → line ≡ Some by → o ≡ Some row → brought_row line o f ≡ brought_one by row (f row) ∷ []
row_is line o f by row named is = ap (λ (l : Option Line). brought_row l o f) named ∙ ap (λ (r : Option Row). brought_row (Some by) r f) is

-- ---- lists
gone_left : (number place : ℕ) (xs ys : List Brought) → place < length xs → gone_at number place (xs ++ ys) ≡ gone_at number place xs ++ ys
gone_left number place [] ys less = absurd (omega (arith, less))
gone_left number zero (x ∷ xs) ys less = refl
gone_left number (suc place) (x ∷ xs) ys less = ap (λ (l : List Brought). x ∷ l) (gone_left number place xs ys (omega (arith, less)))

gone_right : (number : ℕ) (xs : List Brought) (y : Brought) → gone_at number (length xs) (xs ++ (y ∷ [])) ≡ xs ++ (went number y ∷ [])
gone_right number [] y = refl
gone_right number (x ∷ xs) y = ap (λ (l : List Brought). x ∷ l) (gone_right number xs y)

pub gone_length : (number place : ℕ) (xs : List Brought) → length (gone_at number place xs) ≡ length xs
gone_length number place [] = refl
gone_length number zero (x ∷ xs) = refl
gone_length number (suc place) (x ∷ xs) = ap suc (gone_length number place xs)

-- one that isn't there doesn't go
pub gone_past : (number place : ℕ) (xs : List Brought) → length xs ≤ place → gone_at number place xs ≡ xs
gone_past number place [] past = refl
gone_past number zero (x ∷ xs) past = absurd (omega (arith, past))
gone_past number (suc place) (x ∷ xs) past = ap (λ (l : List Brought). x ∷ l) (gone_past number place xs (omega (arith, past)))

pub gone_set : (number place : ℕ) (xs : List Brought) (d : Brought) → place < length xs → slice_set xs place (went number (slice_index_or xs place d)) ≡ gone_at number place xs
gone_set number place [] d less = absurd (omega (arith, less))
gone_set number zero (x ∷ xs) d less = refl
gone_set number (suc place) (x ∷ xs) d less = ap (λ (l : List Brought). x ∷ l) (gone_set number place xs d (omega (arith, less)))

slice_left : (xs ys : List Brought) (place : ℕ) → place < length xs → slice_get (xs ++ ys) place ≡ slice_get xs place
slice_left [] ys place less = absurd (omega (arith, less))
slice_left (x ∷ xs) ys zero less = refl
slice_left (x ∷ xs) ys (suc place) less = slice_left xs ys place (omega (arith, less))

slice_right : (xs : List Brought) (y : Brought) → slice_get (xs ++ (y ∷ [])) (length xs) ≡ Some y
slice_right [] y = refl
slice_right (x ∷ xs) y = slice_right xs y

-- ---- all that the first so many edits brought
module _ (entries : List Entry) where
  abbrev journal : List Edit
  journal = edits_of entries

  -- an edit that put a row has a line
  pub has_by : (place : ℕ) (row : Row) → row_after journal place ≡ Some row → (by : Line) × (line_at entries (suc place) ≡ Some by)
  has_by place row put = by_entry (slice_get entries place) refl
    where
      by_entry : (o : Option Entry) → slice_get entries place ≡ o → (by : Line) × (line_at entries (suc place) ≡ Some by)
      by_entry (Some entry) is = (line_of (suc place) entry, ap (option_map (line_of (suc place))) is)
      by_entry None is =
          let none : slice_get journal place ≡ None = slice_get-map (λ (entry : Entry). entry.edit) entries place ∙ ap (option_map (λ (entry : Entry). entry.edit)) is in
          absurd (cc (sym put ∙ ap (option_and_then (λ (edit : Edit). row_put edit (step (state_at place journal) edit))) none))

  pub among_same : (f g : Gone) (many : ℕ) → ((place : ℕ) (row : Row) → place < many → row_after journal place ≡ Some row → f (suc place) row ≡ g (suc place) row) → brought_among entries f many ≡ brought_among entries g many
  among_same f g zero same = refl
  among_same f g (suc last) same =
      ap (λ (l : List Brought). l ++ brought_row (line_at entries (suc last)) (row_after journal last) (f (suc last))) (among_same f g last (λ place row less put. same place row (omega (arith, less)) put))
      ∙ ap (λ (l : List Brought). brought_among entries g last ++ l) (row_same (line_at entries (suc last)) (row_after journal last) (f (suc last)) (g (suc last)) (λ row put. same last row (omega arith) put))

  pub among_length : (f g : Gone) (many : ℕ) → length (brought_among entries f many) ≡ length (brought_among entries g many)
  among_length f g zero = refl
  among_length f g (suc last) =
      length-append (brought_among entries f last) (brought_row (line_at entries (suc last)) (row_after journal last) (f (suc last)))
      ∙ ap (λ (n : ℕ). n + length (brought_row (line_at entries (suc last)) (row_after journal last) (f (suc last)))) (among_length f g last)
      ∙ ap (λ (n : ℕ). length (brought_among entries g last) + n) (row_length (line_at entries (suc last)) (row_after journal last) (f (suc last)) (g (suc last)))
      ∙ sym (length-append (brought_among entries g last) (brought_row (line_at entries (suc last)) (row_after journal last) (g (suc last))))

  -- the list with the filter of one place more
  more_is : (f : Gone) (last : ℕ) (row : Row) (by : Line) → row_after journal last ≡ Some row → line_at entries (suc last) ≡ Some by
      → brought_among entries f (suc last) ≡ brought_among entries f last ++ (brought_one by row (f (suc last) row) ∷ [])
  more_is f last row by put line = ap (λ (l : List Brought). brought_among entries f last ++ l) (row_is (line_at entries (suc last)) (row_after journal last) (f (suc last)) by row line put)

  module _ (place : ℕ) (row : Row) (put : row_after journal place ≡ Some row) (by : Line) (line : line_at entries (suc place) ≡ Some by) where
    -- its place is within
    pub within : (f : Gone) (many : ℕ) → place < many → place_in entries (suc place) < length (brought_among entries f many)
    within f zero less = absurd (omega (arith, less))
    within f (suc last) less = by_place (cases_lt place last) (λ low. within f last low)
      where
        longer : length (brought_among entries f (suc last)) ≡ length (brought_among entries f last) + length (brought_row (line_at entries (suc last)) (row_after journal last) (f (suc last)))
        longer = length-append (brought_among entries f last) (brought_row (line_at entries (suc last)) (row_after journal last) (f (suc last)))

        own : place_in entries (suc place) < length (brought_among entries f (suc place))
        own = let one : length (brought_among entries f (suc place)) ≡ length (brought_among entries f place) + 1 = ap length (more_is f place row by put line) ∙ length-append (brought_among entries f place) (brought_one by row (f (suc place) row) ∷ []) in
            let same : length (brought_among entries none_gone place) ≡ length (brought_among entries f place) = among_length none_gone f place in
            omega (arith, one, same)

        by_place : (place < last) ⊎ (last ≤ place) → (place < last → place_in entries (suc place) < length (brought_among entries f last)) → place_in entries (suc place) < length (brought_among entries f (suc last))
        by_place (inl low) before = let less_before = before low in let long = longer in omega (arith, less_before, long)
        by_place (inr high) before = let at : place ≡ last = omega (arith, high, less) in subst (λ (n : ℕ). place_in entries (suc place) < length (brought_among entries f (suc n))) at own

    -- what stands there
    pub stands : (f : Gone) (many : ℕ) → place < many → slice_get (brought_among entries f many) (place_in entries (suc place)) ≡ Some (brought_one by row (f (suc place) row))
    stands f zero less = absurd (omega (arith, less))
    stands f (suc last) less = by_place (cases_lt place last) (λ low. stands f last low)
      where
        own : slice_get (brought_among entries f (suc place)) (place_in entries (suc place)) ≡ Some (brought_one by row (f (suc place) row))
        own = ap (λ (l : List Brought). slice_get l (place_in entries (suc place))) (more_is f place row by put line)
            ∙ ap (λ (n : ℕ). slice_get (brought_among entries f place ++ (brought_one by row (f (suc place) row) ∷ [])) n) (among_length none_gone f place)
            ∙ slice_right (brought_among entries f place) (brought_one by row (f (suc place) row))

        by_place : (place < last) ⊎ (last ≤ place) → (place < last → slice_get (brought_among entries f last) (place_in entries (suc place)) ≡ Some (brought_one by row (f (suc place) row)))
            → slice_get (brought_among entries f (suc last)) (place_in entries (suc place)) ≡ Some (brought_one by row (f (suc place) row))
        by_place (inl low) before = slice_left (brought_among entries f last) (brought_row (line_at entries (suc last)) (row_after journal last) (f (suc last))) (place_in entries (suc place)) (within f last low) ∙ before low
        by_place (inr high) before = let at : place ≡ last = omega (arith, high, less) in
            subst (λ (n : ℕ). slice_get (brought_among entries f (suc n)) (place_in entries (suc place)) ≡ Some (brought_one by row (f (suc place) row))) at own

    -- it goes with an edit
    module _ (number : ℕ) where
      abbrev pub gone_too : Gone → Gone
      gone_too f q r = if q == suc place then Some number else f q r

      other : (f : Gone) (q : ℕ) (r : Row) → (q ≡ place → ⊥) → f (suc q) r ≡ gone_too f (suc q) r
      other f q r apart =
          let not : (suc q == suc place) ≡ false = false_from_ne_true (suc q == suc place) (λ is. let same : suc q ≡ suc place = eqb-true (suc q) (suc place) is in apart (omega (arith, same))) in
          sym (ap (λ (b : Bool). if b then Some number else f (suc q) r) not)

      its_own : (f : Gone) → gone_too f (suc place) row ≡ Some number
      its_own f = ap (λ (b : Bool). if b then Some number else f (suc place) row) (eq-eqb (suc place) (suc place) refl)

      pub gone_is : (f : Gone) (many : ℕ) → place < many → gone_at number (place_in entries (suc place)) (brought_among entries f many) ≡ brought_among entries (gone_too f) many
      gone_is f zero less = absurd (omega (arith, less))
      gone_is f (suc last) less = by_place (cases_lt place last) (λ low. gone_is f last low)
        where
          own : gone_at number (place_in entries (suc place)) (brought_among entries f (suc place)) ≡ brought_among entries (gone_too f) (suc place)
          own = ap (λ (l : List Brought). gone_at number (place_in entries (suc place)) l) (more_is f place row by put line)
              ∙ ap (λ (n : ℕ). gone_at number n (brought_among entries f place ++ (brought_one by row (f (suc place) row) ∷ []))) (among_length none_gone f place)
              ∙ gone_right number (brought_among entries f place) (brought_one by row (f (suc place) row))
              ∙ ap (λ (l : List Brought). l ++ (brought_one by row (Some number) ∷ [])) (among_same f (gone_too f) place (λ q r low has. other f q r (λ same. omega (arith, low, same))))
              ∙ ap (λ (gone : Option ℕ). brought_among entries (gone_too f) place ++ (brought_one by row gone ∷ [])) (sym (its_own f))
              ∙ sym (more_is (gone_too f) place row by put line)

          by_place : (place < last) ⊎ (last ≤ place) → (place < last → gone_at number (place_in entries (suc place)) (brought_among entries f last) ≡ brought_among entries (gone_too f) last)
              → gone_at number (place_in entries (suc place)) (brought_among entries f (suc last)) ≡ brought_among entries (gone_too f) (suc last)
          by_place (inl low) before =
              gone_left number (place_in entries (suc place)) (brought_among entries f last) (brought_row (line_at entries (suc last)) (row_after journal last) (f (suc last))) (within f last low)
              ∙ ap (λ (l : List Brought). l ++ brought_row (line_at entries (suc last)) (row_after journal last) (f (suc last))) (before low)
              ∙ ap (λ (l : List Brought). brought_among entries (gone_too f) last ++ l)
              (row_same (line_at entries (suc last)) (row_after journal last) (f (suc last)) (gone_too f (suc last)) (λ r has. other f last r (λ same. omega (arith, low, same))))
          by_place (inr high) before = let at : place ≡ last = omega (arith, high, less) in
              subst (λ (n : ℕ). gone_at number (place_in entries (suc place)) (brought_among entries f (suc n)) ≡ brought_among entries (gone_too f) (suc n)) at own
