-- The branches of a question are the points with an answer that no earlier one gave.
use Rattle.std.proofs.Common.{◌≡◌, ◌∙◌, ℕ, zero, suc, ◌+◌, ◌-◌, Bool, true, false, ◌||◌, ◌&&◌, not, List}
use Rattle.std.proofs.Common.{[], ◌∷◌, Option, Some, None, is_some, refl, sym, ap, subst, arith}
use Rattle.std.specs.Prelude.{if◌then◌else◌}
use Rattle.std.specs.List.{list_any, range_with_len}
use Rattle.walk_rules.specs.Questions.{Question, Answer}
use Rattle.point_walks.specs.Over.{Answering}
use Rattle.walk_fate_laws.specs.Firsts.{First, first_by, firsts}
use Rattle.walk_fate_laws.specs.Ways.{branches}
use Rattle.walk_fate_laws.specs.Walks.{same_answer, walk_game}
use Rattle.walk_fate_laws.proofs.Same.{answer_exact}
use Rattle.fate_search.specs.Branches.{same_told, pick, picked, picked_to}
use Rattle.fate_search.proofs.Rows.{or_false, or_swap, any_more}

pick_none : (b : Bool) (point : ℕ) (rest : List (First ℕ Answer)) → pick b point None rest ≡ rest
pick_none true point rest = refl
pick_none false point rest = refl

absorbed : (a b : Bool) → (b ≡ true → a ≡ true) → a ≡ (a || b)
absorbed true b known = refl
absorbed false true known = known refl
absorbed false false known = refl

module _ (told : ℕ → Option Answer) (low : ℕ) where
  -- an answer is that of some point among so many from the bound on
  abbrev given_to : ℕ → Option Answer → Bool
  given_to many o = list_any (λ (earlier : ℕ). same_told o (told earlier)) (range_with_len low many)

  -- which answers were seen
  abbrev AreSeen : List Answer → ℕ → Type 0
  AreSeen seen many = (a : Answer) → list_any (same_answer a) seen ≡ given_to many (Some a)

  one_more : (many : ℕ) (a : Answer) (o : Option Answer) → told (low + many) ≡ o
      → given_to (suc many) (Some a) ≡ (given_to many (Some a) || same_told (Some a) o)
  one_more many a o is =
      any_more (λ (earlier : ℕ). same_told (Some a) (told earlier)) low many
      ∙ ap (λ (p : Option Answer). given_to many (Some a) || same_told (Some a) p) is

  seen_none : (seen : List Answer) (many : ℕ) → AreSeen seen many → told (low + many) ≡ None
      → AreSeen seen (suc many)
  seen_none seen many are is = λ a.
      are a ∙ sym (or_false (given_to many (Some a))) ∙ sym (one_more many a None is)

  seen_known : (seen : List Answer) (many : ℕ) (k : Answer) → AreSeen seen many → told (low + many) ≡ Some k
      → list_any (same_answer k) seen ≡ true → AreSeen seen (suc many)
  seen_known seen many k are is known = λ a.
      absorbed (list_any (same_answer a) seen) (same_answer a k) (λ same.
      subst (λ (b : Answer). list_any (same_answer b) seen ≡ true) (sym (answer_exact a k same)) known)
      ∙ ap (λ (b : Bool). b || same_answer a k) (are a) ∙ sym (one_more many a (Some k) is)

  seen_new : (seen : List Answer) (many : ℕ) (k : Answer) → AreSeen seen many → told (low + many) ≡ Some k
      → AreSeen (k ∷ seen) (suc many)
  seen_new seen many k are is = λ a.
      or_swap (same_answer a k) (list_any (same_answer a) seen)
      ∙ ap (λ (b : Bool). b || same_answer a k) (are a) ∙ sym (one_more many a (Some k) is)

  -- whether a point is the first with its answer
  abbrev first_with : ℕ → Option Answer → Bool
  first_with at o = is_some o && not (list_any (λ (earlier : ℕ). same_told o (told earlier))
      (range_with_len low (at - low)))

  first_is : (many at : ℕ) (k : Answer) (t : Bool) → at ≡ low + many → given_to many (Some k) ≡ t
      → first_with at (Some k) ≡ not t
  first_is many at k t place is =
      let same : at - low ≡ many = omega (arith, place) in
      ap (λ (n : ℕ). not (given_to n (Some k))) same ∙ ap not is

  -- the branches behind a point
  abbrev Rest : ℕ → ℕ → ℕ → Type 0
  Rest many at count = (now : List Answer) → AreSeen now (suc many)
      → firsts same_answer told now (range_with_len (at + 1) count) ≡ picked told low (suc at) count

  by_test : (seen : List Answer) (many at count : ℕ) (k : Answer) (t : Bool) → AreSeen seen many
      → told (low + many) ≡ Some k → list_any (same_answer k) seen ≡ t → Rest many at count
      → (if t then firsts same_answer told seen (range_with_len (at + 1) count)
      else record { item = at; key = k } ∷ firsts same_answer told (k ∷ seen) (range_with_len (at + 1) count))
      ≡ pick (not t) at (Some k) (picked told low (suc at) count)
  by_test seen many at count k true are is tests rest = rest seen (seen_known seen many k are is tests)
  by_test seen many at count k false are is tests rest =
      ap (λ (all : List (First ℕ Answer)). record { item = at; key = k } ∷ all)
      (rest (k ∷ seen) (seen_new seen many k are is))

  by_told : (seen : List Answer) (many at count : ℕ) (o : Option Answer) → AreSeen seen many → at ≡ low + many
      → told (low + many) ≡ o → Rest many at count
      → first_by same_answer seen at o (λ now. firsts same_answer told now (range_with_len (at + 1) count))
      ≡ pick (first_with at o) at o (picked told low (suc at) count)
  by_told seen many at count None are place is rest =
      rest seen (seen_none seen many are is)
      ∙ sym (pick_none (first_with at None) at (picked told low (suc at) count))
  by_told seen many at count (Some k) are place is rest =
      by_test seen many at count k (list_any (same_answer k) seen) are is refl rest
      ∙ ap (λ (b : Bool). pick b at (Some k) (picked told low (suc at) count))
      (sym (first_is many at k (list_any (same_answer k) seen) place (sym (are k))))

  firsts_picked : (seen : List Answer) (many at count : ℕ) → at ≡ low + many → AreSeen seen many
      → firsts same_answer told seen (range_with_len at count) ≡ picked told low at count
  firsts_picked seen many at zero place are = refl
  firsts_picked seen many at (suc count) place are =
      let next : at + 1 ≡ suc at = omega arith in
      by_told seen many at count (told at) are place (ap told (sym place)) (λ now seen_now.
      firsts_picked now (suc many) (at + 1) count (omega (arith, place)) seen_now
      ∙ ap (λ (n : ℕ). picked told low n count) next)

-- THE BRANCHES of a question
pub branches_picked : (answers : Answering) (ceiling : ℕ) (low : Question → ℕ) (question : Question)
    → branches (walk_game answers) ceiling low question
    ≡ picked_to (λ at. answers at question) (low question) (low question) ceiling
branches_picked answers ceiling low question =
    let start : low question ≡ low question + 0 = omega arith in
    firsts_picked (λ at. answers at question) (low question) [] 0 (low question) ((ceiling + 1) - low question) start
    (λ a. refl)
