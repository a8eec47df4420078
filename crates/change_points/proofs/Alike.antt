-- Ways over answers that are alike wherever a walk asks.
use Rattle.std.proofs.Common.{◌≡◌, ◌∙◌, ℕ, zero, suc, ◌+◌, ◌-◌, ◌≤◌, Bool, true, false, List, [], ◌∷◌, ◌++◌}
use Rattle.std.proofs.Common.{map, Option, Some, None, inl, inr, refl, sym, ap, subst, arith}
use Rattle.std.specs.Prelude.{if◌then◌else◌}
use Rattle.std.specs.List.{flat_map, list_any, range_with_len}
use Rattle.tc_base.specs.declared.hook.Hook.{Hook}
use Rattle.frame_edit.specs.Tags.{ether_type_of}
use Rattle.walk_rules.specs.declared.limits.TheConstants.{VISITS_MAX}
use Rattle.walk_rules.specs.Questions.{Head, Question, heads_of, Answer, told_heads}
use Rattle.walk_rules.specs.Steps.{Standing, begun, question_of, after}
use Rattle.point_walks.specs.Over.{Answering}
use Rattle.walk_fate_laws.specs.Firsts.{IsAmong, First, first_by, firsts}
use Rattle.walk_fate_laws.specs.Games.{raised}
use Rattle.walk_fate_laws.specs.Ways.{Way, branches, put_before, ways_by, ways_from}
use Rattle.walk_fate_laws.specs.Walks.{same_answer, walk_game, ways_of}
use Rattle.walk_fate_laws.proofs.Members.{of_row}
use Rattle.walk_fate_laws.proofs.Searching.{is_branch, ways_after, ways_on}
use Rattle.walk_fate_laws.proofs.Underway.{IsUnderway, goes_on, IsNoHead, no_head, stop_behind}

-- ---- the first of each key
module _ {X K : Type 0} (same : K → K → Bool) (one other : X → Option K) where
  abbrev AreAlike : List X → Type 0
  AreAlike xs = (seen : List K) → firsts same one seen xs ≡ firsts same other seen xs

  by_test : (b : Bool) (seen : List K) (x : X) (key : K) (xs : List X) → AreAlike xs
      → (if b then firsts same one seen xs else record { item = x; key = key } ∷ firsts same one (key ∷ seen) xs)
      ≡ (if b then firsts same other seen xs else record { item = x; key = key } ∷ firsts same other (key ∷ seen) xs)
  by_test true seen x key xs rest = rest seen
  by_test false seen x key xs rest =
      ap (λ (more : List (First X K)). record { item = x; key = key } ∷ more) (rest (key ∷ seen))

  by_key : (o : Option K) (seen : List K) (x : X) (xs : List X) → AreAlike xs
      → first_by same seen x o (λ now. firsts same one now xs)
      ≡ first_by same seen x o (λ now. firsts same other now xs)
  by_key None seen x xs rest = rest seen
  by_key (Some key) seen x xs rest = by_test (list_any (same key) seen) seen x key xs rest

  pub firsts_alike : (xs : List X) → ((x : X) → IsAmong x xs → one x ≡ other x) → AreAlike xs
  firsts_alike [] alike seen = refl
  firsts_alike (x ∷ xs) alike seen =
      ap (λ (o : Option K). first_by same seen x o (λ now. firsts same one now xs)) (alike x (inl refl))
      ∙ by_key (other x) seen x xs (firsts_alike xs (λ y there. alike y (inr there)))

-- ---- lists put together
flat_alike : {X Y : Type 0} (one other : X → List Y) (xs : List X)
    → ((x : X) → IsAmong x xs → one x ≡ other x) → flat_map one xs ≡ flat_map other xs
flat_alike one other [] alike = refl
flat_alike one other (x ∷ xs) alike =
    ap (λ (ys : List _). ys ++ flat_map one xs) (alike x (inl refl))
    ∙ ap (λ (ys : List _). other x ++ ys) (flat_alike one other xs (λ y there. alike y (inr there)))

module _ (one other : Answering) (ceiling : ℕ) where
  abbrev IsLike : ℕ → Question → Type 0
  IsLike point question = one point question ≡ other point question

  branches_alike : (low : Question → ℕ) (question : Question)
      → ((point : ℕ) → low question ≤ point → IsLike point question)
      → branches (walk_game one) ceiling low question ≡ branches (walk_game other) ceiling low question
  branches_alike low question alike =
      let many = (ceiling + 1) - low question in
      firsts_alike same_answer (λ point. one point question) (λ point. other point question)
      (range_with_len (low question) many)
      (λ point there. alike point (of_row point (low question) many there).0) []

  -- ---- a step, and then the rest
  abbrev GoAlike : ℕ → Standing → (Question → ℕ) → Type 0
  GoAlike depth st low =
      ways_from (walk_game one) ceiling depth st low ≡ ways_from (walk_game other) ceiling depth st low

  by_question : (st : Standing) (o : Option Question) (more rest : Question → List (Way Standing Answer))
      → ((question : Question) → o ≡ Some question → more question ≡ rest question)
      → ways_by st o more ≡ ways_by st o rest
  by_question st None more rest alike = refl
  by_question st (Some question) more rest alike = alike question refl

  on_alike : (depth : ℕ) (st : Standing) (low : Question → ℕ) (question : Question)
      → ((point : ℕ) → low question ≤ point → IsLike point question)
      → ((point : ℕ) (answer : Answer) (bounds : Question → ℕ) → other point question ≡ Some answer
      → GoAlike depth (after st answer) bounds)
      → ways_on (walk_game one) ceiling depth st low question
      ≡ ways_on (walk_game other) ceiling depth st low question
  on_alike depth st low question alike rest =
      ap (λ (bs : List (First ℕ Answer)).
      flat_map (λ b. map (put_before b) (ways_after (walk_game one) ceiling depth st low question b)) bs)
      (branches_alike low question alike)
      ∙ flat_alike (λ b. map (put_before b) (ways_after (walk_game one) ceiling depth st low question b))
      (λ b. map (put_before b) (ways_after (walk_game other) ceiling depth st low question b))
      (branches (walk_game other) ceiling low question)
      (λ b there. ap (map (put_before b)) (rest b.item b.key (raised (walk_game other) low question b.item)
      (is_branch (walk_game other) ceiling low question b there).told))

  step_alike : (depth : ℕ) (st : Standing) (low : Question → ℕ)
      → ((question : Question) → question_of st ≡ Some question → (point : ℕ) → low question ≤ point
      → IsLike point question)
      → ((question : Question) → question_of st ≡ Some question → (point : ℕ) (answer : Answer)
      (bounds : Question → ℕ) → other point question ≡ Some answer → GoAlike depth (after st answer) bounds)
      → GoAlike (suc depth) st low
  unfolding ways_from
  step_alike depth st low alike rest =
      by_question st (question_of st) (λ q. ways_on (walk_game one) ceiling depth st low q)
      (λ q. ways_on (walk_game other) ceiling depth st low q)
      (λ q asks. on_alike depth st low q (alike q asks) (rest q asks))

  none_left : (st : Standing) (low : Question → ℕ) → GoAlike 0 st low
  unfolding ways_from
  none_left st low = refl

  -- ---- behind the head, where masks and actions are answered alike
  module _ (alike : (point : ℕ) (question : Question) → IsNoHead question → IsLike point question) where
    underway_alike : (depth : ℕ) (st : Standing) (low : Question → ℕ) → IsUnderway st → GoAlike depth st low
    underway_alike zero st low underway = none_left st low
    underway_alike (suc depth) st low underway =
        step_alike depth st low
        (λ question asks point least. alike point question (no_head st question underway asks))
        (λ question asks point answer bounds is.
        underway_alike depth (after st answer) bounds (goes_on st question answer underway asks))

    -- ---- and from the head on, where the tables are those of some states and answered alike from a point on
    module _ (before : ℕ) (hook : Hook) (bytes : List ℕ) (heads : ℕ → List Head)
        (are : (point : ℕ) → other point (heads_of hook) ≡ Some (told_heads (heads point)))
        (same : (point : ℕ) → before ≤ point → IsLike point (heads_of hook)) where
      one_question : (o question : Question) → Some o ≡ Some question → o ≡ question
      one_question o question is = cc is

      one_answer : (a answer : Answer) → Some a ≡ Some answer → a ≡ answer
      one_answer a answer is = cc is

      behind_head : (point : ℕ) (answer : Answer) → other point (heads_of hook) ≡ Some answer
          → IsUnderway (after (begun hook bytes) answer)
      behind_head point answer is =
          let told : told_heads (heads point) ≡ answer =
          one_answer (told_heads (heads point)) answer (sym (are point) ∙ is) in
          subst (λ (a : Answer). IsUnderway (after (begun hook bytes) a)) told
          (record { place = stop_behind 0 (ether_type_of bytes) (heads point); few = omega arith })

      begun_alike : (depth : ℕ) → GoAlike depth (begun hook bytes) (λ question. before)
      begun_alike zero = none_left (begun hook bytes) (λ question. before)
      begun_alike (suc depth) = step_alike depth (begun hook bytes) (λ question. before)
          (λ question asks point least. subst (λ (q : Question). IsLike point q)
          (one_question (heads_of hook) question asks) (same point least))
          (λ question asks point answer bounds is. underway_alike depth (after (begun hook bytes) answer) bounds
          (behind_head point answer (subst (λ (q : Question). other point q ≡ Some answer)
          (sym (one_question (heads_of hook) question asks)) is)))

      pub all_alike : ways_of one before ceiling hook bytes ≡ ways_of other before ceiling hook bytes
      all_alike = begun_alike VISITS_MAX
