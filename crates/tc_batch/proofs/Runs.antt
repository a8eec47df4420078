-- Whole runs over the words of a line.
use Rattle.std.proofs.Common.{◌≡◌, ◌∙◌, ℕ, zero, suc, ◌+◌, ◌<◌, ◌≤◌, List, [], ◌∷◌, ◌++◌, length, take, drop, get_or, Option, Some, None, refl, sym, ap, subst, arith, append-nil, ◌⊎◌, inl, inr}
use Rattle.std.specs.Prelude.{IsSomeAnd}
use Rattle.std.specs.Option.{option_and_then}
use Rattle.std.proofs.lemmas.List.{take-append-drop, take_more, take_all, take-take}
use Rattle.tc_batch.specs.FirstBad.{Begins, IsFirstBad}
use Rattle.filter_state.specs.declared.edit.Edit.{Edit}
use Rattle.tc_batch.specs.States.{State}
use Rattle.tc_batch.specs.Grammar.{Gives}
use Rattle.tc_batch.specs.Machine.{next_state, edit_at, run}
use Rattle.tc_batch.proofs.Languages.{Language}
use Rattle.tc_batch.proofs.WordSteps.{step_to, step_from}
use Rattle.tc_batch.proofs.Ends.{end_to, end_from}
use Rattle.tc_batch.proofs.Alive.{alive}

bind_to : (o : Option State) (f : State → Option State) (P Q : State → Type 0) → ((s : State) → P s → IsSomeAnd (f s) Q) → IsSomeAnd o P → IsSomeAnd (option_and_then f o) Q
bind_to None f P Q each h = absurd h
bind_to (Some s) f P Q each h = each s h

bind_from : (o : Option State) (f : State → Option State) (P Q : State → Type 0) → ((s : State) → IsSomeAnd (f s) Q → P s) → IsSomeAnd (option_and_then f o) Q → IsSomeAnd o P
bind_from None f P Q each h = absurd h
bind_from (Some s) f P Q each h = each s h

-- what follows the words follows the state that they lead to
pub run_to : (edit : Edit) (words more : List (List ℕ)) (state : State) → Language edit state (words ++ more) → IsSomeAnd (run state words) (λ s. Language edit s more)
run_to edit [] more state h = h
run_to edit (word ∷ words) more state h =
    bind_to (next_state state word) (λ s. run s words) (λ s. Language edit s (words ++ more)) (λ s. Language edit s more) (λ s it. run_to edit words more s it) (step_to edit state word (words ++ more) h)

pub run_from : (edit : Edit) (words more : List (List ℕ)) (state : State) → IsSomeAnd (run state words) (λ s. Language edit s more) → Language edit state (words ++ more)
run_from edit [] more state h = h
run_from edit (word ∷ words) more state h =
    step_from edit state word (words ++ more) (bind_from (next_state state word) (λ s. run s words) (λ s. Language edit s (words ++ more)) (λ s. Language edit s more) (λ s it. run_from edit words more s it) h)

bind_assoc : (o : Option State) (f g : State → Option State) → option_and_then g (option_and_then f o) ≡ option_and_then (λ s. option_and_then g (f s)) o
bind_assoc None f g = refl
bind_assoc (Some s) f g = refl

bind_same : (o : Option State) (f g : State → Option State) → ((s : State) → f s ≡ g s) → option_and_then f o ≡ option_and_then g o
bind_same None f g same = refl
bind_same (Some s) f g same = same s

pub run_append : (words more : List (List ℕ)) (state : State) → run state (words ++ more) ≡ option_and_then (λ s. run s more) (run state words)
run_append [] more state = refl
run_append (word ∷ words) more state =
    bind_same (next_state state word) (λ s. run s (words ++ more)) (λ s. option_and_then (λ t. run t more) (run s words)) (λ s. run_append words more s)
    ∙ sym (bind_assoc (next_state state word) (λ s. run s words) (λ t. run t more))

-- one word more
pub run_more : (words : List (List ℕ)) (i : ℕ) (state : State) (word : List ℕ) (next : Option State) → run State.Start (take i words) ≡ Some state → i < length words → word ≡ get_or words i [] → next ≡ next_state state word
    → run State.Start (take (i + 1) words) ≡ next
run_more words i state word next so_far lt is goes =
    let split : take (i + 1) words ≡ take i words ++ (get_or words i [] ∷ []) = take_more words i [] lt in
    let two : run State.Start (take (i + 1) words) ≡ option_and_then (λ s. run s (get_or words i [] ∷ [])) (run State.Start (take i words)) =
    ap (run State.Start) split ∙ run_append (take i words) (get_or words i [] ∷ []) State.Start in
    let one : option_and_then (λ s. run s (get_or words i [] ∷ [])) (run State.Start (take i words)) ≡ run state (get_or words i [] ∷ []) = ap (option_and_then (λ s. run s (get_or words i [] ∷ []))) so_far in
    two ∙ one ∙ last (next_state state (get_or words i [])) ∙ sym (goes ∙ ap (next_state state) is)
  where
    last : (o : Option State) → option_and_then (λ s. Some s) o ≡ o
    last None = refl
    last (Some s) = refl

-- words that lead to a state begin a line
begins : (words : List (List ℕ)) (state : State) → run State.Start words ≡ Some state → Begins words
begins words state is = completed words state is (alive state)
  where
    completed : (words : List (List ℕ)) (state : State) → run State.Start words ≡ Some state → (more : List (List ℕ)) × (edit : Edit) × Language edit state more → Begins words
    completed words state is (more, edit, h) =
        record { more = more; edit = edit; gives = run_from edit words more State.Start (subst (λ (o : Option State). IsSomeAnd o (λ s. Language edit s more)) (sym is) h) }

-- words that lead to none begin no line
begins_not : (words : List (List ℕ)) → run State.Start words ≡ None → Begins words → ⊥
begins_not words is begun = subst (λ (o : Option State). IsSomeAnd o (λ s. Language begun.edit s begun.more)) is (run_to begun.edit words begun.more State.Start begun.gives)

-- the words before words that lead to a state lead to one
front : (words more : List (List ℕ)) (state : State) → run State.Start (words ++ more) ≡ Some state → (s : State) × (run State.Start words ≡ Some s)
front words more state is = before (run State.Start words) refl
  where
    before : (o : Option State) → run State.Start words ≡ o → (s : State) × (run State.Start words ≡ Some s)
    before None e = absurd (let no_state : None ≡ Some state = sym (ap (option_and_then (λ s. run s more)) e) ∙ sym (run_append words more State.Start) ∙ is in cc no_state)
    before (Some s) e = (s, e)

front_begins : (words more : List (List ℕ)) (state : State) → run State.Start (words ++ more) ≡ Some state → Begins words
front_begins words more state is = let f = front words more state is in begins words f.0 f.1

split_take : (k i : ℕ) (words : List (List ℕ)) → k ≤ i → take i words ≡ take k words ++ drop k (take i words)
split_take k i words le = sym (ap (λ (front : List (List ℕ)). front ++ drop k (take i words)) (sym (take-take k i words le)) ∙ take-append-drop k (take i words))

-- each front of words that lead to a state begins a line
pub fronts_begin : (words : List (List ℕ)) (i k : ℕ) (state : State) → run State.Start (take i words) ≡ Some state → k ≤ i → Begins (take k words)
fronts_begin words i k state is le = front_begins (take k words) (drop k (take i words)) state (ap (run State.Start) (sym (split_take k i words le)) ∙ is)

-- a word that the state refuses is the first bad word
pub refused : (words : List (List ℕ)) (i : ℕ) (state : State) (word : List ℕ) → run State.Start (take i words) ≡ Some state → i < length words → word ≡ get_or words i [] → None ≡ next_state state word → IsFirstBad words (i + 1)
refused words i state word so_far lt is goes = record {
  first = omega arith;
  within = omega arith;
  before = λ k h. fronts_begin words i k state so_far (omega arith);
  bad = λ h. begins_not (take (i + 1) words) (run_more words i state word None so_far lt is goes);
  cut = λ h edit line. absurd (omega arith);
}

-- the end of the words
pub ended : (words : List (List ℕ)) (state : State) (edit : Edit) → run State.Start words ≡ Some state → Some edit ≡ edit_at state → Gives words edit
ended words state edit so_far is =
    let at : IsSomeAnd (run State.Start words) (λ s. Language edit s []) = subst (λ (o : Option State). IsSomeAnd o (λ s. Language edit s [])) (sym so_far) (end_from edit state (sym is)) in
    subst (λ (ws : List (List ℕ)). Gives ws edit) (append-nil words) (run_from edit words [] State.Start at)

at_end : (words : List (List ℕ)) (state : State) (edit : Edit) → run State.Start words ≡ Some state → Gives words edit → edit_at state ≡ Some edit
at_end words state edit so_far line =
    let at : IsSomeAnd (run State.Start words) (λ s. Language edit s []) = run_to edit words [] State.Start (subst (λ (ws : List (List ℕ)). Gives ws edit) (sym (append-nil words)) line) in
    end_to edit state (subst (λ (o : Option State). IsSomeAnd o (λ s. Language edit s [])) so_far at)

pub cut_short : (words : List (List ℕ)) (state : State) → run State.Start words ≡ Some state → None ≡ edit_at state → IsFirstBad words (length words + 1)
cut_short words state so_far is = record {
  first = omega arith;
  within = omega arith;
  before = λ k h. fronts_begin words (length words) k state (ap (run State.Start) (take_all (length words) words (omega arith)) ∙ so_far) (omega arith);
  bad = λ h. absurd (omega arith);
  cut = λ h edit line. cc (is, at_end words state edit so_far line);
}

-- at most one edit
pub one_edit : (words : List (List ℕ)) (a b : Edit) → Gives words a → Gives words b → a ≡ b
one_edit words a b la lb = both (run State.Start words) refl
  where
    both : (o : Option State) → run State.Start words ≡ o → a ≡ b
    both None is = absurd (subst (λ (o : Option State). IsSomeAnd o (λ s. Language a s [])) is (run_to a words [] State.Start (subst (λ (ws : List (List ℕ)). Gives ws a) (sym (append-nil words)) la)))
    both (Some s) is = let ea : edit_at s ≡ Some a = at_end words s a is la in let eb : edit_at s ≡ Some b = at_end words s b is lb in cc (ea, eb)

pub no_fault : (words : List (List ℕ)) (edit : Edit) (at : ℕ) → Gives words edit → IsFirstBad words at → ⊥
no_fault words edit at line fault =
    let not_within : at ≤ length words → ⊥ = λ le. fault.bad le (record { more = drop at words; edit = edit; gives = subst (λ (ws : List (List ℕ)). Gives ws edit) (sym (take-append-drop at words)) line }) in
    let beyond : length words < at = omega arith in
    fault.cut beyond edit line

-- each list of words gives an edit or has a first bad word
abbrev Answered : List (List ℕ) → Type 0
Answered words = ((edit : Edit) × Gives words edit) ⊎ ((at : ℕ) × IsFirstBad words at)

abbrev Reached : List (List ℕ) → ℕ → Type 0
Reached words i = ((state : State) × (run State.Start (take i words) ≡ Some state)) ⊎ ((at : ℕ) × IsFirstBad words at)

reached_next : (words : List (List ℕ)) (i : ℕ) (state : State) → i < length words → run State.Start (take i words) ≡ Some state → (next : Option State) → next_state state (get_or words i []) ≡ next → Reached words (i + 1)
reached_next words i state here so_far None is = inr (i + 1, refused words i state (get_or words i []) so_far here refl (sym is))
reached_next words i state here so_far (Some next) is = inl (next, run_more words i state (get_or words i []) (Some next) so_far here refl (sym is))

reached_more : (words : List (List ℕ)) (i : ℕ) → i < length words → Reached words i → Reached words (i + 1)
reached_more words i here (inl (state, so_far)) = reached_next words i state here so_far (next_state state (get_or words i [])) refl
reached_more words i here (inr fault) = inr fault

reached : (words : List (List ℕ)) (i : ℕ) → i ≤ length words → Reached words i
reached words zero within = inl (State.Start, refl)
reached words (suc i) within = subst (Reached words) (one_more i) (reached_more words i (omega arith) (reached words i (omega arith)))
  where
    one_more : (n : ℕ) → n + 1 ≡ suc n
    one_more n = omega arith

answered_at : (words : List (List ℕ)) (state : State) → run State.Start words ≡ Some state → (edit : Option Edit) → edit_at state ≡ edit → Answered words
answered_at words state so_far None is = inr (length words + 1, cut_short words state so_far (sym is))
answered_at words state so_far (Some edit) is = inl (edit, ended words state edit so_far (sym is))

pub answered : (words : List (List ℕ)) → Answered words
answered words = from_end (reached words (length words) (omega arith))
  where
    from_end : Reached words (length words) → Answered words
    from_end (inl (state, so_far)) =
        answered_at words state (ap (run State.Start) (sym (take_all (length words) words (omega arith))) ∙ so_far) (edit_at state) refl
    from_end (inr fault) = inr fault
