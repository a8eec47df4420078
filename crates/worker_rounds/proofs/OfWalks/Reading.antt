-- A walk at a reader is one over the journal that the reader has seen behind it.
use Rattle.std.proofs.Common.{◌≡◌, ◌∙◌, ℕ, zero, suc, ◌+◌, ◌≤◌, List, [], ◌∷◌, ◌++◌, length, slice_get, Some, None, refl, sym, ap, subst, arith}
use Rattle.std.specs.Prelude.{min}
use Rattle.std.proofs.lemmas.List.{take-append-le}
use Rattle.std.proofs.lemmas.List.Elements.{filter_map-append}
use Rattle.std.proofs.lemmas.Option.{none-some}
use mathlib.Core.List.{IsPrefix}
use Rattle.tc_base.specs.declared.hook.Hook.{Hook}
use Rattle.store_history.specs.declared.history.Commit.{Commit}
use Rattle.store_history.specs.History.{edits_of}
use Rattle.store_history.proofs.Histories.{prefix_self, prefix_trans, prefix_length}
use Rattle.pin_store.specs.Calls.{seen_by, IsSameReader}
use Rattle.filter_state.specs.declared.edit.Edit.{Edit}
use Rattle.filter_state.specs.States.{State, no_state}
use Rattle.filter_state.specs.Journals.{state_from, state_at}
use Rattle.filter_state.specs.Sound.{Each}
use Rattle.walk_rules.specs.Questions.{Question, heads_of, Answer}
use Rattle.walk_rules.specs.Answers.{answer_of}
use Rattle.walk_rules.specs.Steps.{Standing, begun, question_of, after}
use Rattle.walk_rules.specs.Walks.{Outcome, IsWalk, outcome_of}
use Rattle.walk_rules.proofs.Agreeing.{asks_or_ended}
use Rattle.walk_steps.specs.Walking.{Walking}
use Rattle.walk_rules.specs.OfPoints.Points.{Visit, IsVisited, AreLawfulPoints}
use Rattle.hook_reader.specs.Seats.{HookSeat}
use Rattle.hook_reader.specs.Told.{WalkTold}
use Rattle.worker_rounds.specs.OfPoints.Walked.{HaveOneHead, HasVisited}
use Rattle.worker_rounds.proofs.OfPoints.Orders.{head_late, above_head, never_falls}
use Rattle.worker_rounds.proofs.OfPoints.Follows.{visit_follows}
use Rattle.worker_rounds.specs.OfWalks.Walked.{journal_of, IsWalkedBy}
use Rattle.walk_rules.proofs.OfPoints.Pushing.{at_push, points_pushed, no_points}
use Rattle.worker_rounds.proofs.OfWalks.Places.{IsPastHead, still_past, asks_no_head, first_asked, past_first}

-- ---- beginnings of what was seen
pub edits_prefix : (h g : List (Commit Edit)) → IsPrefix h g → IsPrefix (edits_of h) (edits_of g)
edits_prefix h g (rest, is) = (edits_of rest, sym (filter_map-append _ h rest) ∙ ap edits_of is)

state_kept : (seen longer : List Edit) (point : ℕ) → IsPrefix seen longer → point ≤ length seen → state_at point longer ≡ state_at point seen
state_kept seen longer point (rest, is) within = ap (state_at point) (sym is) ∙ ap (state_from no_state) (take-append-le point seen rest within)

each_raised : (low high : ℕ) (points : List ℕ) → low ≤ high → Each (λ (p : ℕ). p ≤ low) points → Each (λ (p : ℕ). p ≤ high) points
each_raised low high [] order each = tt
each_raised low high (point ∷ points) order each = let first = each.0 in (omega (arith, first, order), each_raised low high points order each.1)

-- ---- a walk, visit by visit, from a standing on
pub record IsRead (floor : ℕ) (old new : HookSeat) (earlier : List Visit) (st : Standing) (points : List ℕ) (outcome : Outcome) : Type 0 where
  pub visits : List Visit
  pub walks : IsWalk (IsVisited (λ point. state_at point (journal_of new))) earlier st points visits outcome
  pub lawful : AreLawfulPoints floor (length (journal_of new)) visits
  pub grown : IsPrefix (seen_by old.place) (seen_by new.place)
  pub same : IsSameReader old.place new.place
  pub later : old.latest ≤ new.latest
  pub seen : Each (λ (p : ℕ). p ≤ new.latest) points
  pub counted : new.visits ≡ min (old.visits + length points) 18446744073709551615

-- what a reader and the visits of its walk so far are, between two visits behind the head's
pub record IsBetween (floor : ℕ) (r : HookSeat) (earlier : List Visit) (st : Standing) : Type 0 where
  pub past : IsPastHead st.place
  pub has : HasVisited r earlier
  pub one : HaveOneHead earlier
  pub some : earlier ≡ [] → ⊥
  pub lawful : AreLawfulPoints floor (length (journal_of r)) earlier
  pub small : r.visits ≤ 18446744073709551615

one_more : (earlier : List Visit) (last : Visit) → HaveOneHead earlier → (earlier ≡ [] → ⊥) → ((hook : Hook) → last.question ≡ heads_of hook → ⊥) → HaveOneHead (earlier ++ last ∷ [])
one_more earlier last one some other place v hook there is = elim (at_push earlier last (suc place) v there) [
  | Rattle.std.proofs.Common.inl early ↦ one place v hook early is
  | Rattle.std.proofs.Common.inr final ↦ other hook (ap (λ (w : Visit). w.question) final.1 ∙ is)
]

pushed_some : (earlier : List Visit) (last : Visit) → earlier ++ last ∷ [] ≡ [] → ⊥
pushed_some [] last e = absurd (cc e)
pushed_some (v ∷ vs) last e = absurd (cc e)

same_reader : (a b c : HookSeat) → IsSameReader a.place b.place → IsSameReader b.place c.place → IsSameReader a.place c.place
same_reader a b c one other = record { number = other.number ∙ one.number; pin = other.pin ∙ one.pin; floor = other.floor ∙ one.floor }

-- a visit, and what follows it
joined : (floor : ℕ) (old mid new : HookSeat) (earlier : List Visit) (st : Standing) (question : Question) (answer : Answer) (point : ℕ) (points : List ℕ) (outcome : Outcome) → question_of st ≡ Some question
    → WalkTold old question answer point mid → IsRead floor mid new (earlier ++ (record { question = question; point = point }) ∷ []) (after st answer) points outcome → IsRead floor old new earlier st (point ∷ points) outcome
joined floor old mid new earlier st question answer point points outcome asks t more =
    let raised = t.latest in let later = more.later in let one = t.counted in let rest = more.counted in
    let kept = state_kept (journal_of mid) (journal_of new) point (edits_prefix (seen_by mid.place) (seen_by new.place) more.grown) t.reached in
    record {
      visits = more.visits;
      walks = (question, answer, earlier ++ (record { question = question; point = point }) ∷ [], asks, (subst (λ (s : State). answer_of s question ≡ Some answer) (sym kept) t.answers, refl), more.walks);
      lawful = more.lawful;
      grown = prefix_trans (seen_by old.place) (seen_by mid.place) (seen_by new.place) t.longer more.grown;
      same = same_reader old mid new t.same more.same;
      later = omega (arith, raised, later);
      seen = (omega (arith, raised, later), more.seen);
      counted = omega (arith, one, rest);
    }

module _ {V : Type 0} (shown : V → HookSeat) (told : V → Question → Answer → ℕ → V → Type 0) (floor : ℕ)
    (tells : (old new : V) (question : Question) (answer : Answer) (point : ℕ) → told old question answer point new → WalkTold (shown old) question answer point (shown new)) where
  -- behind the head
  read_on : (points : List ℕ) (old new : V) (earlier : List Visit) (st : Standing) (outcome : Outcome) → IsBetween floor (shown old) earlier st → IsWalk told old st points new outcome → IsRead floor (shown old) (shown new) earlier st points outcome
  read_on [] old new earlier st outcome b (same, ends) =
      let small = b.small in
      subst (λ (r : HookSeat). IsRead floor (shown old) r earlier st [] outcome) (sym (ap shown same)) (record {
        visits = earlier;
        walks = (refl, ends);
        lawful = b.lawful;
        grown = prefix_self (seen_by (shown old).place);
        same = record { number = refl; pin = refl; floor = refl };
        later = omega arith;
        seen = tt;
        counted = omega (arith, small);
      })
  read_on (point ∷ points) old new earlier st outcome b (question, answer, between, asks, one, rest) =
      let t = tells old between question answer point one in
      let no_head = asks_no_head st question b.past asks in
      let longer = prefix_length (journal_of (shown old)) (journal_of (shown between)) (edits_prefix (seen_by (shown old).place) (seen_by (shown between).place) t.longer) in
      let counted = t.counted in
      joined floor (shown old) (shown between) (shown new) earlier st question answer point points outcome asks t
      (read_on points between new (earlier ++ (record { question = question; point = point }) ∷ []) (after st answer) outcome
      (record {
        past = still_past st answer b.past;
        has = visit_follows (shown old) (shown between) earlier question answer point b.has t;
        one = one_more earlier (record { question = question; point = point }) b.one b.some no_head;
        some = pushed_some earlier (record { question = question; point = point });
        lawful = points_pushed floor (length (journal_of (shown old))) (length (journal_of (shown between))) earlier (record { question = question; point = point }) b.lawful longer t.reached
            (λ none. absurd (b.some none)) (λ first there. above_head (shown old) (shown between) earlier point b.has question answer first t there)
            (λ place early there thing. never_falls (shown old) (shown between) earlier point b.has question answer place early t b.one there thing);
        small = omega (arith, counted);
      }) rest)

  -- from the beginning
  read_first : (hook : Hook) (bytes : List ℕ) (points : List ℕ) (old new : V) (outcome : Outcome) → HasVisited (shown old) [] → floor ≤ (shown old).latest → IsWalk told old (begun hook bytes) points new outcome
      → IsRead floor (shown old) (shown new) [] (begun hook bytes) points outcome
  read_first hook bytes [] old new outcome has low (same, ends) = absurd (asks_or_ended (begun hook bytes) (heads_of hook) outcome refl ends)
  read_first hook bytes (point ∷ points) old new outcome has low (question, answer, between, asks, one, rest) =
      let t = tells old between question answer point one in
      let is = first_asked hook bytes question asks in
      let counted = t.counted in
      let least = head_late (shown old) (shown between) [] point has hook answer (subst (λ (q : Question). WalkTold (shown old) q answer point (shown between)) is t) in
      joined floor (shown old) (shown between) (shown new) [] (begun hook bytes) question answer point points outcome asks t
      (read_on points between new ((record { question = question; point = point }) ∷ []) (after (begun hook bytes) answer) outcome
      (record {
        past = past_first (state_at point (journal_of (shown between))) hook bytes question answer is t.answers;
        has = visit_follows (shown old) (shown between) [] question answer point has t;
        one = λ place v other there. absurd (none-some v there);
        some = pushed_some [] (record { question = question; point = point });
        lawful = points_pushed floor 0 (length (journal_of (shown between))) [] (record { question = question; point = point }) (no_points floor 0) (omega arith) t.reached
            (λ none. omega (arith, low, least)) (λ first there. absurd (none-some first there)) (λ place early there thing. absurd (none-some early there));
        small = omega (arith, counted);
      }) rest)

  pub read_all : (hook : Hook) (bytes points : List ℕ) (old new : V) (st : Standing) (outcome : Outcome) → st ≡ begun hook bytes → HasVisited (shown old) [] → floor ≤ (shown old).latest → IsWalk told old st points new outcome
      → IsRead floor (shown old) (shown new) [] (begun hook bytes) points outcome
  read_all hook bytes points old new st outcome begins has low walk = read_first hook bytes points old new outcome has low (subst (λ (s : Standing). IsWalk told old s points new outcome) begins walk)

-- ---- the walk of a packet
pub walked_by : (old new : HookSeat) (hook : Hook) (bytes points : List ℕ) (outcome : Outcome) (walk : Walking) → walk.points ≡ points → outcome_of walk.standing ≡ Some outcome
    → IsRead old.latest old new [] (begun hook bytes) points outcome → IsWalkedBy old new hook bytes walk
walked_by old new hook bytes points outcome walk are ends read = record {
  outcome = outcome;
  visits = read.visits;
  walks = subst (λ (ps : List ℕ). IsWalk (IsVisited (λ point. state_at point (journal_of new))) [] (begun hook bytes) ps read.visits outcome) (sym are) read.walks;
  ended = ends;
  points = read.lawful;
  grown = read.grown;
  later = read.later;
  seen = subst (Each (λ (p : ℕ). p ≤ new.latest)) (sym are) read.seen;
  counted = read.counted ∙ ap (λ (ps : List ℕ). min (old.visits + length ps) 18446744073709551615) (sym are);
}

-- what every visit keeps, the walk keeps
pub kept_through : {V N : Type 0} (name : V → N) (told : V → Question → Answer → ℕ → V → Type 0) → ((old new : V) (question : Question) (answer : Answer) (point : ℕ) → told old question answer point new → name new ≡ name old)
    → (points : List ℕ) (old new : V) (st : Standing) (outcome : Outcome) → IsWalk told old st points new outcome → name new ≡ name old
kept_through name told keeps [] old new st outcome (same, ends) = ap name same
kept_through name told keeps (point ∷ points) old new st outcome (question, answer, between, asks, one, rest) =
    kept_through name told keeps points between new (after st answer) outcome rest ∙ keeps old between question answer point one

-- in and out of a walk
pub whole_walk : (old before now new : HookSeat) (hook : Hook) (bytes : List ℕ) (walk : Walking) → IsPrefix (seen_by old.place) (seen_by before.place) → (before.visits ≡ old.visits) × (before.latest ≡ old.latest)
    → IsWalkedBy before now hook bytes walk → seen_by new.place ≡ seen_by now.place → (new.visits ≡ now.visits) × (new.latest ≡ now.latest) → IsWalkedBy old new hook bytes walk
whole_walk old before now new hook bytes walk entered same walked left kept =
    let v = same.0 in let l = same.1 in let nv = kept.0 in let nl = kept.1 in let later = walked.later in let counted = walked.counted in
    let journal : journal_of now ≡ journal_of new = ap edits_of (sym left) in
    record {
      outcome = walked.outcome;
      visits = walked.visits;
      walks = subst (λ (es : List Edit). IsWalk (IsVisited (λ point. state_at point es)) [] (begun hook bytes) walk.points walked.visits walked.outcome) journal walked.walks;
      ended = walked.ended;
      points = subst (λ (floor : ℕ). AreLawfulPoints floor (length (journal_of new)) walked.visits) l (subst (λ (es : List Edit). AreLawfulPoints before.latest (length es) walked.visits) journal walked.points);
      grown = subst (λ (g : List (Commit Edit)). IsPrefix (seen_by old.place) g) (sym left) (prefix_trans (seen_by old.place) (seen_by before.place) (seen_by now.place) entered walked.grown);
      later = omega (arith, l, nl, later);
      seen = subst (λ (most : ℕ). Each (λ (p : ℕ). p ≤ most) walk.points) (sym nl) walked.seen;
      counted = omega (arith, v, nv, counted);
    }
