-- From one desk to the next: the lists get room, what left is tidied, the edit is done.
use Rattle.std.proofs.Common.{◌≡◌, ◌∙◌, ◌⊎◌, inl, inr, ℕ, ◌+◌, ◌<◌, ◌^◌, List, [], ◌∷◌, ◌++◌, length, Ok, Err, Result, refl, sym, ap, subst, arith, length-append}
use Rattle.store_history.specs.declared.history.Commit.{Commit}
use Rattle.store_history.specs.History.{edits_of}
use Rattle.pin_store.specs.Calls.{sheet_of, seen_by}
use Rattle.filter_state.specs.declared.edit.Edit.{Edit}
use Rattle.filter_state.specs.declared.refusal.Done.{Done}
use Rattle.filter_state.specs.declared.refusal.Refusal.{Refusal}
use Rattle.filter_state.specs.States.{State}
use Rattle.filter_state.specs.Steps.{Stepped, step}
use Rattle.filter_lists.specs.Edits.{Stays}
use Rattle.hook_lists.specs.declared.kept.Kept.{Kept}
use Rattle.hook_law.specs.Meaning.{state_at}
use Rattle.hook_law.proofs.Growing.{state_pushed}
use Rattle.hook_store_law.specs.Stated.{hook_meaning}
use Rattle.hook_lists.specs.States.{state_of}
use Rattle.hook_store_law.specs.OfEdits.Premises.{now, next}
use Rattle.hook_store_law.proofs.OfEdits.Accepted.{sound}
use Rattle.desk_needs.specs.declared.pool.Pool.{Pool}
use Rattle.desk_needs.specs.Needs.{needed_of}
use Rattle.desk_needs.proofs.OfRoom.Pools.{suffice, edit_few}
use Rattle.desk_actions.specs.OfLedgers.Kept.{commits, base}
use Rattle.desk_parts.specs.declared.parts.Parts.{Parts}
use Rattle.shared_hook.specs.OfBalance.Counts.{free_of, left_of, AreCounted}
use Rattle.shared_hook.specs.OfPlans.Done.{IsDone}
use Rattle.shared_hook.specs.OfPlans.Plans.{IsPlan, IsReadyFor}
use Rattle.shared_hook.proofs.OfPlans.Staying.{plan_stays}
use Rattle.shared_hook.specs.declared.beginning.Begun.{Begun}
use Rattle.shared_hook.specs.declared.fault.ApplyFault.{ApplyFault}
use Rattle.shared_hook.specs.declared.fault.ApplyFault.TheVariants.{Held, Refused}
use Rattle.shared_hook.specs.declared.clearing.Hindrance.{Hindrance}
use Rattle.shared_hook.specs.Begun.{IsBegun, HasAll, CanHave, IsCleared, IsHindered}
use Rattle.shared_hook.specs.Applied.{IsCause, IsApplied, IsRefused, IsHeld, HasNeeded, stepped}
use Rattle.shared_hook.specs.Views.{DeskView, view_of}
use Rattle.shared_hook.proofs.Shorts.{count_free, count_left, needed_is}
use Rattle.shared_hook.proofs.Roominess.{same_now}
use Rattle.desk_parts.specs.Desk.{IsDesk}

-- ---- an edit that was begun
pub can_have : (b : Parts) (y : Edit) (begun : Begun) → IsBegun b y begun → AreCounted b.pools (now (commits b.ledger)) → CanHave b begun.needs
can_have b y begun it all = record {
  counted = all;
  suffice = λ pool. let s = now (commits b.ledger) in let sure = sound (commits b.ledger) (base b.ledger) y (next (commits b.ledger) y) it.done it.accepted in
      let most = suffice s y pool sure (edit_few s (next (commits b.ledger) y) it.done sure y it.accepted.line it.accepted.steps) in
      let same = needed_is s begun.needs y it.needs pool in omega (arith, most, same);
}

-- the lists got room alone
module _ (was b : Parts) (rest : b ≡ record was { ledger = record was.ledger { lists = b.ledger.lists } }) where
  pub same_commits : commits b.ledger ≡ commits was.ledger
  same_commits = ap (λ (p : Parts). commits p.ledger) rest

  pub counted_still : AreCounted was.pools (now (commits was.ledger)) → AreCounted b.pools (now (commits b.ledger))
  counted_still all = subst (λ (p : Parts). AreCounted p.pools (now (commits p.ledger))) (sym rest) all

  pub refused_still : (y : Edit) (refusal : Refusal) → IsCause refusal (step (now (commits was.ledger)) y) → Stays was.ledger.lists b.ledger.lists → IsRefused (view_of was) (view_of b) y refusal
  refused_still y refusal cause stays = record {
    cause = cause;
    place = ap (λ (p : Parts). p.ledger.writer.place) rest;
    lists = stays;
    free = ap (λ (p : Parts). (view_of p).free) rest;
    left = ap (λ (p : Parts). (view_of p).left) rest;
  }

  module _ (y : Edit) (begun : Begun) (it : IsBegun b y begun) (stays : Stays was.ledger.lists b.ledger.lists) (m : Parts) (cleared : IsCleared b m begun.needs) where
    now_was : now (commits b.ledger) ≡ now (commits was.ledger)
    now_was = ap now same_commits

    now_m : now (commits m.ledger) ≡ now (commits was.ledger)
    now_m = same_now (commits b.ledger) (commits m.ledger) cleared.journal ∙ now_was

    need : (pool : Pool) → needed_of (now (commits b.ledger)) y pool ≡ needed_of (now (commits was.ledger)) y pool
    need pool = ap (λ (s : State). needed_of s y pool) now_was

    free_b : (pool : Pool) → free_of b.pools pool ≡ free_of was.pools pool
    free_b pool = ap (λ (p : Parts). free_of p.pools pool) rest

    has_all : HasNeeded (view_of was) y → HasAll b begun.needs
    has_all has pool = let a = has pool in let n = needed_is (now (commits b.ledger)) begun.needs y it.needs pool in let s = need pool in let c = count_free was.pools pool in let f = free_b pool in
        omega (arith, a, n, s, c, f)

    has_needed : HasAll b begun.needs → HasNeeded (view_of was) y
    has_needed has pool = let a = has pool in let n = needed_is (now (commits b.ledger)) begun.needs y it.needs pool in let s = need pool in let c = count_free was.pools pool in let f = free_b pool in
        omega (arith, a, n, s, c, f)

    epoch_b : (sheet_of b.ledger.writer.place).epoch ≡ (sheet_of was.ledger.writer.place).epoch
    epoch_b = ap {B = ℕ} (λ (p : Parts). (sheet_of p.ledger.writer.place).epoch) rest

    epochs : (HasNeeded (view_of was) y → ⊥) → ((sheet_of m.ledger.writer.place).epoch ≡ (sheet_of was.ledger.writer.place).epoch + 1) ⊎ ((sheet_of m.ledger.writer.place).epoch ≡ (sheet_of was.ledger.writer.place).epoch + 2)
    epochs lacks = pick (cleared.tidied (λ has. lacks (has_needed has)))
      where
        pick : ((sheet_of m.ledger.writer.place).epoch ≡ (sheet_of b.ledger.writer.place).epoch + 1) ⊎ ((sheet_of m.ledger.writer.place).epoch ≡ (sheet_of b.ledger.writer.place).epoch + 2)
            → ((sheet_of m.ledger.writer.place).epoch ≡ (sheet_of was.ledger.writer.place).epoch + 1) ⊎ ((sheet_of m.ledger.writer.place).epoch ≡ (sheet_of was.ledger.writer.place).epoch + 2)
        pick (inl one) = inl (let e = epoch_b in omega (arith, one, e))
        pick (inr two) = inr (let e = epoch_b in omega (arith, two, e))

    journal_m : edits_of (commits m.ledger) ≡ edits_of (commits was.ledger)
    journal_m = cleared.journal ∙ ap edits_of same_commits

    -- ---- a reader is in the way
    pub held_so : (hindrance : Hindrance) → IsHindered b m begun.needs hindrance
        → IsHeld (view_of was) (view_of m) y hindrance.short.pool hindrance.reader hindrance.pin hindrance.short.needed hindrance.short.free
    held_so hindrance h = record {
      accepted = (_, it.done, ap (λ (s : State). step s y) (sym now_was) ∙ it.accepted.steps);
      needs = h.short.needed ∙ (needed_is (now (commits b.ledger)) begun.needs y it.needs hindrance.short.pool ∙ need hindrance.short.pool);
      counted = h.short.counted;
      few = h.short.few;
      first = λ other low. let a = h.short.first other low in let n = needed_is (now (commits b.ledger)) begun.needs y it.needs other in let s = need other in omega (arith, a, n, s);
      named = h.named;
      seen_twice = h.seen_twice;
      odd = h.odd;
      epochs = epochs (λ has. h.lacked (has_all has));
      journal_is = journal_m;
      lists = ap (λ (l : Kept). state_of l) cleared.lists ∙ stays;
      commits = (cleared.seen.0, cleared.seen.1 ∙ ap (λ (l : List (Commit Edit)). l ++ cleared.seen.0) same_commits, cleared.seen.2);
      kept = λ other. let f = cleared.free other in let e = free_b other in let a = count_free was.pools other in let c = count_free m.pools other in omega (arith, f, e, a, c);
      left = λ none. h.left (λ other. ap (λ (p : Parts). left_of p.pools other) rest ∙ (sym (count_left was.pools other) ∙ none other));
    }

    -- ---- there is room
    lists_ready : m.ledger.lists ≡ begun.prepared.lists
    lists_ready = cleared.lists ∙ it.ready

    pub plan_still : IsDesk b → IsPlan (commits m.ledger) y begun.plan
    plan_still desk = plan_stays b m desk cleared.desk cleared.journal cleared.masks y begun.plan it.plan

    pub ready_still : (all : HasAll m begun.needs) → m.ledger.point + 1 < 2 ^ 32 → IsReadyFor m y begun.prepared
    ready_still all few = record {
      desk = cleared.desk;
      ready = lists_ready;
      edit = it.edit;
      done = it.done;
      accepted = record {
        keeps = cleared.desk.whole.kept.keeps.law;
        low = cleared.desk.whole.kept.low;
        line = it.accepted.line;
        steps = subst (λ (s : State). step s y ≡ Ok (hook_meaning.step s y, it.done)) (now_was ∙ sym now_m) it.accepted.steps;
      };
      few = few;
      enough = λ pool. let a = all pool in let n = needed_is (now (commits b.ledger)) begun.needs y it.needs pool in let s = ap (λ (st : State). needed_of st y pool) (now_was ∙ sym now_m) in omega (arith, a, n, s);
    }

    module _ (n : Parts) (done : Done) (d : IsDone m n y done) where
      now_n : now (commits n.ledger) ≡ next (commits m.ledger) y
      now_n = ap (λ (edits : List Edit). state_at hook_meaning edits (length edits)) d.journal
          ∙ state_pushed hook_meaning (edits_of (commits m.ledger)) y (length (edits_of (commits m.ledger) ++ y ∷ [])) (omega (arith, length-append (edits_of (commits m.ledger)) (y ∷ [])))

      pub applied_so : IsApplied (view_of was) (view_of n) y done
      applied_so = record {
        steps = ap (λ (s : State). step s y) (sym now_m) ∙ (d.steps ∙ ap (λ (s : State). Ok (s, done)) (sym now_n));
        journal_is = d.journal ∙ ap (λ (l : List Edit). l ++ y ∷ []) journal_m;
        lowered = λ pool. let f = cleared.free pool in let e = free_b pool in let l = d.lowered pool in let a = count_free was.pools pool in let c = count_free n.pools pool in
            let s = ap (λ (st : State). needed_of st y pool) now_m in omega (arith, f, e, l, a, c, s);
        still = λ has. d.sheet.epoch ∙ (ap {B = ℕ} (λ (p : Parts). (sheet_of p.ledger.writer.place).epoch) (cleared.still (has_all has)) ∙ epoch_b);
        tidied = λ lacks. later (epochs lacks);
      }
        where
          later : ((sheet_of m.ledger.writer.place).epoch ≡ (sheet_of was.ledger.writer.place).epoch + 1) ⊎ ((sheet_of m.ledger.writer.place).epoch ≡ (sheet_of was.ledger.writer.place).epoch + 2)
              → ((sheet_of n.ledger.writer.place).epoch ≡ (sheet_of was.ledger.writer.place).epoch + 1) ⊎ ((sheet_of n.ledger.writer.place).epoch ≡ (sheet_of was.ledger.writer.place).epoch + 2)
          later (inl one) = inl (d.sheet.epoch ∙ one)
          later (inr two) = inr (d.sheet.epoch ∙ two)

-- ---- what is said of an answer
abbrev Said : Type 0
Said = Result Done ApplyFault

at_done : (Done → Type 0) → Said → Type 0
at_done P (Ok done) = P done
at_done P (Err fault) = Unit

at_held : (Pool → ℕ → ℕ → ℕ → ℕ → Type 0) → Said → Type 0
at_held P (Ok done) = Unit
at_held P (Err (Refused refusal)) = Unit
at_held P (Err (Held pool reader pin needed free)) = P pool reader pin needed free

pub same_done : (was : Done) (P : Done → Type 0) → P was → (done : Done) → ◌≡◌ {A = Said} (Ok was) (Ok done) → P done
unfolding at_done
same_done was P so done is = subst (at_done P) is so

pub same_held : (fault : ApplyFault) (hindrance : Hindrance) → fault ≡ Held hindrance.short.pool hindrance.reader hindrance.pin hindrance.short.needed hindrance.short.free → (P : Pool → ℕ → ℕ → ℕ → ℕ → Type 0)
    → P hindrance.short.pool hindrance.reader hindrance.pin hindrance.short.needed hindrance.short.free
    → (pool : Pool) (reader pin needed free : ℕ) → ◌≡◌ {A = Said} (Err fault) (Err (Held pool reader pin needed free)) → P pool reader pin needed free
unfolding at_held
same_held fault hindrance told P so pool reader pin needed free is = subst (at_held P) (ap (λ (f : ApplyFault). the_fault f) (sym told) ∙ is) so
  where
    the_fault : ApplyFault → Said
    the_fault f = Err f

-- ---- what is refused is told
refuses : Refusal → Stepped → Type 0
refuses refusal (Ok next) = ⊥
refuses refusal (Err said) = refusal ≡ said

same_cause : (refusal other : Refusal) (stepped : Stepped) → stepped ≡ Err refusal → IsCause other stepped → other ≡ refusal
same_cause refusal other stepped is cause = subst (IsCause other) is cause

module _ (old new : DeskView) (y : Edit) (refusal : Refusal) (is : stepped old y ≡ Err refusal) where
  not_ok : (next : State × Done) → stepped old y ≡ Ok next → ⊥
  unfolding refuses
  not_ok next ok = subst (refuses refusal) ok (subst (refuses refusal) (sym is) refl)

  pub refused_then : (result : Said) → ((done : Done) → result ≡ Ok done → IsApplied old new y done)
      → ((other : Refusal) → result ≡ Err (Refused other) → IsRefused old new y other)
      → ((pool : Pool) (reader pin needed free : ℕ) → result ≡ Err (Held pool reader pin needed free) → IsHeld old new y pool reader pin needed free)
      → result ≡ Err (Refused refusal)
  refused_then (Ok done) applied refused held = absurd (not_ok (now (seen_by new.place), done) (applied done refl).steps)
  refused_then (Err (Refused other)) applied refused held = ap (λ (r : Refusal). Err (Refused r)) (same_cause refusal other (stepped old y) is (refused other refl).cause)
  refused_then (Err (Held pool reader pin needed free)) applied refused held = let a = (held pool reader pin needed free refl).accepted in absurd (not_ok (a.0, a.1) a.2)
