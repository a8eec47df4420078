-- A desk's lists and commits, one edit further.
use Rattle.std.proofs.Common.{◌≡◌, ◌∙◌, inl, ℕ, ◌+◌, ◌≤◌, Bool, true, false, eqb, eqb-true, List, [], ◌∷◌, ◌++◌, length, Some, None, Ok, Err, refl, sym, ap, subst, arith, length-append}
use Rattle.std.proofs.lemmas.Bool.{eqb-false}
use Rattle.store_history.specs.declared.history.Named.{Named}
use Rattle.store_history.proofs.Histories.{root_own, root_other}
use Rattle.store_history.specs.declared.history.Commit.{Commit}
use Rattle.store_history.specs.History.{root_of, edits_of}
use Rattle.filter_state.specs.declared.edit.Edit.{Edit}
use Rattle.filter_state.specs.declared.refusal.Done.{Done}
use Rattle.filter_state.specs.States.{State}
use Rattle.filter_state.specs.Lines.{IsLine}
use Rattle.filter_state.specs.Steps.{Stepped, step}
use Rattle.hook_lists.specs.declared.kept.Kept.{Kept}
use Rattle.filter_lists.specs.Spells.{Spells}
use Rattle.filter_state.specs.Order.{SameState}
use Rattle.filter_lists.specs.Edits.{Stays, IsFinished}
use Rattle.root_word_laws.specs.Words.{StampsRise}
use Rattle.root_word_laws.proofs.Words.{more_rise}
use Rattle.hook_store_law.specs.Kept.{KeepsHook, IsKeptAt}
use Rattle.hook_law.specs.Meaning.{point_of}
use Rattle.hook_law.specs.Keeping.{Keeps, IsAtRest}
use Rattle.hook_law.specs.Numbered.{Marks}
use Rattle.hook_law.proofs.Growing.{edits_still, edits_more, now_still, now_next}
use Rattle.hook_law.proofs.Marking.{mark_keeps}
use Rattle.hook_law.proofs.Resting.{mark_rests}
use Rattle.hook_store_law.specs.Stated.{hook_meaning}
use Rattle.hook_store_law.specs.Blocks.{hook_codec}
use Rattle.hook_store_law.specs.OfEdits.Premises.{now, next, IsAccepted, IsUnseen}
use Rattle.hook_store_law.proofs.OfEdits.Accepted.{leads}
use Rattle.hook_store_law.proofs.OfEdits.Marking.{marks}
use Rattle.desk_actions.specs.OfLedgers.Ledger.{IsLedger, mark_at}

-- what the lists did is what the step of the state does: the edit is accepted
pub record IsDone (h : List (Commit Edit)) (b : ℕ) (y : Edit) (lists : Kept) (done : Done) : Type 0 where
  pub state : State
  pub accepted : IsAccepted h b y state done
  pub spells : Spells lists state

pub done_is : (h : List (Commit Edit)) (b : ℕ) (old new : Kept) (point : ℕ) (y : Edit) (done : Done) → IsLedger h b old point → IsLine y
    → IsFinished new done (step (now h) y) → IsDone h b y new done
done_is h b old new point y done l line f = pick (step (now h) y) refl f
  where
    pick : (r : Stepped) → step (now h) y ≡ r → IsFinished new done r → IsDone h b y new done
    pick (Ok (t, said)) e f = record {
      state = t;
      accepted = record { keeps = l.kept.keeps.law; low = l.kept.low; line = line; steps = e ∙ ap (λ (d : Done). Ok (t, d)) (sym f.0) };
      spells = f.1;
    }
    pick (Err refusal) e f = absurd f

-- after one more commit with a stamp that isn't above the new point
kept_more : (h : List (Commit Edit)) (b point next : ℕ) (c : Commit Edit) → IsKeptAt h b point → Keeps hook_meaning hook_codec (h ++ c ∷ []) b → StampsRise (h ++ c ∷ [])
    → point ≤ next → c.named.stamp ≤ next → next ≡ point_of (h ++ c ∷ []) → IsKeptAt (h ++ c ∷ []) b next
kept_more h b point next c k keeps rise up stamp is = record {
  low = let low = k.low in let more = length-append h (c ∷ []) in omega (arith, low, more);
  keeps = record { law = keeps; stamps = rise };
  point_is = is;
  early = λ r. pick r (eqb c.root r) refl;
}
  where
    pick : (r : ℕ) (t : Bool) → eqb c.root r ≡ t → (root_of (h ++ c ∷ []) r).stamp ≤ next
    pick r true e = let own = ap (λ (n : Named). n.stamp) (sym (ap (root_of (h ++ c ∷ [])) (eqb-true c.root r e)) ∙ root_own h c) in omega (arith, own, stamp)
    pick r false e = let same = ap (λ (n : Named). n.stamp) (root_other h c r (eqb-false c.root r e)) in let low = k.early r in omega (arith, same, low, up)

-- the stamp of the next edit is later than that of any root
pub next_is_later : (h : List (Commit Edit)) (b point : ℕ) (c : Commit Edit) → IsKeptAt h b point → c.named.stamp ≡ point + 1 → StampsRise (h ++ c ∷ [])
next_is_later h b point c k stamp = more_rise h c k.keeps.stamps (inl (let low = k.early c.root in omega (arith, low, stamp)))

-- what the store asks of the commit that carries the edit
pub next_keeps : (h : List (Commit Edit)) (b point : ℕ) (c : Commit Edit) → IsKeptAt h b point → c.named.stamp ≡ point + 1 → Keeps hook_meaning hook_codec (h ++ c ∷ []) b → KeepsHook (h ++ c ∷ []) b
next_keeps h b point c k stamp keeps = record { law = keeps; stamps = next_is_later h b point c k stamp }

-- after the commit that carries the edit
pub ledger_next : (h : List (Commit Edit)) (b : ℕ) (old new : Kept) (point : ℕ) (y : Edit) (done : Done) (c : Commit Edit) → IsLedger h b old point
    → IsDone h b y new done → c.edit ≡ Some (point_of h + 1, y) → c.named.stamp ≡ point + 1 → Keeps hook_meaning hook_codec (h ++ c ∷ []) b
    → IsAtRest hook_meaning hook_codec (h ++ c ∷ []) → IsLedger (h ++ c ∷ []) b new (point + 1)
ledger_next h b old new point y done c l d number stamp keeps rest = record {
  kept = kept_more h b point (point + 1) c l.kept keeps (next_is_later h b point c l.kept stamp) (omega arith) (omega (arith, stamp))
      (ap (λ (n : ℕ). n + 1) l.kept.point_is ∙ sym (ap length (edits_more h c (point_of h + 1) y number) ∙ length-append (edits_of h) (y ∷ [])));
  rest = rest;
  spells = subst (Spells new) (sym (now_next hook_meaning h c (point_of h + 1) y number ∙ leads h b y d.state done d.accepted)) d.spells;
}

-- after a commit that carries none
pub ledger_still : (h : List (Commit Edit)) (b : ℕ) (lists : Kept) (point : ℕ) (c : Commit Edit) → IsLedger h b lists point → c.edit ≡ None → c.named.stamp ≤ point → StampsRise (h ++ c ∷ [])
    → Keeps hook_meaning hook_codec (h ++ c ∷ []) b → IsAtRest hook_meaning hook_codec (h ++ c ∷ []) → IsLedger (h ++ c ∷ []) b lists point
ledger_still h b lists point c l none stamp rise keeps rest = record {
  kept = kept_more h b point point c l.kept keeps rise (omega arith) stamp (l.kept.point_is ∙ sym (ap length (edits_still h c none)));
  rest = rest;
  spells = subst (Spells lists) (sym (now_still hook_meaning h c none)) l.spells;
}

-- more room in the lists changes nothing of what a desk keeps
pub room_stays : (h : List (Commit Edit)) (b : ℕ) (old new : Kept) (point : ℕ) → Stays old new → IsLedger h b old point → IsLedger h b new point
room_stays h b old new point stays l = record {
  kept = l.kept;
  rest = l.rest;
  spells = subst (λ (s : State). SameState s (now h)) (sym stays) l.spells;
}

-- an edit that no walk can see
module _ (h : List (Commit Edit)) (b : ℕ) (old new : Kept) (point : ℕ) (y : Edit) (done : Done) (l : IsLedger h b old point) (d : IsDone h b y new done) (unseen : IsUnseen y) where
  numbered : (mark_at (point + 1) y).edit ≡ Some (point_of h + 1, y)
  numbered = ap (λ (n : ℕ). Some (n + 1, y)) l.kept.point_is

  marked : Marks hook_meaning hook_codec h (mark_at (point + 1) y) y
  marked = marks h b (mark_at (point + 1) y) y d.state done d.accepted unseen l.rest refl numbered (ap (λ (n : ℕ). n + 1) l.kept.point_is)

  mark_law : Keeps hook_meaning hook_codec (h ++ mark_at (point + 1) y ∷ []) b
  mark_law = mark_keeps hook_meaning hook_codec h b (mark_at (point + 1) y) y l.kept.low l.kept.keeps.law marked

  pub mark_lawful : KeepsHook (h ++ mark_at (point + 1) y ∷ []) b
  mark_lawful = next_keeps h b point (mark_at (point + 1) y) l.kept refl mark_law

  pub mark_ledger : IsLedger (h ++ mark_at (point + 1) y ∷ []) b new (point + 1)
  mark_ledger = ledger_next h b old new point y done (mark_at (point + 1) y) l d numbered refl mark_law
      (mark_rests hook_meaning hook_codec h (mark_at (point + 1) y) y marked)
