-- What is known of actions while the lists are ahead goes on with the commits of the edit.
use Rattle.std.proofs.Common.{◌≡◌, ◌∙◌, inl, ℕ, ◌≤◌, List, ◌++◌, length, take, sym, ap, subst, arith, append_assoc, length-append, le_refl}
use Rattle.std.proofs.lemmas.List.{take-append-le, take_all}
use Rattle.act_registry.specs.declared.limits.TheConstants.{MADE_MAX}
use Rattle.store_history.specs.declared.history.Commit.{Commit}
use Rattle.store_history.specs.History.{edits_of}
use Rattle.filter_state.specs.declared.edit.Edit.{Edit}
use Rattle.filter_state.specs.declared.refusal.Done.{Done}
use Rattle.filter_state.specs.States.{State}
use Rattle.filter_state.specs.Sound.{Sound}
use Rattle.hook_law.specs.Meaning.{point_of, state_at, IsLive}
use Rattle.hook_law.specs.Standing.{IsIn}
use Rattle.hook_store_law.specs.Stated.{hook_meaning}
use Rattle.hook_store_law.proofs.States.{state_is, sound_after}
use Rattle.hook_store_law.specs.OfEdits.Premises.{now}
use Rattle.desk_pools.specs.OfNumbers.Numbers.{PoolNumbers}
use Rattle.desk_pools.specs.Steps.{IsInPool}
use Rattle.desk_actions.specs.OfLedgers.Kept.{commits, base}
use Rattle.desk_actions.specs.Places.{Placed, slot_of, AreHereFor}
use Rattle.desk_parts.specs.OfLineActions.Dropped.{MayGo}
use Rattle.desk_parts.specs.OfLineActions.Gone.{serials_gone}
use Rattle.desk_parts.specs.OfLineActions.Put.{IsPlaced}
use Rattle.desk_parts.proofs.OfLineActions.Held.{gone_were_live}
use Rattle.desk_parts.proofs.OfLineActions.Lasting.{place_goes, here_goes}
use Rattle.desk_parts.specs.declared.parts.Parts.{Parts}
use Rattle.desk_parts.specs.Desk.{IsDesk}
use Rattle.shared_hook.specs.OfDeskEdits.Ahead.{IsAhead, GoesOnAside, GoesOnStill}

pub place_stays : (placed : Placed) (h k : List (Commit Edit)) (action : ℕ) → GoesOnAside h k → IsPlaced placed h action → IsPlaced placed k action
place_stays placed h k action goes at = subst (λ (z : List (Commit Edit)). IsPlaced placed z action) (sym goes.seen) (place_goes placed h goes.more goes.aside action at)

pub here_stays : (placed : Placed) (h k : List (Commit Edit)) (s : State) → GoesOnAside h k → AreHereFor placed h s → AreHereFor placed k s
here_stays placed h k s goes here = subst (λ (z : List (Commit Edit)). AreHereFor placed z s) (sym goes.seen) (here_goes placed h goes.more goes.aside s here)

module _ (before ahead after : Parts) (y : Edit) (done : Done) (d : IsDesk before) (a : IsAhead ahead y done) (still : GoesOnStill (commits before.ledger) (commits ahead.ledger))
    (goes : GoesOnAside (commits ahead.ledger) (commits after.ledger)) (e : IsDesk after) (same_base : base after.ledger ≡ base before.ledger) (same_places : after.actions ≡ ahead.actions)
    (same_slots : after.pools.actions ≡ ahead.pools.actions) where
  abbrev h : List (Commit Edit)
  h = commits before.ledger

  abbrev k : List (Commit Edit)
  k = commits ahead.ledger

  abbrev z : List (Commit Edit)
  z = commits after.ledger

  abbrev gone : List ℕ
  gone = serials_gone (now h) y

  same_now : now k ≡ now h
  same_now = ap (λ (edits : List Edit). state_at hook_meaning edits (length edits)) still.journal

  more_is : z ≡ h ++ (still.more ++ goes.more)
  more_is = goes.seen ∙ (ap (λ (x : List (Commit Edit)). x ++ goes.more) still.seen ∙ append_assoc h still.more goes.more)

  first : take (length h) z ≡ h
  first = ap (take (length h)) more_is ∙ (take-append-le (length h) h (still.more ++ goes.more) (le_refl (length h)) ∙ take_all (length h) h (le_refl (length h)))

  longer : length h ≤ length z
  longer = let same = ap length more_is in let sum = length-append h (still.more ++ goes.more) in omega (arith, same, sum)

  sound : Sound (now h)
  sound = subst Sound (sym (state_is (edits_of h) (point_of h))) (sound_after h (base before.ledger) (point_of h) d.whole.kept.keeps.law d.whole.kept.low)

  was_live : (action : ℕ) → IsIn action gone → IsLive hook_meaning (now h) action
  was_live action at = gone_were_live (now h) y action sound at

  low_serial : (action : ℕ) → IsIn action gone → action ≤ MADE_MAX
  low_serial action at = let given = d.actions.made action (slot_of before.actions action) (d.actions.slots action (was_live action at)) in let most = sound.made in omega (arith, given, most)

  live_ahead : (action : ℕ) → IsIn action gone → IsLive hook_meaning (now k) action
  live_ahead action at = subst (λ (s : State). IsLive hook_meaning s action) (sym same_now) (was_live action at)

  pub may_go : MayGo after.ledger.lists after.pools after.actions z (base after.ledger) (length h) gone
  may_go = record {
    keeps = e.whole.kept.keeps.law;
    spells = e.whole.spells;
    pools_are = e.pools;
    here = e.actions;
    late = subst (λ (n : ℕ). n ≤ length h) (sym same_base) d.whole.kept.low;
    made = longer;
    small = low_serial;
    live = λ action at. subst (λ (x : List (Commit Edit)). IsLive hook_meaning (now x) action) (sym first) (was_live action at);
    there = λ action at. subst (λ (p : Placed). IsPlaced p z action) (sym same_places) (place_stays ahead.actions k z action goes (a.earlier action (live_ahead action at)));
    apart = λ action at in_. a.apart action (inl (live_ahead action at))
        (subst (λ (p : PoolNumbers). IsInPool (slot_of ahead.actions action) p) same_slots (subst (λ (p : Placed). IsInPool (slot_of p action) after.pools.actions) same_places in_));
  }
