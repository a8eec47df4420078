-- What commits to roots that stood for nothing put there, for a commit that comes after them.
use Rattle.std.proofs.Common.{◌≡◌, ℕ, ◌+◌, ◌≤◌, List, ◌++◌, length, slice_get, Some, ap, sym, ◌∙◌, subst}
use Rattle.store_history.specs.declared.history.Commit.{Commit}
use Rattle.store_history.specs.declared.history.Named.{Named}
use Rattle.store_history.specs.History.{root_of}
use Rattle.hook_law.specs.Places.{head_root}
use Rattle.hook_law.specs.Records.{Codec}
use Rattle.hook_law.specs.Meaning.{Meaning, point_of, state_at, now_of, next_of}
use Rattle.hook_law.specs.Standing.{Role, Head, Action, PutsAction, IsSlotOf, IsUnused}
use Rattle.hook_law.specs.Telling.{Reads, ReadsAction}
use Rattle.hook_law.specs.Unnumbered.{HaveOwnRoots, SparesAll, FillsBucket, IsFilled}
use Rattle.hook_law.specs.Numbered.{IsPut, IsPutAction}
use Rattle.store_history.proofs.Lists.{get_behind}
use Rattle.hook_law.proofs.Lists.{root_of_none, root_of_one}
use Rattle.hook_law.proofs.Standing.{SameHeads, unused_end, slot_longer}
use Rattle.hook_law.proofs.Sparing.{Spared}

module _ {E S N P : Type 0} (K : Meaning E S N P) (R : Codec N P) where
  -- they leave the heads alone
  pub spares_heads : (h cs : List (Commit E)) (b : ℕ) → b ≤ length h → SparesAll K R b h cs → SameHeads R h (h ++ cs)
  spares_heads h cs b low w hook one = root_of_none h cs (head_root hook) (λ j c at is. unused_end K R h b c.root (Head hook) low (w.each j c at).unused (one, is))

  -- after a longer history the same slots are known
  pub fills_longer : (h more : List (Commit E)) (named : Named) (m size k since : ℕ) (s : S) → FillsBucket K R h named m size k since s
      → FillsBucket K R (h ++ more) named m size k since s
  fills_longer h more named m size k since s w = record {
    stamp = w.stamp;
    reads = w.reads;
    names = λ fs f x read inf inx. slot_longer R h more x.serial x.slot (w.names fs f x read inf inx);
  }

  module _ (h cs : List (Commit E)) (b j : ℕ) (d : Commit E) (w : SparesAll K R b h cs) (own : HaveOwnRoots cs) (spared : Spared K R b h cs) (at : slice_get cs j ≡ Some d) where
    named : root_of (h ++ cs) d.root ≡ d.named
    named = root_of_one h cs j d own at

    pub filled_after : (m size k since : ℕ) (s : S) → FillsBucket K R (h ++ cs) d.named m size k since s
        → IsFilled K R b (h ++ cs) d.root m size k since s
    filled_after m size k since s fills = record {
      unused = spared.unused d.root (w.each j d at).unused;
      fills = subst (λ (z : Named). FillsBucket K R (h ++ cs) z m size k since s) (sym named) fills;
    }

    now_after : now_of K h ≡ now_of K (h ++ cs)
    now_after = ap (λ (edits : List E). state_at K edits (length edits)) (sym spared.edits)

    stamp_after : d.named.stamp ≡ point_of h + 1 → (root_of (h ++ cs) d.root).stamp ≡ point_of (h ++ cs) + 1
    stamp_after is = ap (λ (z : Named). z.stamp) named ∙ (is ∙ ap (λ (edits : List E). length edits + 1) (sym spared.edits))

    pub put_after : (y : E) (x : Role) → d.named.stamp ≡ point_of h + 1 → Reads K R x d.named.chain (now_of K h) (next_of K h y)
        → IsPut K R b (h ++ cs) y d.root x
    put_after y x stamp reads = record {
      unused = spared.unused d.root (w.each j d at).unused;
      stamp = stamp_after stamp;
      reads = subst (λ (z : Named). Reads K R x z.chain (now_of K (h ++ cs)) (next_of K (h ++ cs) y)) (sym named) (subst (λ (s : S). Reads K R x d.named.chain s (K.step s y)) now_after reads);
    }

    -- a commit of the list gives the action its slot
    slot_after : (a slot : ℕ) → PutsAction R d a slot → IsSlotOf R (h ++ cs) a slot
    slot_after a slot puts = record { place = length h + j; commit = d; there = get_behind h cs j ∙ at; puts = puts }

    pub action_after : (y : E) (a slot : ℕ) → PutsAction R d a slot → d.named.stamp ≡ point_of h + 1 → ReadsAction K R a d.named.chain (next_of K h y)
        → IsPutAction K R b (h ++ cs) y a
    action_after y a slot puts stamp reads = let put = put_after y (Action a) stamp reads in record {
      slot = slot;
      there = slot_after a slot puts;
      unused = subst (λ (r : ℕ). IsUnused K R b (h ++ cs) r) puts.root put.unused;
      stamp = ap (λ (r : ℕ). (root_of (h ++ cs) r).stamp) (sym puts.root) ∙ put.stamp;
      reads = subst (λ (r : ℕ). ReadsAction K R a (root_of (h ++ cs) r).chain (next_of K (h ++ cs) y)) puts.root put.reads;
    }
