-- A filter leaves its mask: what the edit's commit asks once the masks are laid.
use Rattle.std.proofs.Common.{◌≡◌, ◌∙◌, ◌⊎◌, inl, inr, ℕ, ◌≤◌, List, [], ◌∷◌, Option, Some, None, sym, ap, subst}
use Rattle.visit_room.specs.declared.names.MaskName.{MaskName}
use Rattle.store_history.specs.declared.history.Commit.{Commit}
use Rattle.filter_state.specs.declared.edit.Edit.{Edit}
use Rattle.filter_state.specs.declared.edit.FilterLine.{FilterLine}
use Rattle.filter_state.specs.declared.refusal.Done.{Done}
use Rattle.filter_state.specs.States.{State}
use Rattle.miniq_pair.specs.Heads.{hook_number}
use Rattle.hook_law.specs.Standing.{IsMaskAt}
use Rattle.hook_store_law.specs.Stated.{hook_meaning, tables_at}
use Rattle.hook_store_law.specs.Blocks.{hook_codec}
use Rattle.hook_store_law.specs.OfEdits.Premises.{now, next, LeavesOtherHook}
use Rattle.desk_heads.specs.OfHeadCommits.Listed.{HasSerial}
use Rattle.desk_heads.specs.OfHeadCommits.Built.{IsBuilt}
use Rattle.desk_actions.specs.OfLedgers.Kept.{commits}
use Rattle.desk_needs.specs.Live.{count_of}
use Rattle.desk_parts.specs.declared.parts.Parts.{Parts}
use Rattle.desk_heads.proofs.OfMoves.OneMore.{built_sort, built_more, built_last}
use Rattle.shared_hook.specs.OfDeskEdits.Ahead.{IsAhead}
use Rattle.shared_hook.proofs.OfDeskEdits.Found.{same_state}
use Rattle.shared_hook.specs.OfDeskEdits.OfMoves.Raises.{IsRaising}
use Rattle.shared_hook.specs.OfDeskEdits.OfMoves.Moves.{IsAtOld, IsToMove, IsOther, IsToLeave}
use Rattle.shared_hook.proofs.OfDeskEdits.OfMoves.Starts.{at_between}
use Rattle.shared_hook.proofs.OfDeskEdits.OfMoves.KeyMoves.{one_built, is_built}

module _ (start raised : Parts) (y : Edit) (done : Done) (ahead : IsAhead start y done) (line : FilterLine) (words : List ℕ) (first : MaskName) (slot count : ℕ) (into : Option ℕ) (others to from : ℕ) (r : IsRaising start raised y (first ∷ []))
    (o : IsToLeave (commits raised.ledger) y line done words first slot count into others to from) where
  abbrev h : List (Commit Edit)
  h = commits raised.ledger

  -- ---- it was alone there
  pub alone_moves : count ≤ 1 → IsToMove h y line.hook (first ∷ []) slot into to from
  alone_moves alone = record {
    leaves = o.leaves;
    built_for = record {
      each = λ n s b. inl (sym (one_built first n s b).0 ∙ o.named);
      to_built = (first.slot, is_built first to o.named);
      from_built = λ stands. absurd (o.gone alone stands);
      once = λ n s other one two. sym (one_built first n s one).1 ∙ (one_built first n other two).1;
      here = λ n s b. subst (HasSerial (tables_at (next h y) (hook_number line.hook))) (sym o.named ∙ (one_built first n s b).0) o.here;
    };
    at = o.at;
  }

  -- ---- it has others, and is laid too
  module _ (second : MaskName) (second_is : second.serial ≡ from) (later : Parts) (r2 : IsRaising start later y (first ∷ second ∷ [])) (here : HasSerial (tables_at (next h y) (hook_number line.hook)) second.serial) where
    abbrev k : List (Commit Edit)
    k = commits later.ledger

    now_later : now k ≡ now h
    now_later = same_state h k (r2.journal ∙ sym r.journal)

    next_later : next k y ≡ next h y
    next_later = ap (λ (u : State). hook_meaning.step u y) now_later

    abbrev One : ℕ → ℕ → Type 0
    One n s = ((first.serial ≡ n) × (first.slot ≡ s)) ⊎ ((second.serial ≡ n) × (second.slot ≡ s))

    two_built : (n s : ℕ) → IsBuilt (first ∷ second ∷ []) n s → One n s
    two_built n s b = pick (built_sort (first ∷ []) second n s b)
      where
        pick : IsBuilt (first ∷ []) n s ⊎ ((second.serial ≡ n) × (second.slot ≡ s)) → One n s
        pick (inl x) = inl (one_built first n s x)
        pick (inr is) = inr is

    each : (n s : ℕ) → One n s → (n ≡ to) ⊎ (n ≡ from)
    each n s (inl is) = inl (sym is.0 ∙ o.named)
    each n s (inr is) = inr (sym is.0 ∙ second_is)

    once : (n s other : ℕ) → One n s → One n other → s ≡ other
    once n s other (inl one) (inl two) = sym one.1 ∙ two.1
    once n s other (inr one) (inr two) = sym one.1 ∙ two.1
    once n s other (inl one) (inr two) = absurd (o.apart (sym o.named ∙ (one.0 ∙ (sym two.0 ∙ second_is))))
    once n s other (inr one) (inl two) = absurd (o.apart (sym o.named ∙ (two.0 ∙ (sym one.0 ∙ second_is))))

    abbrev Has : ℕ → Type 0
    Has n = HasSerial (tables_at (next k y) (hook_number line.hook)) n

    on : (n : ℕ) → HasSerial (tables_at (next h y) (hook_number line.hook)) n → Has n
    on n has = subst (λ (u : State). HasSerial (tables_at u (hook_number line.hook)) n) (sym next_later) has

    there : (n s : ℕ) → One n s → Has n
    there n s (inl is) = subst Has (sym o.named ∙ is.0) (on to o.here)
    there n s (inr is) = subst Has is.0 (on second.serial here)

    forth : (n s : ℕ) → IsMaskAt hook_codec h n s → IsMaskAt hook_codec k n s
    forth = at_between start y done ahead raised later (first ∷ []) (first ∷ second ∷ []) r r2

    back : (n s : ℕ) → IsMaskAt hook_codec k n s → IsMaskAt hook_codec h n s
    back = at_between start y done ahead later raised (first ∷ second ∷ []) (first ∷ []) r2 r

    at_later : (other : Option ℕ) → IsAtOld h to from slot other → IsAtOld k to from slot other
    at_later None at = (forth from slot at.0, λ s x. at.1 s (back to s x))
    at_later (Some other) at = (forth from slot at.0, forth to other at.1, at.2)

    pub both_move : IsToMove k y line.hook (first ∷ second ∷ []) slot into to from
    both_move = record {
      leaves = subst (λ (u : State). LeavesOtherHook line.hook (λ n. (n ≡ to) ⊎ (n ≡ from)) u (next k y)) (sym now_later)
          (subst (LeavesOtherHook line.hook (λ n. (n ≡ to) ⊎ (n ≡ from)) (now h)) (sym next_later) o.leaves);
      built_for = record {
        each = λ n s b. each n s (two_built n s b);
        to_built = (first.slot, built_more (first ∷ []) second to first.slot (is_built first to o.named));
        from_built = λ stands. (second.slot, subst (λ (n : ℕ). IsBuilt (first ∷ second ∷ []) n second.slot) second_is (built_last (first ∷ []) second));
        once = λ n s other one two. once n s other (two_built n s one) (two_built n other two);
        here = λ n s b. there n s (two_built n s b);
      };
      at = at_later into o.at;
    }

    pub count_later : count_of (now k) from ≡ count
    count_later = ap (λ (u : State). count_of u from) now_later ∙ o.counted

    pub other_later : IsOther (count_of (now k)) to into others
    other_later = subst (λ (u : State). IsOther (count_of u) to into others) (sym now_later) o.other
