-- A filter gets another key: its mask as it is laid, and what its edit changes.
use Rattle.std.proofs.Common.{◌≡◌, ◌∙◌, ◌⊎◌, inl, inr, ℕ, List, [], ◌∷◌, None, Ok, sym, ap, subst, arith}
use Rattle.tc_base.specs.declared.hook.Hook.{Hook}
use Rattle.visit_room.specs.declared.names.MaskName.{MaskName}
use Rattle.store_history.specs.declared.history.Commit.{Commit}
use Rattle.filter_state.specs.declared.edit.Edit.{Edit}
use Rattle.filter_state.specs.declared.edit.Edit.TheVariants as edits
use Rattle.filter_state.specs.declared.refusal.Done.{Done}
use Rattle.filter_state.specs.declared.refusal.Done.TheVariants as dones
use Rattle.filter_state.specs.Lines.{IsLine}
use Rattle.filter_state.specs.States.{State}
use Rattle.filter_state.specs.Sound.{Sound}
use Rattle.filter_state.specs.Steps.{step}
use Rattle.hook_store_law.specs.OfEffects.Parts.{words_of}
use Rattle.miniq_pair.specs.Heads.{hook_number}
use Rattle.hook_law.specs.Standing.{IsMaskAt}
use Rattle.hook_law.specs.Keeping.{Present}
use Rattle.hook_law.proofs.Standing.{present_end}
use Rattle.hook_store_law.specs.Stated.{hook_meaning, tables_at}
use Rattle.hook_store_law.specs.Blocks.{hook_codec}
use Rattle.hook_store_law.specs.OfEdits.Premises.{now, next, LeavesOtherHook}
use Rattle.hook_store_law.proofs.OfEdits.Accepted.{sound}
use Rattle.hook_store_law.proofs.OfEdits.Heading.{other_key_after}
use Rattle.desk_heads.specs.OfHeadCommits.Listed.{HasSerial}
use Rattle.desk_heads.specs.OfHeadCommits.Built.{IsBuilt}
use Rattle.desk_actions.specs.OfLedgers.Kept.{commits, base}
use Rattle.desk_needs.specs.Live.{count_of}
use Rattle.desk_parts.specs.declared.parts.Parts.{Parts}
use Rattle.desk_parts.specs.Desk.{IsDesk}
use Rattle.desk_parts.specs.OfWays.Ways.{OtherKey}
use Rattle.desk_heads.proofs.OfMoves.OneMore.{built_sort, built_last}
use Rattle.shared_hook.specs.OfDeskEdits.Ahead.{IsAhead, GoesOnStill}
use Rattle.shared_hook.proofs.OfDeskEdits.Found.{same_state, same_now, same_next, at_ahead}
use Rattle.shared_hook.specs.OfDeskEdits.OfMoves.Tells.{IsAnsweredMask}
use Rattle.shared_hook.specs.OfDeskEdits.OfMoves.Raises.{IsRaising, IsToLay}
use Rattle.shared_hook.specs.OfDeskEdits.OfMoves.Moves.{IsToMove}
use Rattle.shared_hook.proofs.OfDeskEdits.OfMoves.Starts.{none_built, still_at}
use Rattle.shared_hook.proofs.OfDeskEdits.OfMoves.StateMoves.{serials, answer, key_count, key_some, key_words, key_found}

-- ---- one mask that was built
pub one_built : (name : MaskName) (m s : ℕ) → IsBuilt (name ∷ []) m s → (name.serial ≡ m) × (name.slot ≡ s)
one_built name m s x = pick (built_sort [] name m s x)
  where
    pick : IsBuilt [] m s ⊎ ((name.serial ≡ m) × (name.slot ≡ s)) → (name.serial ≡ m) × (name.slot ≡ s)
    pick (inl none) = absurd (none_built m s none)
    pick (inr is) = is

pub is_built : (name : MaskName) (m : ℕ) → name.serial ≡ m → IsBuilt (name ∷ []) m name.slot
is_built name m is = subst (λ (n : ℕ). IsBuilt (name ∷ []) n name.slot) is (built_last [] name)

module _ (was ahead : Parts) (y : Edit) (done : Done) (d : IsDesk was) (a : IsAhead ahead y done) (still : GoesOnStill (commits was.ledger) (commits ahead.ledger)) (masks_same : ahead.masks ≡ was.masks) (line_is : IsLine y)
    (steps : step (now (commits was.ledger)) y ≡ Ok (next (commits was.ledger) y, done)) (hook : Hook) (slot count : ℕ) (w : OtherKey (commits was.ledger) y hook slot count) where
  abbrev h : List (Commit Edit)
  h = commits was.ledger

  abbrev k : List (Commit Edit)
  k = commits ahead.ledger

  abbrev t : State
  t = next h y

  abbrev m : ℕ
  m = w.row.mask_serial

  abbrev x : Edit
  x = edits.FilterReplace w.line

  s_sound : Sound (now h)
  s_sound = sound h (base was.ledger) y t done (record { keeps = d.whole.kept.keeps.law; low = d.whole.kept.low; line = line_is; steps = steps })

  steps_x : step (now h) x ≡ Ok (t, done)
  steps_x = sym (ap (step (now h)) w.replaces.is) ∙ steps

  answered : done ≡ dones.Filter w.row.pref w.row.handle (serials (now h) t w.line done w.row s_sound steps_x w.replaces.there)
  answered = answer (now h) t w.line done w.row s_sound steps_x w.replaces.there

  next_same : next k y ≡ t
  next_same = same_next was ahead y done d a still masks_same

  -- ---- the mask as it is laid
  pub key_lay : IsToLay k y w.line done w.line.mask.words count m
  key_lay = record {
    mask = subst (λ (u : State). IsAnsweredMask u w.line done w.line.mask.words m) (sym next_same) (record {
      pref = w.row.pref;
      handle = w.row.handle;
      serials = serials (now h) t w.line done w.row s_sound steps_x w.replaces.there;
      answered = answered;
      mask = key_found (now h) t w.line done w.row s_sound steps_x w.replaces.there w.same_mask w.other_key;
    });
    words_are = ap (λ (u : State). words_of u m) next_same ∙ key_words (now h) t w.line done w.row s_sound steps_x w.replaces.there w.same_mask w.other_key;
    counted = w.mask.counted ∙ (sym (key_count (now h) t w.line done w.row s_sound steps_x w.replaces.there w.same_mask w.other_key) ∙ sym (ap (λ (u : State). count_of u m) next_same));
    some = (let same = key_count (now h) t w.line done w.row s_sound steps_x w.replaces.there w.same_mask w.other_key in let some_ = key_some (now h) t w.line done w.row s_sound steps_x w.replaces.there w.same_mask w.other_key in let is = w.mask.counted in
        omega (arith, same, some_, is));
  }

  leaves : LeavesOtherHook w.line.hook (λ other. other ≡ m) (now h) t
  leaves = subst (λ (z : Edit). LeavesOtherHook w.line.hook (λ other. other ≡ m) (now h) (next h z)) (sym w.replaces.is)
      (other_key_after h (base was.ledger) t w.line w.row.pref w.row.handle (serials (now h) t w.line done w.row s_sound steps_x w.replaces.there) w.row (record {
        keeps = d.whole.kept.keeps.law;
        low = d.whole.kept.low;
        line = subst IsLine w.replaces.is line_is;
        steps = steps_x ∙ ap (λ (z : Done). Ok (t, z)) answered;
      }) w.replaces.there w.same_mask w.other_key).1

  -- ---- once it is laid
  module _ (name : MaskName) (name_is : name.serial ≡ m) (raised : Parts) (r : IsRaising ahead raised y (name ∷ [])) (here : HasSerial (tables_at (next k y) (hook_number hook)) name.serial) where
    z : List (Commit Edit)
    z = commits raised.ledger

    pub now_raised : now (commits raised.ledger) ≡ now h
    now_raised = same_state k (commits raised.ledger) r.journal ∙ same_now was ahead y done d a still masks_same

    next_raised : next (commits raised.ledger) y ≡ t
    next_raised = ap (λ (u : State). hook_meaning.step u y) now_raised

    at_raised : IsMaskAt hook_codec (commits raised.ledger) m slot
    at_raised = still_at ahead y done a raised (name ∷ []) r m slot (at_ahead was ahead y done d a still masks_same m slot w.mask.at)

    p : Present hook_meaning hook_codec (commits raised.ledger)
    p = present_end hook_meaning hook_codec (commits raised.ledger) (base raised.ledger) r.ready.accepted.low r.lawful.law

    both : LeavesOtherHook w.line.hook (λ other. (other ≡ m) ⊎ (other ≡ m)) (now h) t
    both = let l = leaves in record {
      heads = l.heads;
      words = λ n none. l.words n (λ is. none (inl is));
      filters = λ n none. l.filters n (λ is. none (inl is));
      params = l.params;
    }

    pub key_moves : IsToMove (commits raised.ledger) y hook (name ∷ []) slot None m m
    key_moves = record {
      leaves = subst (λ (v : Hook). LeavesOtherHook v (λ other. (other ≡ m) ⊎ (other ≡ m)) (now (commits raised.ledger)) (next (commits raised.ledger) y)) (sym w.on)
          (subst (λ (u : State). LeavesOtherHook w.line.hook (λ other. (other ≡ m) ⊎ (other ≡ m)) u (next (commits raised.ledger) y)) (sym now_raised)
          (subst (LeavesOtherHook w.line.hook (λ other. (other ≡ m) ⊎ (other ≡ m)) (now h)) (sym next_raised) both));
      built_for = record {
        each = λ n s b. inl (sym (one_built name n s b).0 ∙ name_is);
        to_built = (name.slot, is_built name m name_is);
        from_built = λ stands. (name.slot, is_built name m name_is);
        once = λ n s other one two. sym (one_built name n s one).1 ∙ (one_built name n other two).1;
        here = λ n s b. subst (λ (u : State). HasSerial (tables_at u (hook_number hook)) n) (next_same ∙ sym next_raised) (subst (HasSerial (tables_at (next k y) (hook_number hook))) (one_built name n s b).0 here);
      };
      at = (at_raised, λ other at. p.one_mask m other slot at at_raised);
    }
