-- A filter gets another mask: both masks as they are laid, and what its edit changes.
use Rattle.std.proofs.Common.{◌≡◌, ◌≢◌, ◌∙◌, ◌⊎◌, ℕ, false, ◌+◌, ◌<◌, List, [], ◌∷◌, length, Option, Some, None, Ok, refl, sym, ap, subst, arith, ne_eqb}
use Rattle.tc_base.specs.declared.hook.Hook.{Hook}
use Rattle.visit_room.specs.declared.names.MaskName.{MaskName}
use Rattle.store_history.specs.declared.history.Commit.{Commit}
use Rattle.filter_state.specs.declared.edit.Edit.{Edit}
use Rattle.filter_state.specs.declared.edit.Edit.TheVariants as edits
use Rattle.filter_state.specs.declared.refusal.Done.{Done}
use Rattle.filter_state.specs.declared.refusal.Done.TheVariants as dones
use Rattle.filter_state.specs.Lines.{IsLine}
use Rattle.filter_state.specs.States.{Row, State}
use Rattle.filter_state.specs.Order.{of_mask}
use Rattle.filter_state.specs.Sound.{Sound, IsRow}
use Rattle.filter_state.specs.Tables.{mask_row, mask_or_next}
use Rattle.filter_state.specs.Steps.{step}
use Rattle.filter_state.proofs.Pairs.{each_weaker}
use Rattle.row_laws.proofs.OfLookups.Heads.{filter_none}
use Rattle.hook_store_law.specs.OfEffects.Parts.{Stands, words_of}
use Rattle.mask_table.specs.declared.mirrors.mirror.KeptMask.{KeptMask}
use Rattle.mask_writer.proofs.Standing.{one_mask}
use Rattle.miniq_pair.specs.Heads.{hook_number}
use Rattle.hook_law.specs.Standing.{IsMaskAt}
use Rattle.hook_store_law.specs.Stated.{hook_meaning, tables_at}
use Rattle.hook_store_law.specs.Blocks.{hook_codec}
use Rattle.hook_store_law.specs.OfEdits.Premises.{now, next, LeavesOtherHook}
use Rattle.hook_store_law.proofs.OfEdits.Accepted.{sound}
use Rattle.hook_store_law.proofs.OfEdits.Heading.{other_mask_after}
use Rattle.desk_heads.specs.OfHeadCommits.Listed.{HasSerial}
use Rattle.desk_heads.proofs.OfHeadCommits.Standing.{stands_filters, filters_stand}
use Rattle.desk_actions.specs.OfLedgers.Kept.{commits, base}
use Rattle.desk_needs.specs.Live.{count_of}
use Rattle.desk_parts.specs.declared.parts.Parts.{Parts}
use Rattle.desk_parts.specs.Desk.{IsDesk}
use Rattle.desk_parts.specs.OfWays.Ways.{IsTarget, OtherMask}
use Rattle.shared_hook.specs.OfDeskEdits.Ahead.{IsAhead, GoesOnStill}
use Rattle.shared_hook.proofs.OfDeskEdits.Found.{same_state, same_now, same_next, at_ahead, counts}
use Rattle.shared_hook.specs.OfDeskEdits.OfMoves.Tells.{IsAnsweredMask}
use Rattle.shared_hook.specs.OfDeskEdits.OfMoves.Raises.{IsRaising, IsToLay}
use Rattle.shared_hook.specs.OfDeskEdits.OfMoves.Moves.{IsAtOld, IsOther, IsToLeave}
use Rattle.shared_hook.proofs.OfDeskEdits.OfMoves.Starts.{still_at}
use Rattle.shared_hook.proofs.OfDeskEdits.OfMoves.Went.{stands_at}
use Rattle.shared_hook.proofs.OfDeskEdits.OfMoves.StateMoves.{serials, answer, target_apart, target_count, target_words, target_found, from_count, from_words, from_found}

-- a mask whose serial was never given has no filter
none_yet : (s : State) → Sound s → count_of s (s.masks_made + 1) ≡ 0
none_yet s sound = ap length (filter_none (of_mask (s.masks_made + 1)) s.rows
    (each_weaker (IsRow s) (λ (row : Row). of_mask (s.masks_made + 1) row ≡ false) (λ row is. let low = is.mask in ne_eqb row.mask_serial (s.masks_made + 1) (λ same. let most = low.1 in omega (arith, same, most))) s.rows sound.rows))

some_count : (s : State) (m : ℕ) → Stands s m → 0 < count_of s m
some_count s m stands = let some = stands_filters s m stands in let same = counts s m in omega (arith, some, same)

module _ (was ahead : Parts) (y : Edit) (done : Done) (d : IsDesk was) (a : IsAhead ahead y done) (still : GoesOnStill (commits was.ledger) (commits ahead.ledger)) (masks_same : ahead.masks ≡ was.masks) (line_is : IsLine y)
    (steps : step (now (commits was.ledger)) y ≡ Ok (next (commits was.ledger) y, done)) (hook : Hook) (slot count : ℕ) (into : Option ℕ) (others : ℕ) (w : OtherMask (commits was.ledger) y hook slot count into others) where
  abbrev h : List (Commit Edit)
  h = commits was.ledger

  abbrev k : List (Commit Edit)
  k = commits ahead.ledger

  abbrev s : State
  s = now h

  abbrev t : State
  t = next h y

  abbrev from : ℕ
  from = w.row.mask_serial

  abbrev found : Option Row
  found = mask_row w.line.hook w.line.chain w.row.pref w.line.mask.words s.rows

  abbrev pub target : ℕ
  target = mask_or_next (mask_row w.line.hook w.line.chain w.row.pref w.line.mask.words (now (commits was.ledger)).rows) (now (commits was.ledger)).masks_made

  s_sound : Sound s
  s_sound = sound h (base was.ledger) y t done (record { keeps = d.whole.kept.keeps.law; low = d.whole.kept.low; line = line_is; steps = steps })

  steps_x : step s (edits.FilterReplace w.line) ≡ Ok (t, done)
  steps_x = sym (ap (step s) w.replaces.is) ∙ steps

  answered : done ≡ dones.Filter w.row.pref w.row.handle (serials s t w.line done w.row s_sound steps_x w.replaces.there)
  answered = answer s t w.line done w.row s_sound steps_x w.replaces.there

  next_same : next k y ≡ t
  next_same = same_next was ahead y done d a still masks_same

  -- ---- how many filters they had
  other_had : IsOther (count_of s) target into others
  other_had = by found into w.target
    where
      by : (row : Option Row) (at : Option ℕ) → IsTarget h row at others → IsOther (count_of s) (mask_or_next row s.masks_made) at others
      by None None none = none
      by (Some row) (Some other) is = (sym is.counted, let some = some_count s row.mask_serial (stands_at h (base was.ledger) d.whole.kept.low d.whole.kept.keeps.law s_sound row.mask_serial other is.at) in let same = is.counted in omega (arith, some, same))
      by None (Some other) is = absurd is
      by (Some row) None is = absurd is

  target_had : count_of s target ≡ others
  target_had = by found into w.target
    where
      by : (row : Option Row) (at : Option ℕ) → IsTarget h row at others → count_of s (mask_or_next row s.masks_made) ≡ others
      by None None none = none_yet s s_sound ∙ sym none
      by (Some row) (Some other) is = sym is.counted
      by None (Some other) is = absurd is
      by (Some row) None is = absurd is

  from_had : count_of s from ≡ count
  from_had = sym w.mask.counted

  from_has : count_of t from + 1 ≡ count
  from_has = from_count s t w.line done w.row s_sound steps_x w.replaces.there w.other_mask ∙ from_had

  -- ---- the line's mask as it is laid
  pub target_lay : IsToLay k y w.line done w.line.mask.words (others + 1) target
  target_lay = record {
    mask = subst (λ (u : State). IsAnsweredMask u w.line done w.line.mask.words target) (sym next_same) (record {
      pref = w.row.pref;
      handle = w.row.handle;
      serials = serials s t w.line done w.row s_sound steps_x w.replaces.there;
      answered = answered;
      mask = target_found s t w.line done w.row s_sound steps_x w.replaces.there w.other_mask;
    });
    words_are = ap (λ (u : State). words_of u target) next_same ∙ target_words s t w.line done w.row s_sound steps_x w.replaces.there w.other_mask;
    counted = (let more = target_count s t w.line done w.row s_sound steps_x w.replaces.there w.other_mask in let had = target_had in let same = ap (λ (u : State). count_of u target) next_same in omega (arith, more, had, same));
    some = omega arith;
  }

  leaves : LeavesOtherHook w.line.hook (λ other. (other ≡ target) ⊎ (other ≡ from)) s t
  leaves = subst (λ (z : Edit). LeavesOtherHook w.line.hook (λ other. (other ≡ target) ⊎ (other ≡ from)) s (next h z)) (sym w.replaces.is)
      (other_mask_after h (base was.ledger) t w.line w.row.pref w.row.handle (serials s t w.line done w.row s_sound steps_x w.replaces.there) w.row target (record {
        keeps = d.whole.kept.keeps.law;
        low = d.whole.kept.low;
        line = subst IsLine w.replaces.is line_is;
        steps = steps_x ∙ ap (λ (z : Done). Ok (t, z)) answered;
      }) w.replaces.there w.other_mask refl).3

  -- ---- once it is laid
  module _ (first : MaskName) (first_is : first.serial ≡ target) (raised : Parts) (r : IsRaising ahead raised y (first ∷ [])) (here : HasSerial (tables_at (next k y) (hook_number hook)) first.serial) (words : List ℕ) (words_are : words ≡ w.row.mask) where
    abbrev z : List (Commit Edit)
    z = commits raised.ledger

    now_raised : now z ≡ s
    now_raised = same_state k z r.journal ∙ same_now was ahead y done d a still masks_same

    next_raised : next z y ≡ t
    next_raised = ap (λ (u : State). hook_meaning.step u y) now_raised

    stands_raised : (m at : ℕ) → IsMaskAt hook_codec z m at → Stands s m
    stands_raised m at is = subst (λ (u : State). Stands u m) now_raised
        (stands_at z (base raised.ledger) r.ready.accepted.low r.lawful.law (subst Sound (sym now_raised) s_sound) m at is)

    from_at : IsMaskAt hook_codec z from slot
    from_at = still_at ahead y done a raised (first ∷ []) r from slot (at_ahead was ahead y done d a still masks_same from slot w.mask.at)

    apart : target ≢ from
    apart = target_apart s t w.line done w.row s_sound steps_x w.replaces.there w.other_mask

    -- masks at one slot are one
    one_there : (m n : ℕ) → IsMaskAt hook_codec z m slot → IsMaskAt hook_codec z n slot → m ≡ n
    one_there m n x v = let one = r.holds.has m slot x in let two = r.holds.has n slot v in
        sym one.serial ∙ (ap (λ (q : KeptMask). q.mask.serial) (one_mask raised.masks slot one.kept two.kept one.stands two.stands) ∙ two.serial)

    old_at : IsAtOld z target from slot into
    old_at = by found into w.target refl
      where
        by : (row : Option Row) (at : Option ℕ) → IsTarget h row at others → mask_or_next row s.masks_made ≡ target → IsAtOld z target from slot at
        by None None none is = (from_at, λ other x. let some = some_count s target (stands_raised target other x) in let had = target_had in absurd (omega (arith, some, had, none)))
        by (Some row) (Some other) it is = (
          from_at,
          let to_at : IsMaskAt hook_codec z target other = subst (λ (n : ℕ). IsMaskAt hook_codec z n other) is (still_at ahead y done a raised (first ∷ []) r row.mask_serial other (at_ahead was ahead y done d a still masks_same row.mask_serial other it.at)) in to_at,
          λ same. let to_at : IsMaskAt hook_codec z target other = subst (λ (n : ℕ). IsMaskAt hook_codec z n other) is (still_at ahead y done a raised (first ∷ []) r row.mask_serial other (at_ahead was ahead y done d a still masks_same row.mask_serial other it.at)) in
              apart (one_there target from (subst (IsMaskAt hook_codec z target) same to_at) from_at),
        )
        by None (Some other) it is = absurd it
        by (Some row) None it is = absurd it

    from_stands : 1 < count → Stands t from
    from_stands many = filters_stand t from (let same = counts t from in let has = from_has in omega (arith, same, has, many))

    pub to_leave : IsToLeave z y w.line done words first slot count into others target from
    to_leave = record {
      apart = apart;
      named = first_is;
      here = subst (λ (v : Hook). HasSerial (tables_at (next z y) (hook_number v)) target) w.on (subst (λ (u : State). HasSerial (tables_at u (hook_number hook)) target) (next_same ∙ sym next_raised) (subst (HasSerial (tables_at (next k y) (hook_number hook))) first_is here));
      leaves = subst (λ (u : State). LeavesOtherHook w.line.hook (λ other. (other ≡ target) ⊎ (other ≡ from)) u (next z y)) (sym now_raised)
          (subst (LeavesOtherHook w.line.hook (λ other. (other ≡ target) ⊎ (other ≡ from)) s) (sym next_raised) leaves);
      at = old_at;
      counted = ap (λ (u : State). count_of u from) now_raised ∙ from_had;
      some = (let has = from_has in omega (arith, has));
      other = subst (λ (u : State). IsOther (count_of u) target into others) (sym now_raised) other_had;
      lay = λ many. record {
        mask = subst (λ (u : State). IsAnsweredMask u w.line done words from) (sym next_raised) (subst (λ (ws : List ℕ). IsAnsweredMask t w.line done ws from) (sym words_are) (record {
          pref = w.row.pref;
          handle = w.row.handle;
          serials = serials s t w.line done w.row s_sound steps_x w.replaces.there;
          answered = answered;
          mask = from_found s t w.line done w.row s_sound steps_x w.replaces.there w.other_mask (from_stands many);
        }));
        words_are = ap (λ (u : State). words_of u from) next_raised ∙ (from_words s t w.line done w.row s_sound steps_x w.replaces.there w.other_mask (from_stands many) ∙ sym words_are);
        counted = (let has = from_has in let same = ap (λ (u : State). count_of u from) next_raised in omega (arith, has, same, many));
        some = omega (arith, many);
      };
      gone = λ few stands. let some = some_count t from (subst (λ (u : State). Stands u from) next_raised stands) in let has = from_has in absurd (omega (arith, some, has, few));
    }
