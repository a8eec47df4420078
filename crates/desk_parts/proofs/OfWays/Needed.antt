-- What is needed by a way is what is needed of the state and the edit.
use Rattle.std.proofs.Common.{◌≡◌, inl, inr, ℕ, ◌+◌, ◌-◌, ◌==◌, List, Option, Some, None, Ok, refl, sym, ◌∙◌, ap, subst, arith, length, Bool, false, ne_eqb}
use Rattle.std.specs.Prelude.{if◌then◌else◌}
use Rattle.tc_base.specs.declared.hook.Hook.{Hook}
use Rattle.store_history.specs.declared.history.Commit.{Commit}
use Rattle.filter_state.specs.declared.edit.Edit.{Edit}
use Rattle.filter_state.specs.declared.edit.Edit.TheVariants as edits
use Rattle.filter_state.specs.declared.edit.FilterLine.{FilterLine}
use Rattle.filter_state.specs.declared.refusal.Done.{Done}
use Rattle.filter_state.specs.declared.refusal.Done.TheVariants as dones
use Rattle.filter_state.specs.States.{Row, State}
use Rattle.filter_state.specs.Sound.{Sound, IsRow}
use Rattle.filter_state.specs.Order.{of_mask}
use Rattle.filter_state.proofs.Pairs.{each_weaker}
use Rattle.row_laws.proofs.OfLookups.Heads.{filter_none}
use Rattle.filter_state.specs.Tables.{mask_row, mask_or_next}
use Rattle.filter_state.specs.Steps.{step, pref_for, filter_add, add_at, add_resolved, filter_added, replace_or_add, resolved_for}
use Rattle.filter_state.specs.Refusals.{no_hook}
use Rattle.state_laws.proofs.Answers.{and_then_ok}
use Rattle.hook_store_law.proofs.OfEffects.Accepted.{not_unless, same_step}
use Rattle.hook_store_law.proofs.OfEffects.Adding.{handle_in}
use Rattle.hook_store_law.specs.OfEdits.Premises.{now, IsAccepted, IsAddOf}
use Rattle.hook_store_law.proofs.OfEdits.Accepted.{sound}
use Rattle.desk_needs.specs.declared.needs.Needs.{Needs}
use Rattle.desk_needs.specs.Live.{count_of}
use Rattle.desk_needs.specs.Needs.{made, needs_of, nothing, later}
use Rattle.desk_needs.specs.OfEditNeeds.Told.{put_into, put_with, moved_to, blocks_anew, rows_anew}
use Rattle.desk_needs.proofs.OfEditNeeds.Added.{needs_into, needs_with}
use Rattle.desk_needs.proofs.OfEditNeeds.Moved.{needs_in_place, needs_of_key, needs_of_mask}
use Rattle.desk_needs.proofs.OfEditNeeds.Gone.{needs_gone}
use Rattle.desk_needs.proofs.OfEditNeeds.Behind.{later_is}
use Rattle.desk_parts.specs.declared.ways.way.Way.{Way}
use Rattle.desk_parts.specs.declared.ways.way.Way.TheVariants as ways
use Rattle.desk_parts.specs.OfWays.Ways.{IntoMask, WithMask, InPlace, OtherKey, OtherMask, OutOfMask, Closes, IsTarget, TakesMasks, IsWay, needs_by}

-- ---- what an add is answered with
pub record Answered (s t : State) (y : Edit) (line : FilterLine) (done : Done) : Type 0 where
  pub pref : ℕ
  pub handle : ℕ
  pub serials : List ℕ
  pub chosen : pref_for s line.hook line.chain line.pref ≡ Ok pref
  pub steps : step s y ≡ Ok (t, dones.Filter pref handle serials)
  pub is : done ≡ dones.Filter pref handle serials

added_by : (s t : State) (line : FilterLine) (done : Done) → filter_add s line ≡ Ok (t, done)
    → (pref : ℕ) × (handle : ℕ) × (serials : List ℕ) × (pref_for s line.hook line.chain line.pref ≡ Ok pref) × (done ≡ dones.Filter pref handle serials)
added_by s t line done e =
    let hooked = not_unless (no_hook s) _ (t, done) e in
    let first = and_then_ok (add_at s line) (pref_for s line.hook line.chain line.pref) (t, done) hooked.1 in
    let clear = not_unless _ _ (t, done) first.2 in
    let next = and_then_ok (add_resolved s line first.0) (resolved_for s line.actions) (t, done) clear.1 in
    let room = not_unless _ (filter_added s line first.0 next.0) (t, done) next.2 in
    let both = same_step _ t _ done room.1 in
    (first.0, handle_in s line first.0, next.0.serials, first.1, sym both.1)

pub answered : (s t : State) (y : Edit) (line : FilterLine) (done : Done) → IsAddOf s line y → step s y ≡ Ok (t, done) → Answered s t y line done
answered s t y line done (inl is) e =
    let a = added_by s t line done (sym (ap (step s) is) ∙ e) in
    record { pref = a.0; handle = a.1; serials = a.2; chosen = a.3; steps = e ∙ ap (λ d. Ok (t, d)) a.4; is = a.4 }
answered s t y line done (inr both) e =
    let a = added_by s t line done (sym (ap (replace_or_add s line) both.1) ∙ sym (ap (step s) both.0) ∙ e) in
    record { pref = a.0; handle = a.1; serials = a.2; chosen = a.3; steps = e ∙ ap (λ d. Ok (t, d)) a.4; is = a.4 }

-- the pref of a line is one
pub same_ok : (s : State) (hook : Hook) (chain : ℕ) (given : Option ℕ) (p q : ℕ) → pref_for s hook chain given ≡ Ok p → pref_for s hook chain given ≡ Ok q → p ≡ q
same_ok s hook chain given p q one two = let e = sym one ∙ two in cc e

-- a mask whose serial was never given has no filter
none_yet : (s : State) → Sound s → count_of s (s.masks_made + 1) ≡ 0
none_yet s sound = ap length (filter_none (of_mask (s.masks_made + 1)) s.rows
    (each_weaker (IsRow s) (λ (row : Row). of_mask (s.masks_made + 1) row ≡ false) (λ row is. let low = is.mask in ne_eqb row.mask_serial (s.masks_made + 1) (λ same. let most = low.1 in omega (arith, same, most))) s.rows sound.rows))

module _ (h : List (Commit Edit)) (b : ℕ) (y : Edit) (t : State) (done : Done) (a : IsAccepted h b y t done) where
  abbrev s : State
  s = now h

  sound_now : Sound s
  sound_now = sound h b y t done a

  into : (slot count : ℕ) → IntoMask h y slot count → needs_of s y ≡ needs_by (made s t) (ways.IntoMask slot count)
  into slot count w =
      let x = answered s t y w.line done w.add a.steps in
      let same = same_ok s w.line.hook w.line.chain w.line.pref w.pref x.pref w.chosen x.chosen in
      let there = subst (λ p. mask_row w.line.hook w.line.chain p w.line.mask.words s.rows ≡ Some w.row) same w.there in
      needs_into s t y w.line x.pref x.handle x.serials w.row sound_now w.add x.steps there ∙ ap (put_into (made s t)) (sym w.mask.counted)

  with : (hook : Hook) → WithMask h y hook → needs_of s y ≡ needs_by (made s t) (ways.WithMask hook)
  with hook w =
      let x = answered s t y w.line done w.add a.steps in
      needs_with s t y w.line x.pref x.handle x.serials w.add x.steps (w.none x.pref x.chosen) ∙ ap (λ o. put_with o (made s t)) (sym w.on)

  in_place : (slot count : ℕ) → InPlace h y slot count → needs_of s y ≡ needs_by (made s t) (ways.InPlace slot count)
  in_place slot count w =
      let r = w.replaces in
      let steps = sym (ap (step s) r.is) ∙ a.steps in
      let behind = later_is s w.line.hook w.line.chain _ _ w.row count sound_now r.there w.behind in
      ap (needs_of s) r.is ∙ needs_in_place s t w.line done w.row sound_now steps r.there w.same_mask w.same_key
      ∙ ap (λ n. record { blocks = made s t + n + 1; rows = 0; masks = 0; actions = made s t; head = None }) behind

  other_key : (hook : Hook) (slot count : ℕ) → OtherKey h y hook slot count → needs_of s y ≡ needs_by (made s t) (ways.OtherKey hook slot count)
  other_key hook slot count w =
      let r = w.replaces in
      ap (needs_of s) r.is ∙ needs_of_key s t w.line done w.row sound_now (sym (ap (step s) r.is) ∙ a.steps) r.there w.same_mask w.other_key
      ∙ ap (λ o. moved_to o (made s t) (count_of s w.row.mask_serial) 0) (sym w.on) ∙ ap (λ n. moved_to hook (made s t) n 0) (sym w.mask.counted)

  other_mask : (hook : Hook) (slot count : ℕ) (given : Option ℕ) (others : ℕ) → OtherMask h y hook slot count given others → needs_of s y ≡ needs_by (made s t) (ways.OtherMask hook slot count given others)
  other_mask hook slot count given others w =
      let r = w.replaces in
      let there = mask_row w.line.hook w.line.chain w.row.pref w.line.mask.words s.rows in
      let target : ℕ = mask_or_next there s.masks_made in
      let same : count_of s target ≡ others = of_target there given others w.target in
      ap (needs_of s) r.is ∙ needs_of_mask s t w.line done w.row sound_now (sym (ap (step s) r.is) ∙ a.steps) r.there target w.other_mask refl
      ∙ ap (λ n. moved_to w.line.hook (made s t) (n + 1) (count_of s w.row.mask_serial - 1)) same ∙ ap (λ n. moved_to w.line.hook (made s t) (others + 1) (n - 1)) (sym w.mask.counted)
      ∙ ap (λ o. moved_to o (made s t) (others + 1) (count - 1)) (sym w.on)
    where
      of_target : (found : Option Row) (given : Option ℕ) (others : ℕ) → IsTarget h found given others → count_of s (mask_or_next found s.masks_made) ≡ others
      of_target None None others none = none_yet s sound_now ∙ sym none
      of_target (Some row) (Some slot) others is = sym is.counted
      of_target None (Some slot) others is = absurd is
      of_target (Some row) None others is = absurd is

  out : (slot count behind : ℕ) → OutOfMask h y slot count behind → needs_of s y ≡ needs_by (made s t) (ways.OutOfMask slot count behind)
  out slot count behind w =
      let own = later_is s w.hook w.chain w.pref w.handle w.row behind sound_now w.there w.behind in
      let same = sym w.mask.counted in
      let more = w.others in
      let many : (count == 1) ≡ false = ne_eqb count 1 (λ one. omega (arith, one, more)) in
      ap (needs_of s) w.is ∙ needs_gone s w.hook w.row t w.protocol w.chain w.pref w.handle done sound_now (sym (ap (step s) w.is) ∙ a.steps) w.there
      ∙ ap (λ n. record_of w.hook n (later s w.row) (n == 1)) same ∙ ap (λ n. record_of w.hook count n (count == 1)) own ∙ ap (record_of w.hook count behind) many
    where
      record_of : Hook → ℕ → ℕ → Bool → Needs
      record_of hook count behind one = if one then record nothing { head = Some hook } else record nothing {
        blocks = behind + blocks_anew count (count - 1);
        rows = rows_anew count (count - 1);
      }

  closes : (hook : Hook) → Closes h y hook → needs_of s y ≡ needs_by (made s t) (ways.Closes hook)
  closes hook w = go w.handle refl w.takes
    where
      go : (handle : Option ℕ) → w.handle ≡ handle → TakesMasks h hook w.chain w.pref handle → needs_of s y ≡ needs_by (made s t) (ways.Closes hook)
      go None is takes = ap (needs_of s) (w.is ∙ ap (edits.FilterDel hook w.protocol w.chain w.pref) is)
      go (Some handle) is alone =
          let own = w.is ∙ ap (edits.FilterDel hook w.protocol w.chain w.pref) is in
          ap (needs_of s) own ∙ needs_gone s hook alone.row t w.protocol w.chain w.pref handle done sound_now (sym (ap (step s) own) ∙ a.steps) alone.there
          ∙ ap (λ n. if n == 1 then record nothing { head = Some hook } else record nothing { blocks = later s alone.row + blocks_anew n (n - 1); rows = rows_anew n (n - 1) }) alone.alone

  pub ways_need : (way : Way) → IsWay h y way → needs_of s y ≡ needs_by (made s t) way
  ways_need (ways.IntoMask slot count) w = into slot count w
  ways_need (ways.WithMask hook) w = with hook w
  ways_need (ways.InPlace slot behind) w = in_place slot behind w
  ways_need (ways.OtherKey hook slot count) w = other_key hook slot count w
  ways_need (ways.OtherMask hook slot count given others) w = other_mask hook slot count given others w
  ways_need (ways.OutOfMask slot count behind) w = out slot count behind w
  ways_need (ways.Closes hook) w = closes hook w
