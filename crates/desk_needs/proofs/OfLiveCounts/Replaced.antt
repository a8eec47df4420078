-- Filters that are replaced.
use Rattle.std.proofs.Common.{◌≡◌, ◌≢◌, ◌⊎◌, inl, inr, ℕ, ◌+◌, Bool, true, false, List, [], ◌∷◌, Some, Ok, length, refl, sym, ◌∙◌, ap, subst, arith, length-append}
use Rattle.std.specs.Prelude.{if◌then◌else◌}
use Rattle.std.specs.Str.{bytes_eq}
use Rattle.std.proofs.lemmas.Bool.{false≢true}
use Rattle.std.proofs.lemmas.List.{length-map}
use Rattle.filter_state.specs.declared.edit.Edit.TheVariants as edits
use Rattle.filter_state.specs.declared.edit.FilterLine.{FilterLine}
use Rattle.filter_state.specs.declared.refusal.Done.{Done}
use Rattle.filter_state.specs.declared.refusal.Done.TheVariants as dones
use Rattle.filter_state.specs.States.{Row, State}
use Rattle.filter_state.specs.Sound.{Sound}
use Rattle.filter_state.specs.Tables.{mask_row, mask_or_next}
use Rattle.filter_state.specs.Steps.{step, filter_replace}
use Rattle.state_laws.proofs.Tests.{bytes_eq_true, bytes_eq_from}
use Rattle.hook_store_law.specs.OfEffects.Parts.{Filter, filters_of, without, is_handle}
use Rattle.hook_store_law.proofs.OfEffects.Adding.{line_filter}
use Rattle.hook_store_law.proofs.OfEffects.Replacing.{replaces}
use Rattle.hook_store_law.proofs.OfEffects.InPlace.{replaced_in_place}
use Rattle.hook_store_law.proofs.OfEffects.Moved.{replaced_key, replaced_mask}
use Rattle.hook_store_law.specs.OfEdits.Premises.{named_row}
use Rattle.desk_needs.specs.Live.{count_of}
use Rattle.desk_needs.proofs.OfEditNeeds.Counted.{counted, one_more, one_less}
use Rattle.desk_needs.specs.OfLiveCounts.Counts.{StayAsMany, FilterMoves}
use Rattle.desk_needs.proofs.OfLiveCounts.Changes.{same_count, one_stays, moves}

module _ (s t : State) (line : FilterLine) (done : Done) (row : Row) (sound : Sound s) (e : step s (edits.FilterReplace line) ≡ Ok (t, done)) (is : named_row s line ≡ Some row) where
  abbrev m : ℕ
  m = row.mask_serial

  abbrev serials : List ℕ
  serials = (replaces s t line row done is e).r.serials

  steps : filter_replace s line ≡ Ok (t, dones.Filter row.pref row.handle serials)
  steps = subst (λ d. filter_replace s line ≡ Ok (t, d)) (sym (replaces s t line row done is e).answer) e

  there : length (without row.handle (filters_of s m)) + 1 ≡ count_of s m
  there = one_less s _ row sound is

  in_place : row.mask ≡ line.mask.words → row.key ≡ line.key.words → StayAsMany s t
  in_place mask key =
      let change = replaced_in_place s t line row.pref row.handle serials row sound steps is mask key in
      one_stays s t m
      (counted t m ∙ ap length change.filters ∙ length-map (filters_of s m) (λ (f : Filter). if is_handle row.handle f then record f { actions = serials } else f) ∙ sym (counted s m))
      (λ n differs. same_count s t n (change.others n differs))

  other_key : row.mask ≡ line.mask.words → row.key ≢ line.key.words → StayAsMany s t
  other_key mask key =
      let change = replaced_key s t line row.pref row.handle serials row sound steps is mask key in
      let now = counted t m ∙ ap length change.0.filters_are in
      let long = length-append (without row.handle (filters_of s m)) (line_filter line row.handle serials ∷ []) in
      let before = there in
      one_stays s t m (omega (arith, now, long, before)) (λ n differs. same_count s t n (change.1.others n differs).filters)

  pub same_mask : row.mask ≡ line.mask.words → StayAsMany s t
  same_mask mask = by_key (bytes_eq row.key line.key.words) refl
    where
      by_key : (b : Bool) → bytes_eq row.key line.key.words ≡ b → StayAsMany s t
      by_key true key = in_place mask (bytes_eq_true row.key line.key.words key)
      by_key false key = other_key mask (λ same. false≢true (sym key ∙ bytes_eq_from row.key line.key.words same))

  pub other_mask : (target : ℕ) → row.mask ≢ line.mask.words → target ≡ mask_or_next (mask_row line.hook line.chain row.pref line.mask.words s.rows) s.masks_made
      → FilterMoves s t (count_of s m) (count_of s target)
  other_mask target mask named =
      let change = replaced_mask s t line row.pref row.handle serials row sound steps is mask in
      let to : ℕ = change.0 in
      let less : count_of t m + 1 ≡ count_of s m = (let now = counted t m ∙ ap length change.3.1 in let before = there in omega (arith, now, before)) in
      let more = one_more s t to to (line_filter line row.handle serials) change.3.0.filters_are in
      subst (λ n. FilterMoves s t (count_of s m) (count_of s n)) (change.2 ∙ sym named)
      (moves s t m to change.1 less more (λ n from into. same_count s t n (change.3.2.others n (neither n from into)).filters))
    where
      neither : {to : ℕ} (n : ℕ) → n ≢ m → n ≢ to → (n ≡ to) ⊎ (n ≡ m) → ⊥
      neither n from into (inl same) = into same
      neither n from into (inr same) = from same
