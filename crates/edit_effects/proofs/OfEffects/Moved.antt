-- What a replace with another key comes to, and one with another mask.
use Rattle.std.proofs.Common.{◌≡◌, ◌≢◌, ℕ, ◌&&◌, false, if◌then◌else◌, List, Some, Ok, sym, ◌∙◌, ap, subst}
use Rattle.std.specs.Str.{bytes_eq}
use Rattle.std.proofs.lemmas.Bool.{and_left, and_right, false_from_ne_true}
use Rattle.tc_base.specs.declared.hook.Hook.{Hook}
use Rattle.filter_state.specs.declared.edit.FilterLine.{FilterLine}
use Rattle.filter_state.specs.declared.refusal.Done.TheVariants as dones
use Rattle.filter_state.specs.States.{State, Row}
use Rattle.filter_state.specs.Actions.{Resolved}
use Rattle.filter_state.specs.Tables.{mask_row, mask_or_next}
use Rattle.filter_state.specs.Steps.{with_new_actions, with_row, with_actions, without_row, mask_serial_for, filter_replace}
use Rattle.filter_state.specs.Sound.{Sound}
use Rattle.filter_state.proofs.Pairs.{found}
use Rattle.state_laws.proofs.Tests.{bytes_eq_true, bytes_eq_from}
use Rattle.state_laws.proofs.Fits.{MaskFits}
use Rattle.state_laws.proofs.Old.{is_old}
use Rattle.edit_effects.proofs.OfEffects.Accepted.{same_filter}
use Rattle.edit_effects.proofs.OfEffects.Replacing.{exchanged_actions, is_there, replaces, moved_row}
use Rattle.edit_effects.proofs.OfEffects.Moving.{MovesKey, MovesMask, moved, Known, known, key_moved, mask_moved}

-- the state behind a replace that doesn't keep the place
left_for_last : (s : State) (line : FilterLine) (old : Row) (r : Resolved) (t : State) → with_actions (if bytes_eq old.mask line.mask.words && bytes_eq old.key line.key.words
    then record s { rows = with_new_actions old r.serials s.rows } else with_row (record s { rows = without_row old s.rows }) (moved_row s line old r.serials)) (exchanged_actions old r) ≡ t →
    (bytes_eq old.mask line.mask.words && bytes_eq old.key line.key.words) ≡ false → moved s line old r ≡ t
left_for_last s line old r t after differs =
    let stays : State = record s { rows = with_new_actions old r.serials s.rows } in
    let leaves : State = with_row (record s { rows = without_row old s.rows }) (moved_row s line old r.serials) in
    sym (ap (λ b. with_actions (if b then stays else leaves) (exchanged_actions old r)) differs) ∙ after

no_bytes : (a b : List ℕ) → a ≢ b → bytes_eq a b ≡ false
no_bytes a b differ = false_from_ne_true (bytes_eq a b) (λ e. differ (bytes_eq_true a b e))

-- ---- another key
pub replaced_key : (s t : State) (line : FilterLine) (pref handle : ℕ) (serials : List ℕ) (old : Row) → Sound s → filter_replace s line ≡ Ok (t, dones.Filter pref handle serials) →
    is_there s line ≡ Some old → old.mask ≡ line.mask.words → old.key ≢ line.key.words → MovesKey s line old handle serials t
replaced_key s t line pref handle serials old sound e is mask key =
    let a = replaces s t line old (dones.Filter pref handle serials) is e in
    let told = same_filter old.pref pref old.handle handle a.r.serials serials a.answer in
    let differs = and_right (bytes_eq old.mask line.mask.words) (bytes_eq old.key line.key.words) (no_bytes old.key line.key.words key) in
    let other : ℕ = mask_or_next (mask_row old.hook old.chain old.pref line.mask.words s.rows) s.masks_made in
    let own : mask_serial_for s line old ≡ old.mask_serial = ap (λ b. if b then old.mask_serial else other) (bytes_eq_from old.mask line.mask.words mask) in
    subst (λ u. MovesKey s line old handle serials u) (left_for_last s line old a.r t a.after differs)
    (subst (λ h. MovesKey s line old h serials (moved s line old a.r)) told.1
    (subst (λ ns. MovesKey s line old old.handle ns (moved s line old a.r)) told.2
    (key_moved s line old a.r (known s line old sound is a.agrees a.room) own)))

-- ---- another mask
other_serial : (s : State) (line : FilterLine) (old : Row) → Known s line old → old.mask ≢ line.mask.words → mask_serial_for s line old ≢ old.mask_serial
other_serial s line old k differs same =
    let is = k.is in
    let mine = (found (MaskFits old.table line.mask.words (mask_serial_for s line old)) (is_old old) s.rows old k.masks is.first).0 in
    differs (mine.same (sym same)).1

-- it is that of the line's mask in the table, or the next one
line_serial : (s : State) (line : FilterLine) (old : Row) (pref : ℕ) → Known s line old → old.pref ≡ pref → bytes_eq old.mask line.mask.words ≡ false →
    mask_serial_for s line old ≡ mask_or_next (mask_row line.hook line.chain pref line.mask.words s.rows) s.masks_made
line_serial s line old pref k at differs =
    let is = k.is in
    let serial_at : Hook → ℕ → ℕ → ℕ = λ hook chain p. mask_or_next (mask_row hook chain p line.mask.words s.rows) s.masks_made in
    ap (λ b. if b then old.mask_serial else serial_at old.hook old.chain old.pref) differs
    ∙ ap (λ hook. serial_at hook old.chain old.pref) is.hook ∙ ap (λ chain. serial_at line.hook chain old.pref) is.chain ∙ ap (λ p. serial_at line.hook line.chain p) at

pub replaced_mask : (s t : State) (line : FilterLine) (pref handle : ℕ) (serials : List ℕ) (old : Row) → Sound s → filter_replace s line ≡ Ok (t, dones.Filter pref handle serials) →
    is_there s line ≡ Some old → old.mask ≢ line.mask.words →
    (mask : ℕ) × (mask ≢ old.mask_serial) × (mask ≡ mask_or_next (mask_row line.hook line.chain pref line.mask.words s.rows) s.masks_made) × MovesMask s line old handle serials t mask
replaced_mask s t line pref handle serials old sound e is mask =
    let a = replaces s t line old (dones.Filter pref handle serials) is e in
    let told = same_filter old.pref pref old.handle handle a.r.serials serials a.answer in
    let differs = and_left (bytes_eq old.mask line.mask.words) (bytes_eq old.key line.key.words) (no_bytes old.mask line.mask.words mask) in
    let k = known s line old sound is a.agrees a.room in
    let apart = other_serial s line old k mask in
    let serial : ℕ = mask_serial_for s line old in (
      serial,
      apart,
      line_serial s line old pref k told.0 (no_bytes old.mask line.mask.words mask),
      subst (λ u. MovesMask s line old handle serials u serial) (left_for_last s line old a.r t a.after differs)
          (subst (λ h. MovesMask s line old h serials (moved s line old a.r) serial) told.1
          (subst (λ ns. MovesMask s line old old.handle ns (moved s line old a.r) serial) told.2 (mask_moved s line old a.r k apart))),
    )
