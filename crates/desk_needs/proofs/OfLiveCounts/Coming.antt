-- Filters that are added.
use Rattle.std.proofs.Common.{◌≡◌, inl, inr, ℕ, ◌+◌, ◌&&◌, List, Some, None, Ok, length, refl, sym, ◌∙◌, ap, subst, eq-eqb}
use Rattle.filter_state.specs.declared.edit.Edit.{Edit}
use Rattle.filter_state.specs.declared.edit.FilterLine.{FilterLine}
use Rattle.filter_state.specs.declared.refusal.Done.{Done}
use Rattle.filter_state.specs.declared.refusal.Done.TheVariants as dones
use Rattle.filter_state.specs.States.{Row, State}
use Rattle.filter_state.specs.Sound.{Sound}
use Rattle.filter_state.specs.Order.{of_mask}
use Rattle.filter_state.specs.Tables.{in_table, has_mask, mask_row}
use Rattle.filter_state.specs.Refusals.{no_hook}
use Rattle.filter_state.specs.Steps.{step, pref_for, filter_add, add_at, add_resolved, filter_added, replace_or_add, resolved_for}
use Rattle.state_laws.proofs.Answers.{and_then_ok}
use Rattle.state_laws.proofs.Room.{found_any}
use Rattle.hook_store_law.proofs.OfEffects.Accepted.{not_unless, same_step}
use Rattle.hook_store_law.proofs.OfEffects.Adding.{handle_in, line_filter}
use Rattle.hook_store_law.proofs.OfEffects.Added.{added_to_old, added_to_new}
use Rattle.hook_store_law.specs.OfEdits.Premises.{IsAddOf}
use Rattle.desk_needs.specs.Live.{count_of}
use Rattle.desk_needs.proofs.OfEditNeeds.Counted.{counted, one_more}
use Rattle.desk_needs.specs.OfLiveCounts.Counts.{FilterComes, MaskComes}
use Rattle.desk_needs.proofs.OfLiveCounts.Changes.{some_there, none_standing, same_count, comes_into, comes_with}

-- a replace of a filter that isn't there is an add
add_of : (s t : State) (y : Edit) (line : FilterLine) (done : Done) → IsAddOf s line y → step s y ≡ Ok (t, done) → filter_add s line ≡ Ok (t, done)
add_of s t y line done (inl is) e = sym (ap (step s) is) ∙ e
add_of s t y line done (inr both) e = sym (ap (replace_or_add s line) both.1) ∙ sym (ap (step s) both.0) ∙ e

pub into_mask : (s t : State) (y : Edit) (line : FilterLine) (pref handle : ℕ) (serials : List ℕ) (row : Row) → Sound s → IsAddOf s line y → step s y ≡ Ok (t, dones.Filter pref handle serials)
    → mask_row line.hook line.chain pref line.mask.words s.rows ≡ Some row → FilterComes s t (count_of s row.mask_serial)
into_mask s t y line pref handle serials row sound add e there =
    let m : ℕ = row.mask_serial in
    let steps = add_of s t y line (dones.Filter pref handle serials) add e in
    let change = added_to_old s t line pref handle serials row sound steps there in
    let stands = found_any (λ x. in_table line.hook line.chain pref x && has_mask line.mask.words x) (of_mask m) s.rows row there (eq-eqb m m refl) in
    comes_into s t m (λ n differs. same_count s t n (change.others n differs)) (some_there s m stands) (one_more s t m m (line_filter line handle serials) change.filters)

pub with_mask : (s t : State) (y : Edit) (line : FilterLine) (pref handle : ℕ) (serials : List ℕ) → Sound s → IsAddOf s line y → step s y ≡ Ok (t, dones.Filter pref handle serials)
    → mask_row line.hook line.chain pref line.mask.words s.rows ≡ None → MaskComes s t
with_mask s t y line pref handle serials sound add e none =
    let steps = add_of s t y line (dones.Filter pref handle serials) add e in
    let change = added_to_new s t line pref handle serials sound steps none in
    let m : ℕ = s.masks_made + 1 in
    let others = change.1.others in
    comes_with s t m (λ n differs. same_count s t n (others n differs).filters) (none_standing s m change.2) (counted t m ∙ ap length change.0.filters_are)

-- ---- by the pref to which the line leads
record IsLed (s t : State) (line : FilterLine) (done : Done) : Type 0 where
  pref : ℕ
  handle : ℕ
  serials : List ℕ
  chosen : pref_for s line.hook line.chain line.pref ≡ Ok pref
  is : done ≡ dones.Filter pref handle serials

is_led : (s t : State) (line : FilterLine) (done : Done) → filter_add s line ≡ Ok (t, done) → IsLed s t line done
is_led s t line done e =
    let hooked = not_unless (no_hook s) _ (t, done) e in
    let first = and_then_ok (add_at s line) (pref_for s line.hook line.chain line.pref) (t, done) hooked.1 in
    let clear = not_unless _ _ (t, done) first.2 in
    let next = and_then_ok (add_resolved s line first.0) (resolved_for s line.actions) (t, done) clear.1 in
    let room = not_unless _ (filter_added s line first.0 next.0) (t, done) next.2 in
    let both = same_step _ t _ done room.1 in
    record { pref = first.0; handle = handle_in s line first.0; serials = next.0.serials; chosen = first.1; is = sym both.1 }

same_ok : (s : State) (line : FilterLine) (p q : ℕ) → pref_for s line.hook line.chain line.pref ≡ Ok p → pref_for s line.hook line.chain line.pref ≡ Ok q → p ≡ q
same_ok s line p q one two = let e = sym one ∙ two in cc e

pub into_mask_led : (s t : State) (y : Edit) (line : FilterLine) (pref : ℕ) (done : Done) (row : Row) → Sound s → IsAddOf s line y → step s y ≡ Ok (t, done)
    → pref_for s line.hook line.chain line.pref ≡ Ok pref → mask_row line.hook line.chain pref line.mask.words s.rows ≡ Some row → FilterComes s t (count_of s row.mask_serial)
into_mask_led s t y line pref done row sound add e chosen there =
    let led = is_led s t line done (add_of s t y line done add e) in
    let same : pref ≡ led.pref = same_ok s line pref led.pref chosen led.chosen in
    into_mask s t y line led.pref led.handle led.serials row sound add (e ∙ ap (λ d. Ok (t, d)) led.is)
    (subst (λ p. mask_row line.hook line.chain p line.mask.words s.rows ≡ Some row) same there)

pub with_mask_led : (s t : State) (y : Edit) (line : FilterLine) (done : Done) → Sound s → IsAddOf s line y → step s y ≡ Ok (t, done)
    → ((pref : ℕ) → pref_for s line.hook line.chain line.pref ≡ Ok pref → mask_row line.hook line.chain pref line.mask.words s.rows ≡ None) → MaskComes s t
with_mask_led s t y line done sound add e none =
    let led = is_led s t line done (add_of s t y line done add e) in
    with_mask s t y line led.pref led.handle led.serials sound add (e ∙ ap (λ d. Ok (t, d)) led.is) (none led.pref led.chosen)
