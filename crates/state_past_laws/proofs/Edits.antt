-- What an edit of filters changes of the slots.
use Rattle.std.proofs.Common.{◌≡◌, ℕ, Bool, List, [], ◌∷◌, ◌++◌, map, filter, Option, Some, None, Ok, sym, ap, subst}
use Rattle.std.specs.Prelude.{◌&&◌}
use Rattle.tc_base.specs.declared.hook.Hook.{Hook}
use Rattle.tc_base.specs.declared.hook.Proto.{Proto}
use Rattle.filter_state.specs.declared.edit.Edit.TheVariants as edits
use Rattle.filter_state.specs.declared.edit.FilterLine.{FilterLine}
use Rattle.filter_state.specs.declared.refusal.Done.{Done}
use Rattle.filter_state.specs.declared.refusal.Done.TheVariants as dones
use Rattle.filter_state.specs.Lines.{IsLine}
use Rattle.filter_state.specs.States.{Row, State}
use Rattle.filter_state.specs.Sound.{Sound, EachPair, GoTogether}
use Rattle.filter_state.specs.Tables.{in_table, has_handle}
use Rattle.filter_state.specs.Steps.{step, taken_out}
use Rattle.filter_state.specs.Journals.{state_after}
use Rattle.filter_state.specs.Refusals.{or_else, no_hook, protocol_clash_if, no_such_table, no_such_filter}
use Rattle.state_laws.proofs.Steps.{step_sound}
use Rattle.edit_effects.proofs.OfEffects.Accepted.{not_unless, same_step}
use Rattle.edit_effects.proofs.OfEffects.Adding.{new_row, adds}
use Rattle.state_past_laws.specs.Slots.{Overrides, put_there, taken_there}
use Rattle.state_past_laws.proofs.Rows.{added, removed}

-- an added filter, by its row
pub add_changes : (s t : State) (line : FilterLine) (done : Done) → Sound s → IsLine (edits.FilterAdd line) → step s (edits.FilterAdd line) ≡ Ok (t, done)
    → (row : Row) × (t.rows ≡ s.rows ++ (row ∷ [])) × Overrides s.rows t.rows (put_there row ∷ [])
add_changes s t line done sound is stepped =
    let it = adds s t line done stepped in
    let row : Row = new_row s line it.pref it.r.serials in
    let rows : s.rows ++ (row ∷ []) ≡ t.rows = ap (λ (u : State). u.rows) it.after in
    let after : Sound t = subst Sound (ap (state_after s) stepped) (step_sound s (edits.FilterAdd line) sound is) in
    (row, sym rows, subst (λ (rs : List Row). Overrides s.rows rs (put_there row ∷ [])) rows (added s.rows row (subst (EachPair GoTogether) (sym rows) after.together)))

-- deleted filters, by their rows
taken : (s t : State) (gone : Row → Bool) → Sound s → taken_out s gone ≡ t → Overrides s.rows t.rows (map taken_there (filter gone s.rows))
taken s t gone sound is = subst (λ (u : State). Overrides s.rows u.rows (map taken_there (filter gone s.rows))) is (removed gone s.rows sound.together)

pub table_changes : (s t : State) (hook : Hook) (protocol : Option Proto) (chain pref : ℕ) (done : Done) → Sound s → step s (edits.FilterDel hook protocol chain pref None) ≡ Ok (t, done)
    → Overrides s.rows t.rows (map taken_there (filter (in_table hook chain pref) s.rows))
table_changes s t hook protocol chain pref done sound stepped =
    let accepted = not_unless (or_else (no_hook s) (or_else (protocol_clash_if s hook chain pref protocol) (no_such_table s hook chain pref))) _ (t, done) stepped in
    taken s t (in_table hook chain pref) sound (same_step (taken_out s (in_table hook chain pref)) t dones.TableGone done accepted.1).0

pub filter_changes : (s t : State) (hook : Hook) (protocol : Option Proto) (chain pref handle : ℕ) (done : Done) → Sound s → step s (edits.FilterDel hook protocol chain pref (Some handle)) ≡ Ok (t, done)
    → Overrides s.rows t.rows (map taken_there (filter (λ row. in_table hook chain pref row && has_handle handle row) s.rows))
filter_changes s t hook protocol chain pref handle done sound stepped =
    let accepted = not_unless (or_else (no_hook s) (or_else (protocol_clash_if s hook chain pref protocol) (or_else (no_such_table s hook chain pref) (no_such_filter s hook chain pref handle)))) _ (t, done) stepped in
    taken s t (λ row. in_table hook chain pref row && has_handle handle row) sound
    (same_step (taken_out s (λ row. in_table hook chain pref row && has_handle handle row)) t dones.FilterGone done accepted.1).0
