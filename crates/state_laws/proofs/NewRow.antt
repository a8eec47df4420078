-- The row of a line, and the actions that it names.
use Rattle.std.proofs.Common.{◌≡◌, ℕ, ◌≤◌, Bool, true, false, not, ◌&&◌, List, [], ◌++◌, length, Option, Some, None, Ok, refl, sym, ◌∙◌, subst, arith, append-nil, eq-eqb}
use Rattle.std.specs.List.{list_any}
use Rattle.std.specs.Str.{bytes_eq}
use Rattle.std.specs.Option.{option_map}
use Rattle.std.proofs.lemmas.Bool.{false≢true, and_from}
use Rattle.std.proofs.lemmas.Option.{none-some}
use Rattle.tc_base.specs.declared.hook.Hook.{Hook}
use Rattle.filter_state.specs.declared.edit.FilterLine.{FilterLine}
use Rattle.filter_state.specs.declared.refusal.Refusal.TheVariants as refusals
use Rattle.filter_state.specs.States.{State, Row}
use Rattle.filter_state.specs.Lines.{IsPref, IsIndex, IsFilter}
use Rattle.filter_state.specs.Actions.{Resolved}
use Rattle.filter_state.specs.Tables.{in_table, has_mask, has_match, has_handle, first_where}
use Rattle.filter_state.specs.Refusals.{handle_taken, exists_but, is_left_out}
use Rattle.filter_state.specs.Steps.{row_of, handle_for, made_of, resolved_for}
use Rattle.filter_state.specs.Sound.{Sound, Each, GoTogether, places}
use Rattle.state_laws.proofs.Answers.{not_refused}
use Rattle.filter_state.proofs.Pairs.{none_any, none_passes}
use Rattle.state_laws.proofs.Tests.{row_in_table_from, bytes_eq_from}
use Rattle.state_laws.proofs.Free.{free_handle_unused}
use Rattle.state_laws.proofs.Held.{AreHeld}
use Rattle.state_laws.proofs.Resolving.{list_resolves}
use Rattle.state_laws.proofs.Counts.{filter_has}
use Rattle.state_laws.proofs.Fits.{TableFits, MaskFits, goes_together}
use Rattle.state_laws.proofs.Rows.{IsPlain}
use Rattle.state_laws.proofs.Whole.{held_of}

-- ---- its numbers
pub row_plain : (tables masks : ℕ) (line : FilterLine) (pref table mask handle : ℕ) (serials : List ℕ) → IsFilter line → IsPref pref → (1 ≤ table) × (table ≤ tables) → (1 ≤ mask) × (mask ≤ masks) → IsIndex handle
    → length serials ≤ 16 → IsPlain tables masks (row_of line pref table mask handle serials)
row_plain tables masks line pref table mask handle serials is p t m h most =
    record { chain = is.chain; pref = p; protocol = is.protocol; handle = h; keys = is.keys; table = t; mask = m; most = most }

-- ---- its actions
pub line_resolves : (s : State) (line : FilterLine) (r : Resolved) → Sound s → IsFilter line → resolved_for s line.actions ≡ Ok r
    → AreHeld (places s.rows ++ r.serials) r.so_far.made r.so_far.actions × (length r.serials ≤ 16)
line_resolves s line r sound is e =
    let live = sound.live in
    let most = is.most in
    let all = list_resolves (places s.rows) line.actions (record { so_far = made_of s; serials = [] }) r
    (subst (λ P. AreHeld P s.actions_made s.actions) (sym (append-nil (places s.rows))) (held_of s sound)) is.actions (omega arith) e in
    let count = all.count in
    (all.held, omega arith)

-- ---- no row of the table has its handle, and none its mask and key
abbrev pub OtherHandle : Hook → ℕ → ℕ → ℕ → Row → Type 0
OtherHandle hook chain pref handle x = (in_table hook chain pref x && has_handle handle x) ≡ false

abbrev pub OtherMatch : Hook → ℕ → ℕ → Option ℕ → List ℕ → List ℕ → Row → Type 0
OtherMatch hook chain pref replaced mask key x = (in_table hook chain pref x && (has_match mask key x && not (is_left_out replaced x))) ≡ false

pub other_handles : (s : State) (hook : Hook) (chain pref : ℕ) (given : Option ℕ) → handle_taken s hook chain pref given ≡ None → Each (OtherHandle hook chain pref (handle_for s hook chain pref given)) s.rows
other_handles s hook chain pref (Some handle) e =
    let test : Row → Bool = λ row. in_table hook chain pref row && has_handle handle row in
    none_any test s.rows (not_refused (list_any test s.rows) refusals.HandleTaken e)
other_handles s hook chain pref None e =
    let handle : ℕ = handle_for s hook chain pref None in
    none_any (λ row. in_table hook chain pref row && has_handle handle row) s.rows
    (sym (filter_has (λ (r : Row). r.handle) (in_table hook chain pref) handle s.rows) ∙ free_handle_unused hook chain pref s.rows)

none_first : (o : Option Row) → option_map (λ (row : Row). refusals.Exists row.handle) o ≡ None → o ≡ None
none_first None e = refl
none_first (Some row) e = absurd (none-some (refusals.Exists row.handle) (sym e))

pub other_matches : (s : State) (hook : Hook) (chain pref : ℕ) (replaced : Option ℕ) (mask key : List ℕ) → exists_but s hook chain pref replaced mask key ≡ None
    → Each (OtherMatch hook chain pref replaced mask key) s.rows
other_matches s hook chain pref replaced mask key e =
    let test : Row → Bool = λ row. in_table hook chain pref row && (has_match mask key row && not (is_left_out replaced row)) in
    none_passes test s.rows (none_first (first_where test s.rows) e)

pub match_from : (mask key : List ℕ) (x : Row) → x.mask ≡ mask → x.key ≡ key → has_match mask key x ≡ true
match_from mask key x m k = and_from (has_mask mask x) (bytes_eq x.key key) (bytes_eq_from x.mask mask m) (bytes_eq_from x.key key k)

-- so it goes with a row
pub row_goes : (line : FilterLine) (pref table mask handle : ℕ) (serials : List ℕ) (x : Row) → TableFits line.hook line.chain pref line.protocol table x → MaskFits table line.mask.words mask x
    → OtherHandle line.hook line.chain pref handle x → OtherMatch line.hook line.chain pref None line.mask.words line.key.words x → GoTogether x (row_of line pref table mask handle serials)
row_goes line pref table mask handle serials x t m h e =
    goes_together x (row_of line pref table mask handle serials) t m
    (λ at same. let s = t.same at in
    false≢true (sym h ∙ and_from (in_table line.hook line.chain pref x) (has_handle handle x) (row_in_table_from line.hook line.chain pref x s.0 s.1 s.2) (eq-eqb x.handle handle same)))
    (λ at same_mask same_key. let s = t.same at in
    false≢true (sym e ∙ and_from (in_table line.hook line.chain pref x) (has_match line.mask.words line.key.words x && true) (row_in_table_from line.hook line.chain pref x s.0 s.1 s.2)
    (and_from (has_match line.mask.words line.key.words x) true (match_from line.mask.words line.key.words x same_mask same_key) refl)))
