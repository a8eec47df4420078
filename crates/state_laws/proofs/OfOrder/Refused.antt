-- Each refusal comes alike for two orders of the rows, and answers that are alike stay so behind it.
use Rattle.std.proofs.Common.{◌≡◌, Option, Some, None, Result, Ok, Err, refl, subst, ℕ, ◌==◌, ◌&&◌, not, nat_le, List, is_some, ◌∙◌, ap}
use Rattle.filter_state.specs.declared.refusal.Refusal.{Refusal}
use Rattle.filter_state.specs.Actions.{and_then}
use Rattle.filter_state.specs.Steps.{Stepped, unless, pref_below, pref_for, handle_for}
use Rattle.filter_state.specs.Order.{SameStepped, SameRows}
use Rattle.std.specs.List.{list_any}
use Rattle.tc_base.specs.declared.hook.Hook.{Hook}
use Rattle.tc_base.specs.declared.hook.Proto.{Proto}
use Rattle.filter_state.specs.States.{Row, State}
use Rattle.filter_state.specs.Sound.{EachPair, GoTogether}
use Rattle.filter_state.specs.Tables.{in_chain, in_table, has_handle, table_count, mask_count, mask_row}
use Rattle.filter_state.specs.Refusals.{when, or_else, hook_in_use, protocol_clash, protocol_clash_if, no_such_table, no_such_filter, handle_taken, exists_but, tables_full, masks_full, filters_full}
use Rattle.state_laws.proofs.OfOrder.Same.{any_same, length_same, filter_same}
use Rattle.state_laws.proofs.OfOrder.First.{clash_same, some_mask_same, exists_same}
use Rattle.state_laws.proofs.OfOrder.Counts.{table_count_same, mask_count_same, lowest_same, free_handle_same}
use Rattle.state_laws.proofs.OfOrder.States.{with_rows}
use Rattle.filter_state.specs.declared.refusal.Refusal.TheVariants as refusals

pub unless_one : (o : Option Refusal) (a b : Stepped) → SameStepped a b → SameStepped (unless o a) (unless o b)
unless_one None a b same = same
unless_one (Some refusal) a b same = refl

pub unless_both : {o p : Option Refusal} → o ≡ p → (a b : Stepped) → SameStepped a b → SameStepped (unless o a) (unless p b)
unless_both {o = o} e a b same = subst (λ k. SameStepped (unless o a) (unless k b)) e (unless_one o a b same)

pub then_one : {A : Type 0} (r : Result A Refusal) (f g : A → Stepped) → ((x : A) → SameStepped (f x) (g x)) → SameStepped (and_then f r) (and_then g r)
then_one (Ok x) f g same = same x
then_one (Err refusal) f g same = refl

pub then_both : {A : Type 0} {q r : Result A Refusal} → q ≡ r → (f g : A → Stepped) → ((x : A) → SameStepped (f x) (g x)) → SameStepped (and_then f q) (and_then g r)
then_both {q = q} e f g same = subst (λ k. SameStepped (and_then f q) (and_then g k)) e (then_one q f g same)

-- ---- refusals that read the rows
pub both_refuse : {o p q r : Option Refusal} → o ≡ p → q ≡ r → or_else o q ≡ or_else p r
both_refuse {p = p} {q = q} e f = ap (λ k. or_else k q) e ∙ ap (λ k. or_else p k) f

pub in_use_same : (s : State) {rows : List Row} → SameRows s.rows rows → hook_in_use s ≡ hook_in_use (with_rows s rows)
in_use_same s same = ap (λ n. when (not (n == 0)) refusals.HookInUse) (length_same same)

pub protocol_clash_same : (s : State) {rows : List Row} → SameRows s.rows rows → EachPair GoTogether s.rows → (hook : Hook) (chain pref : ℕ) (protocol : Proto) →
    protocol_clash s hook chain pref protocol ≡ protocol_clash (with_rows s rows) hook chain pref protocol
protocol_clash_same s same pairs hook chain pref protocol = clash_same hook chain pref protocol same pairs

pub clash_if_same : (s : State) {rows : List Row} → SameRows s.rows rows → EachPair GoTogether s.rows → (hook : Hook) (chain pref : ℕ) (protocol : Option Proto) →
    protocol_clash_if s hook chain pref protocol ≡ protocol_clash_if (with_rows s rows) hook chain pref protocol
clash_if_same s same pairs hook chain pref None = refl
clash_if_same s same pairs hook chain pref (Some protocol) = clash_same hook chain pref protocol same pairs

pub no_table_same : (s : State) {rows : List Row} → SameRows s.rows rows → (hook : Hook) (chain pref : ℕ) →
    no_such_table s hook chain pref ≡ no_such_table (with_rows s rows) hook chain pref
no_table_same s same hook chain pref = ap (λ b. when (not b) refusals.NoSuchTable) (any_same (in_table hook chain pref) same)

pub no_filter_same : (s : State) {rows : List Row} → SameRows s.rows rows → (hook : Hook) (chain pref handle : ℕ) →
    no_such_filter s hook chain pref handle ≡ no_such_filter (with_rows s rows) hook chain pref handle
no_filter_same s same hook chain pref handle =
    ap (λ b. when (not b) refusals.NoSuchFilter) (any_same (λ row. in_table hook chain pref row && has_handle handle row) same)

pub taken_same : (s : State) {rows : List Row} → SameRows s.rows rows → (hook : Hook) (chain pref : ℕ) (handle : Option ℕ) →
    handle_taken s hook chain pref handle ≡ handle_taken (with_rows s rows) hook chain pref handle
taken_same s same hook chain pref None = refl
taken_same s same hook chain pref (Some handle) =
    ap (λ b. when b refusals.HandleTaken) (any_same (λ row. in_table hook chain pref row && has_handle handle row) same)

pub exists_but_same : (s : State) {rows : List Row} → SameRows s.rows rows → EachPair GoTogether s.rows → (hook : Hook) (chain pref : ℕ) (replaced : Option ℕ) (mask key : List ℕ) →
    exists_but s hook chain pref replaced mask key ≡ exists_but (with_rows s rows) hook chain pref replaced mask key
exists_but_same s same pairs hook chain pref replaced mask key = exists_same hook chain pref replaced mask key same pairs

-- ---- limits
pub tables_full_same : (s : State) {rows : List Row} → SameRows s.rows rows → (hook : Hook) (chain pref : ℕ) →
    tables_full s hook chain pref ≡ tables_full (with_rows s rows) hook chain pref
tables_full_same s {rows = rows} same hook chain pref =
    ap (λ b. when (not b && nat_le 256 (table_count hook s.rows)) refusals.TablesFull) (any_same (in_table hook chain pref) same)
    ∙ ap (λ n. when (not (list_any (in_table hook chain pref) rows) && nat_le 256 n) refusals.TablesFull) (table_count_same hook same)

pub masks_full_same : (s : State) {rows : List Row} → SameRows s.rows rows → EachPair GoTogether s.rows → (hook : Hook) (chain pref : ℕ) (mask : List ℕ) →
    masks_full s hook chain pref mask ≡ masks_full (with_rows s rows) hook chain pref mask
masks_full_same s {rows = rows} same pairs hook chain pref mask =
    ap (λ b. when (not b && nat_le 16 (mask_count hook chain pref s.rows)) refusals.MasksFull) (some_mask_same hook chain pref mask same pairs)
    ∙ ap (λ n. when (not (is_some (mask_row hook chain pref mask rows)) && nat_le 16 n) refusals.MasksFull) (mask_count_same hook chain pref same)

pub filters_full_same : (s : State) {rows : List Row} → SameRows s.rows rows → filters_full s ≡ filters_full (with_rows s rows)
filters_full_same s same = ap (λ n. when (nat_le 4096 n) refusals.FiltersFull) (length_same same)

-- ---- numbers that a line leaves open
pub pref_same : (s : State) {rows : List Row} → SameRows s.rows rows → (hook : Hook) (chain : ℕ) (pref : Option ℕ) → pref_for s hook chain pref ≡ pref_for (with_rows s rows) hook chain pref
pref_same s same hook chain (Some pref) = refl
pref_same s same hook chain None = ap pref_below (lowest_same (filter_same (in_chain hook chain) same))

pub handle_same : (s : State) {rows : List Row} → SameRows s.rows rows → (hook : Hook) (chain pref : ℕ) (handle : Option ℕ) →
    handle_for s hook chain pref handle ≡ handle_for (with_rows s rows) hook chain pref handle
handle_same s same hook chain pref (Some handle) = refl
handle_same s same hook chain pref None = free_handle_same hook chain pref same
