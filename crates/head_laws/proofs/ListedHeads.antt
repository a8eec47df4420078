-- The tables of a hook of lists are the heads of each state that the lists spell.
use Rattle.std.proofs.Common.{◌≡◌, ◌∙◌, List, [], sym, ap, subst}
use Rattle.std.specs.Prelude.{map}
use Rattle.std.proofs.lemmas.List.{append-nil}
use Rattle.tc_base.specs.declared.hook.Hook.{Hook}
use Rattle.tc_base.specs.declared.hook.Hook.TheVariants as hooks
use Rattle.filter_state.specs.States.{State}
use Rattle.filter_state.specs.Tables.{in_hook}
use Rattle.filter_state.specs.Order.{SameState}
use Rattle.filter_state.specs.Sound.{EachPair, GoTogether}
use Rattle.filter_tables.specs.Plain.{PlainTable}
use Rattle.filter_tables.specs.Whole.{AreWhole}
use Rattle.filter_tables.specs.Rows.{BothHooks, tables_on, rows_of, all_rows}
use Rattle.hook_lists.specs.declared.kept.Kept.{Kept}
use Rattle.hook_lists.specs.States.{both_of, state_of, AreKept}
use Rattle.state_laws.proofs.OfOrder.Same.{filter_same}
use Rattle.row_laws.specs.OfOrder.Sorted.{sorted}
use Rattle.row_laws.specs.OfOrder.Rows.{row_before}
use Rattle.row_laws.proofs.OfOrder.OrderedRows.{rows_stay, sorted_same}
use Rattle.filter_state.proofs.Pairs.{pairs_filter}
use Rattle.row_laws.proofs.OfLookups.Found.{whole_on}
use Rattle.row_laws.proofs.OfLookups.Tables.{hook_rows, apart_serials}
use Rattle.walk_rules.specs.Heads.{heads_in, heads_on}
use Rattle.head_laws.specs.Heads.{head_of}
use Rattle.head_laws.proofs.HeadRows.{tables_told}

-- the rows of the tables of one hook are in order
rows_stand : (hook : Hook) (tables : List PlainTable) → AreWhole tables → sorted row_before (rows_of hook tables) ≡ rows_of hook tables
unfolding rows_of
rows_stand hooks.Ingress tables whole =
    subst (λ rows. sorted row_before rows ≡ rows) (append-nil (rows_of hooks.Ingress tables))
    (rows_stay (record { ingress = tables; egress = [] }) (record { ingress = whole; egress = record { full = tt; rising = tt } }))
rows_stand hooks.Egress tables whole =
    rows_stay (record { ingress = []; egress = tables }) (record { ingress = record { full = tt; rising = tt }; egress = whole })

heads_kept : (kept : Kept) (hook : Hook) → AreKept kept → heads_on hook (state_of kept) ≡ map head_of (tables_on hook (both_of kept))
heads_kept kept hook is =
    let both : BothHooks = both_of kept in
    let tables : List PlainTable = tables_on hook both in
    let sound = is.sound in
    let whole : AreWhole tables = whole_on hook both is.whole in
    let together : EachPair GoTogether (rows_of hook tables) = subst (EachPair GoTogether) (hook_rows both hook) (pairs_filter GoTogether (in_hook hook) (all_rows both) sound.together) in
    ap (λ rows. heads_in (sorted row_before rows)) (hook_rows both hook) ∙ ap heads_in (rows_stand hook tables whole)
    ∙ tables_told hook tables whole.full (apart_serials hook tables whole together)

pub heads_listed : (kept : Kept) (s : State) (hook : Hook) → AreKept kept → SameState (state_of kept) s → map head_of (tables_on hook (both_of kept)) ≡ heads_on hook s
heads_listed kept s hook is same = sym (heads_kept kept hook is) ∙ ap heads_in (sorted_same (filter_same (in_hook hook) same.rows))
