use Rattle.std.proofs.Common.{◌≡◌, ◌∙◌, ℕ, List, Option, Some, None, sym, ap, subst, Result, Ok, Err, IfOk}
use Rattle.filter_state.specs.States.{State}
use Rattle.tc_base.specs.declared.hook.Hook.{Hook}
use Rattle.tc_base.specs.declared.hook.Proto.{Proto}
use Rattle.state_laws.proofs.OfOrder.First.{pairs_same}
use Rattle.filter_state.specs.Tables.{filter_row}
use Rattle.hook_lists.specs.declared.kept.Kept.{Kept}
use Rattle.hook_lists.specs.States.{AreKept}
use Rattle.filter_lists.specs.Spells.{Spells}
use Rattle.filter_state.specs.declared.edit.Edit.{Edit}
use Rattle.filter_state.specs.declared.edit.Edit.TheVariants as edits
use Rattle.desk_parts.specs.OfLineActions.Gone.{named_by, serials_gone, NamesGone}
use Rattle.desk_parts.specs.OfGoneSerials.Same.{HaveSame}
use Rattle.desk_parts.proofs.OfGoneSerials.Members.{have_same, one_row}
use Rattle.desk_parts.proofs.gone_serials.telling.serials_going.Goals as goal

-- what holds of a value that is there, of another fact of it
told_ok : {A E : Type 0} (P Q : A → Type 0) (r : Result A E) → IfOk r P → ((a : A) → P a → Q a) → IfOk r Q
told_ok P Q (Ok a) p goes = goes a p
told_ok P Q (Err e) p goes = tt

-- a list that is what goes
names : (s : State) (y : Edit) (xs : List ℕ) → HaveSame xs (serials_gone s y) → NamesGone s y xs
names s y xs same = record { each = same.there; all = same.back }

-- the filter with a handle goes alone
of_one : (lists : Kept) (s : State) (hook : Hook) (protocol : Option Proto) (chain pref handle : ℕ) (xs : List ℕ) → AreKept lists → Spells lists s
    → xs ≡ named_by (filter_row hook chain pref handle s.rows) → NamesGone s (edits.FilterDel hook protocol chain pref (Some handle)) xs
of_one lists s hook protocol chain pref handle xs kept spells told = names s (edits.FilterDel hook protocol chain pref (Some handle)) xs
    (have_same xs _ (told ∙ sym (one_row hook chain pref handle s.rows (pairs_same spells.rows kept.sound.together))))

pub returns-in-Some : goal.returns-in-Some
returns-in-Some c = let hook = c.in-FilterDel.hook in let chain = c.in-FilterDel.chain in let pref = c.in-FilterDel.pref in let handle = c.in-Some.handle in
    let is = c.in-FilterDel.is ∙ ap (edits.FilterDel hook c.in-FilterDel.protocol chain pref) c.in-Some.is in
    told_ok _ _ c.serials_of_filter-in-Some.result c.serials_of_filter-in-Some.ensures.gone (λ gone told s spells. subst (λ (y : Edit). NamesGone s y gone.items) (sym is)
    (of_one c.args.lists.now s hook c.in-FilterDel.protocol chain pref handle gone.items c.serials_of_filter-in-Some.ensures.kept spells (told s spells)))

pub returns-in-None : goal.returns-in-None
returns-in-None c = let is = c.in-FilterDel.is ∙ ap (edits.FilterDel c.in-FilterDel.hook c.in-FilterDel.protocol c.in-FilterDel.chain c.in-FilterDel.pref) c.in-None.is in
    told_ok _ _ c.serials_of_table.result c.serials_of_table.ensures (λ gone told s spells. subst (λ (y : Edit). NamesGone s y gone.items) (sym is)
    (names s (edits.FilterDel c.in-FilterDel.hook c.in-FilterDel.protocol c.in-FilterDel.chain c.in-FilterDel.pref None) gone.items (told s spells)))
