-- An accepted line of filters is answered by its filter, which stands afterwards.
use Rattle.std.proofs.Common.{◌≡◌, ◌∙◌, ◌⊎◌, inl, inr, ℕ, List, ◌∷◌, ◌++◌, Option, Some, None, Result, Ok, Err, refl, sym, ap, subst}
use Rattle.store_history.specs.declared.history.Commit.{Commit}
use Rattle.filter_state.specs.declared.edit.Edit.{Edit}
use Rattle.filter_state.specs.declared.edit.Edit.TheVariants as edits
use Rattle.filter_state.specs.declared.edit.FilterLine.{FilterLine}
use Rattle.filter_state.specs.declared.refusal.Done.{Done}
use Rattle.filter_state.specs.declared.refusal.Done.TheVariants as dones
use Rattle.filter_state.specs.declared.refusal.Refusal.{Refusal}
use Rattle.filter_state.specs.States.{Row, State}
use Rattle.filter_state.specs.Actions.{and_then}
use Rattle.filter_state.specs.Refusals.{no_hook}
use Rattle.filter_state.specs.Steps.{step, filter_add, filter_replace, replace_or_add, add_at, add_resolved, filter_added, pref_for, resolved_for}
use Rattle.hook_store_law.proofs.OfEffects.Accepted.{not_unless, same_step}
use Rattle.hook_store_law.proofs.OfEffects.Replacing.{is_there, replaces}
use Rattle.hook_law.specs.Records.{StatedFilter}
use Rattle.hook_law.specs.Standing.{IsIn}
use Rattle.root_pool_laws.proofs.Apart.{in_right}
use Rattle.hook_store_law.specs.OfEdits.Premises.{now, IsAccepted}

abbrev IsAnswered : Done → Type 0
IsAnswered done = (pref : ℕ) × (handle : ℕ) × (serials : List ℕ) × (done ≡ dones.Filter pref handle serials)

then_ok : {A B : Type 0} (more : A → Result B Refusal) (r : Result A Refusal) (x : B) → and_then more r ≡ Ok x → (a : A) × (more a ≡ Ok x)
then_ok more (Ok a) x e = (a, e)
then_ok more (Err refusal) x e = absurd (cc e)

added_filter : (s t : State) (line : FilterLine) (done : Done) → filter_add s line ≡ Ok (t, done) → IsAnswered done
added_filter s t line done e =
    let one = then_ok (add_at s line) (pref_for s line.hook line.chain line.pref) (t, done) (not_unless (no_hook s) (and_then (add_at s line) (pref_for s line.hook line.chain line.pref)) (t, done) e).1 in
    let two = then_ok (add_resolved s line one.0) (resolved_for s line.actions) (t, done) (not_unless _ (and_then (add_resolved s line one.0) (resolved_for s line.actions)) (t, done) one.1).1 in
    let three = (not_unless _ (filter_added s line one.0 two.0) (t, done) two.1).1 in (one.0, _, two.0.serials, sym (same_step _ t _ done three).1)

replaced_filter : (s t : State) (line : FilterLine) (done : Done) (old : Option Row) → is_there s line ≡ old → filter_replace s line ≡ Ok (t, done) → IsAnswered done
replaced_filter s t line done (Some old) is e = let r = replaces s t line old done is e in (old.pref, old.handle, r.r.serials, sym r.answer)
replaced_filter s t line done None is e = added_filter s t line done (sym (ap (replace_or_add s line) is) ∙ e)

pub answered : (h : List (Commit Edit)) (b : ℕ) (y : Edit) (t : State) (line : FilterLine) (done : Done) → IsAccepted h b y t done → (y ≡ edits.FilterAdd line) ⊎ (y ≡ edits.FilterReplace line) → IsAnswered done
answered h b y t line done a (inl is) = added_filter (now h) t line done (sym (ap (step (now h)) is) ∙ a.steps)
answered h b y t line done a (inr is) = replaced_filter (now h) t line done (is_there (now h) line) refl (sym (ap (step (now h)) is) ∙ a.steps)

-- a filter that stands among others
pub stands_last : (all before : List StatedFilter) (f : StatedFilter) (later : List StatedFilter) → all ≡ before ++ f ∷ later → IsIn f all
stands_last all before f later is = subst (IsIn f) (sym is) (in_right before (f ∷ later) f (0, refl))
