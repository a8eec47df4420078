-- Filters that are let go one after the other: what is left to go, and what it comes to.
use Rattle.std.proofs.Common.{◌≡◌, ℕ, ◌+◌, ◌≤◌, List, [], ◌∷◌, ◌++◌, length, refl, sym, ◌∙◌, ap, subst, arith}
use Rattle.std.proofs.lemmas.List.{append_assoc, length-append}
use Rattle.filter_state.specs.Actions.{all_unbound}
use Rattle.filter_index.specs.declared.filter.Filter.{Filter}
use Rattle.action_plan.specs.Bound.{AreBound}
use Rattle.hook_lists.specs.declared.kept.Kept.{Kept}
use Rattle.filter_lists.specs.OfRemoving.Leaving.{serials_in, HaveLeft}
use Rattle.filter_lists.proofs.OfRemoving.Places.{bound_first, bound_then, unbound_then}

-- the rest can be let go, and once it is, all has left
pub record IsGoing (all rest : List Filter) (start now : Kept) : Type 0 where
  pub some : length rest ≤ now.filters
  pub bound : AreBound (serials_in rest) now.actions.entries
  pub ends : (new : Kept) → HaveLeft (serials_in rest) (length rest) now new → HaveLeft (serials_in all) (length all) start new

-- ---- serials
serials_append : (fs gs : List Filter) → serials_in (fs ++ gs) ≡ serials_in fs ++ serials_in gs
serials_append [] gs = refl
serials_append (f ∷ fs) gs = ap (λ more. f.actions ++ more) (serials_append fs gs) ∙ sym (append_assoc f.actions (serials_in fs) (serials_in gs))

append_none : {X : Type 0} (xs : List X) → xs ++ [] ≡ xs
append_none [] = refl
append_none (x ∷ xs) = ap (λ more. x ∷ more) (append_none xs)

pub serials_one : (f : Filter) → serials_in (f ∷ []) ≡ f.actions
serials_one f = append_none f.actions

-- ---- go on, end
none_left : (kept : Kept) → HaveLeft [] 0 kept kept
none_left kept = record { actions = refl; made = refl; filters = omega arith; tables = refl; hooked = refl; tables_made = refl; masks_made = refl }

pub going_last : (all rest : List Filter) (start now : Kept) → rest ≡ [] → IsGoing all rest start now → HaveLeft (serials_in all) (length all) start now
going_last all rest start now over going = (subst (λ fs. IsGoing all fs start now) over going).ends now (none_left now)

joined : (xs ys : List ℕ) (m n : ℕ) (old mid new : Kept) → HaveLeft xs m old mid → HaveLeft ys n mid new → HaveLeft (xs ++ ys) (m + n) old new
joined xs ys m n old mid new first then = record {
  actions = then.actions ∙ ap (all_unbound ys) first.actions ∙ sym (unbound_then xs ys _);
  made = then.made ∙ first.made;
  filters = omega (arith, then.filters, first.filters);
  tables = then.tables ∙ first.tables;
  hooked = then.hooked ∙ first.hooked;
  tables_made = then.tables_made ∙ first.tables_made;
  masks_made = then.masks_made ∙ first.masks_made;
}

going_joined : (all fs more : List Filter) (start now next : Kept) → IsGoing all (fs ++ more) start now → HaveLeft (serials_in fs) (length fs) now next → IsGoing all more start next
going_joined all fs more start now next going left = record {
  some = omega (arith, going.some, left.filters, length-append fs more);
  bound =
      bound_then (serials_in fs) (serials_in more) now.actions.entries next.actions.entries left.actions (subst (λ ns. AreBound ns now.actions.entries) (serials_append fs more) going.bound);
  ends = λ new then.
      going.ends new (subst (λ n. HaveLeft (serials_in (fs ++ more)) n now new) (sym (length-append fs more))
      (subst (λ ns. HaveLeft ns (length fs + length more) now new) (sym (serials_append fs more))
      (joined (serials_in fs) (serials_in more) (length fs) (length more) now next new left then)));
}

pub going_on : (all rest fs more : List Filter) (start now next : Kept) → rest ≡ fs ++ more → IsGoing all rest start now → HaveLeft (serials_in fs) (length fs) now next → IsGoing all more start next
going_on all rest fs more start now next front going = going_joined all fs more start now next (subst (λ gs. IsGoing all gs start now) front going)

pub going_bound : (all rest fs more : List Filter) (start now : Kept) → rest ≡ fs ++ more → IsGoing all rest start now → AreBound (serials_in fs) now.actions.entries
going_bound all rest fs more start now front going =
    bound_first (serials_in fs) (serials_in more) now.actions.entries (subst (λ ns. AreBound ns now.actions.entries) (ap serials_in front ∙ serials_append fs more) going.bound)

pub going_past : (all rest more : List Filter) (start now : Kept) → rest ≡ more → IsGoing all rest start now → IsGoing all more start now
going_past all rest more start now same going = subst (λ fs. IsGoing all fs start now) same going
