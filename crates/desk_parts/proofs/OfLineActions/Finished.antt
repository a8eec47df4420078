-- All new actions of an edit are put.
use Rattle.std.proofs.Common.{◌≡◌, ◌⊎◌, inl, inr, ℕ, ◌+◌, ◌<◌, ◌≤◌, List, length, sym, ◌∙◌, ap, subst, arith, length-append}
use Rattle.store_history.specs.declared.history.Commit.{Commit}
use Rattle.filter_state.specs.declared.edit.Edit.{Edit}
use Rattle.filter_state.specs.declared.edit.Edit.TheVariants as edits
use Rattle.filter_state.specs.declared.refusal.Done.{Done}
use Rattle.filter_state.specs.States.{State}
use Rattle.hook_law.specs.Meaning.{state_at, IsLive}
use Rattle.hook_law.specs.Numbered.{PutsActions, IsPutAction}
use Rattle.hook_store_law.specs.Stated.{hook_meaning}
use Rattle.hook_store_law.specs.Blocks.{hook_codec}
use Rattle.hook_store_law.specs.Kept.{IsKeptAt}
use Rattle.hook_store_law.specs.OfEdits.Premises.{now, next, IsAccepted, IsOfFilters, NewOnesCome}
use Rattle.hook_store_law.proofs.OfEdits.OfFilters.{new_ones_come}
use Rattle.desk_pools.specs.declared.pools.Pools.{Pools}
use Rattle.pin_store.specs.declared.shape.Shape.{Shape}
use Rattle.pin_store.specs.declared.view.Sheet.{Sheet}
use Rattle.pin_store.specs.Sheets.{IsSameButCells}
use Rattle.desk_actions.specs.Effects.{IsCounted, KeepsBlocks}
use Rattle.desk_actions.specs.Places.{Placed, AreHereFor}
use Rattle.desk_parts.specs.OfLineActions.Put.{IsOfLine, ArePut, IsPlaced}
use Rattle.desk_parts.proofs.OfLineActions.Steps.{PutUpTo}

pub of_filters : (y : Edit) → IsOfLine y → IsOfFilters y
of_filters (edits.FilterAdd line) is = tt
of_filters (edits.FilterReplace line) is = tt
of_filters (edits.FilterDel hook protocol chain pref handle) is = absurd is
of_filters edits.HookAdd is = absurd is
of_filters edits.HookDel is = absurd is
of_filters (edits.ActionAdd line) is = absurd is
of_filters (edits.ActionChange line) is = absurd is
of_filters (edits.ActionDel kind index) is = absurd is

module _ (h : List (Commit Edit)) (b point made : ℕ) (y : Edit) (done : Done) (kept : IsKeptAt h b point) (a : IsAccepted h b y (next h y) done) (is : IsOfLine y)
    (made_is : made ≡ (now h).actions_made) (k : List (Commit Edit)) (pools : Pools) (placed : Placed) (upto : ℕ) (p : PutUpTo h b point made y k pools placed upto)
    (all : (next h y).actions_made ≤ upto) where
  comes : NewOnesCome (now h) (next h y)
  comes = new_ones_come h b y (next h y) done a (of_filters y is)

  now_here : now k ≡ now h
  now_here = ap (λ (edits : List Edit). state_at hook_meaning edits (length edits)) p.journal

  next_here : next k y ≡ next h y
  next_here = ap (λ (s : State). hook_meaning.step s y) now_here

  puts : PutsActions hook_meaning hook_codec b k y
  puts action live = pick (comes action (subst (λ (s : State). IsLive hook_meaning s action) next_here live))
    where
      pick : IsLive hook_meaning (now h) action ⊎ (((now h).actions_made < action) × (action ≤ (next h y).actions_made)) → IsLive hook_meaning (now k) action ⊎ IsPutAction hook_meaning hook_codec b k y action
      pick (inl before) = inl (subst (λ (s : State). IsLive hook_meaning s action) (sym now_here) before)
      pick (inr given) = let up = given.0 in let most = given.1 in let w = p.new action (omega (arith, up, made_is)) (omega (arith, most, all)) in inr w.put

  pub all_put : ArePut h k b point y
  all_put = record {
    more = p.more;
    seen = p.seen;
    each = p.each;
    low = let more = ap length p.seen ∙ length-append h p.more in let first = kept.low in omega (arith, more, first);
    keeps = p.keeps;
    rest = p.rest;
    journal = p.journal;
    roots = p.roots;
    early = p.early;
    made = puts;
  }

  placed_all : (action : ℕ) → IsLive hook_meaning (next h y) action → IsPlaced placed k action
  placed_all action live = pick (comes action live)
    where
      pick : IsLive hook_meaning (now h) action ⊎ (((now h).actions_made < action) × (action ≤ (next h y).actions_made)) → IsPlaced placed k action
      pick (inl before) = p.old action before
      pick (inr given) = let up = given.0 in let most = given.1 in let w = p.new action (omega (arith, up, made_is)) (omega (arith, most, all)) in w.placed_

  pub all_here : upto ≤ (next h y).actions_made → AreHereFor placed k (next h y)
  all_here most = record {
    long = p.long;
    wide = p.wide;
    slots = λ action live. (placed_all action live).slot;
    blocks = λ action live. (placed_all action live).block;
    made = λ action slot w. let low = p.given action slot w in omega (arith, low, most);
  }

-- what stays so as one action after the other is put
pub record PutLoop (h : List (Commit Edit)) (b point made : ℕ) (y : Edit) (shape : Shape) (first : Sheet) (old : Pools) (k : List (Commit Edit)) (sheet : Sheet) (pools : Pools) (placed : Placed) (upto : ℕ) : Type 0 where
  pub up : PutUpTo h b point made y k pools placed upto
  pub same : IsSameButCells first sheet
  pub words : KeepsBlocks shape h first sheet
  pub blocks : (taken : ℕ) → taken + made ≡ upto → IsCounted old.blocks pools.blocks taken 0
  pub actions : (taken : ℕ) → taken + made ≡ upto → IsCounted old.actions pools.actions taken 0
  pub others : pools ≡ record old { blocks = pools.blocks; actions = pools.actions }
  pub low : made ≤ upto
