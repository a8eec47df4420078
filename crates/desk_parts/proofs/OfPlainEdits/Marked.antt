-- Places of actions and pools after the commit of an edit of the qdisc.
use Rattle.std.proofs.Common.{◌≡◌, ◌∙◌, ◌⊎◌, inl, inr, ℕ, ◌+◌, ◌≤◌, true, false, List, [], ◌∷◌, ◌++◌, Some, Ok, refl, sym, ap, subst, arith}
use Rattle.store_history.specs.declared.history.Named.{Named}
use Rattle.store_history.specs.declared.history.Commit.{Commit}
use Rattle.store_history.specs.History.{root_of}
use Rattle.store_history.proofs.Histories.{root_other}
use Rattle.filter_state.specs.declared.edit.Edit.{Edit}
use Rattle.filter_state.specs.declared.edit.Edit.TheVariants as edits
use Rattle.filter_state.specs.declared.refusal.Done.{Done}
use Rattle.filter_state.specs.declared.refusal.Done.TheVariants as dones
use Rattle.filter_state.specs.States.{State}
use Rattle.filter_state.specs.Refusals.{or_else, no_hook, hook_exists, hook_in_use}
use Rattle.filter_state.specs.Steps.{Stepped, step}
use Rattle.filter_state.specs.Journals.{state_after}
use Rattle.hook_law.specs.Places.{action_root}
use Rattle.hook_law.specs.Meaning.{point_of, IsLive}
use Rattle.hook_law.specs.Standing.{Role, PutsAction, IsSlotOf, IsIn, Stands}
use Rattle.hook_law.specs.Keeping.{IsAtRest}
use Rattle.hook_law.specs.Numbered.{Marks}
use Rattle.hook_law.proofs.Growing.{now_next}
use Rattle.hook_law.proofs.Standing.{slot_longer, slot_push}
use Rattle.hook_law.proofs.Marking.{mark_back}
use Rattle.hook_store_law.specs.Stated.{hook_meaning}
use Rattle.hook_store_law.specs.Blocks.{hook_codec}
use Rattle.hook_store_law.specs.OfEdits.Premises.{now, next, IsAccepted, IsUnseen}
use Rattle.hook_store_law.proofs.OfEdits.Accepted.{leads}
use Rattle.hook_store_law.proofs.OfEdits.Stepping.{unless_refused}
use Rattle.hook_store_law.proofs.OfEdits.Marking.{makes_none, qdisc_unseen, marks}
use Rattle.desk_pools.specs.declared.pools.Pools.{Pools}
use Rattle.desk_pools.specs.Pools.{ArePools}
use Rattle.desk_pools.proofs.Steps.{pools_commit}
use Rattle.desk_actions.specs.OfLedgers.Ledger.{mark_at}
use Rattle.desk_actions.specs.Places.{Placed, slot_of, AreHere}
use Rattle.desk_parts.specs.OfPlainEdits.Kinds.{IsOfQdisc}

-- such an edit makes no action
abbrev KeepsMade : State → Stepped → Type 0
KeepsMade s stepped = (state_after s stepped).actions_made ≡ s.actions_made

same_made : (s t : State) (y : Edit) (done : Done) → step s y ≡ Ok (t, done) → KeepsMade s (step s y) → t.actions_made ≡ s.actions_made
same_made s t y done e kept = sym (ap (λ stepped. (state_after s stepped).actions_made) e) ∙ kept

qdisc_made : (s t : State) (y : Edit) (done : Done) → IsOfQdisc y → step s y ≡ Ok (t, done) → t.actions_made ≡ s.actions_made
qdisc_made s t y done (inl is) e = same_made s t edits.HookAdd done (sym (ap (step s) is) ∙ e)
    (unless_refused (KeepsMade s) (λ refusal. refl) (hook_exists s) (Ok (record s { hooked = true }, dones.Hooked)) refl)
qdisc_made s t y done (inr is) e = same_made s t edits.HookDel done (sym (ap (step s) is) ∙ e)
    (unless_refused (KeepsMade s) (λ refusal. refl) (or_else (no_hook s) (hook_in_use s)) (Ok (record s { hooked = false }, dones.Unhooked)) refl)

module _ (h : List (Commit Edit)) (b : ℕ) (y : Edit) (t : State) (done : Done) (a : IsAccepted h b y t done) (is : IsOfQdisc y) (rest : IsAtRest hook_meaning hook_codec h)
    (number : ℕ) (numbered : number ≡ point_of h + 1) where
  abbrev c : Commit Edit
  c = mark_at number y

  unseen : IsUnseen y
  unseen = qdisc_unseen h b y t done a is

  marked : Marks hook_meaning hook_codec h c y
  marked = marks h b c y t done a unseen rest refl (ap (λ (n : ℕ). Some (n, y)) numbered) numbered

  back : (r : ℕ) (x : Role) → Stands hook_meaning hook_codec (h ++ c ∷ []) r x → Stands hook_meaning hook_codec h r x
  back = mark_back hook_meaning hook_codec h b c y a.low a.keeps marked

  now_is : now (h ++ c ∷ []) ≡ next h y
  now_is = now_next hook_meaning h c number y refl

  earlier : (action : ℕ) → IsLive hook_meaning (now (h ++ c ∷ [])) action → IsLive hook_meaning (now h) action
  earlier action live = makes_none h b y t done a unseen action (subst (λ (s : State). IsLive hook_meaning s action) now_is live)

  counted : (now (h ++ c ∷ [])).actions_made ≡ (now h).actions_made
  counted = ap (λ (s : State). s.actions_made) (now_is ∙ leads h b y t done a) ∙ qdisc_made (now h) t y done is a.steps

  same_root : (s : ℕ) → root_of (h ++ c ∷ []) (action_root s) ≡ root_of h (action_root s)
  same_root s = root_other h c (action_root s) (λ same. omega (arith, same))

  pub mark_here : (placed : Placed) → AreHere placed h → AreHere placed (h ++ c ∷ [])
  mark_here placed here = record {
    long = here.long;
    wide = here.wide;
    slots = λ action live. slot_longer hook_codec h (c ∷ []) action (slot_of placed action) (here.slots action (earlier action live));
    blocks = λ action live. let at = here.blocks action (earlier action live) in (at.0, at.1, ap (λ (n : Named). n.chain) (same_root (slot_of placed action)) ∙ at.2);
    made = λ action s w. let low = put_before action s (slot_push hook_codec h c action s w) in let same = counted in omega (arith, low, same);
  }
    where
      put_before : (action s : ℕ) → IsSlotOf hook_codec h action s ⊎ PutsAction hook_codec c action s → action ≤ (now h).actions_made
      put_before action s (inl w) = here.made action s w
      put_before action s (inr p) = let root = p.root in absurd (omega (arith, root))

  pub mark_pools : (pools : Pools) → ArePools pools h b → ArePools pools (h ++ c ∷ []) b
  mark_pools pools p = pools_commit pools h b c [] a.low p (record {
    spends = λ place l at. absurd (cc at);
    free = λ x at. absurd (nothing x at);
    small = λ x at. absurd (nothing x at);
    taken = λ x at. absurd (nothing x at);
    masks = λ s in_ x stands. back _ x stands;
    actions = λ s in_ x stands. back _ x stands;
    rows = λ row place in_ less x stands. back _ x stands;
  })
    where
      nothing : (x : ℕ) → IsIn {A = ℕ} x [] → ⊥
      nothing x at = let e = at.1 in cc e
