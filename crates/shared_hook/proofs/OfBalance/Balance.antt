-- How many actions there are behind an edit of filters, and that the pools add up there.
use Rattle.std.proofs.Common.{◌≡◌, ◌⊎◌, ◌-◌, ◌≤◌, inl, inr, ℕ, ◌+◌, eqb, List, [], ◌∷◌, ◌++◌, Option, Some, None, Ok, length, refl, ◌∙◌, ap, subst, arith}
use Rattle.std.specs.Prelude.{◌&&◌}
use Rattle.std.specs.List.{IsDistinct}
use Rattle.tc_base.specs.declared.hook.Hook.{Hook}
use Rattle.tc_base.specs.declared.hook.Proto.{Proto}
use Rattle.store_history.specs.declared.history.Commit.{Commit}
use Rattle.store_history.specs.History.{edits_of}
use Rattle.filter_state.specs.declared.edit.Edit.{Edit}
use Rattle.filter_state.specs.declared.edit.Edit.TheVariants as edits
use Rattle.filter_state.specs.declared.refusal.Done.{Done}
use Rattle.filter_state.specs.declared.refusal.Done.TheVariants as dones
use Rattle.filter_state.specs.States.{State}
use Rattle.filter_state.specs.Tables.{in_table, has_handle}
use Rattle.filter_state.specs.Refusals.{or_else, no_hook, protocol_clash_if, no_such_table, no_such_filter}
use Rattle.filter_state.specs.Steps.{Stepped, step, taken_out}
use Rattle.filter_state.specs.Journals.{state_after}
use Rattle.hook_law.specs.Meaning.{IsLive}
use Rattle.hook_law.specs.Standing.{IsIn}
use Rattle.hook_store_law.specs.Stated.{hook_meaning}
use Rattle.hook_store_law.specs.OfEdits.Premises.{now, next, IsAccepted, IsOfFilters}
use Rattle.hook_store_law.proofs.OfEdits.Accepted.{leads, sound, at_next}
use Rattle.hook_store_law.proofs.OfEdits.Stepping.{unless_refused}
use Rattle.desk_needs.specs.Needs.{made}
use Rattle.desk_parts.specs.OfLineActions.Gone.{serials_gone, NamesGone}
use Rattle.desk_parts.proofs.OfLineActions.Held.{gone_were_live, gone_named}
use Rattle.desk_parts.proofs.OfLineActions.Balance.{edit_rises, actions_balance}
use Rattle.shared_hook.specs.OfDeskEdits.Spent.{made_by, AreDead}
use Rattle.shared_hook.proofs.OfDeskEdits.Desked.{now_is_next}

-- ---- numbers alone: arithmetic is slow beside what is known of commits
balanced : (live left gone before after : ℕ) → live + after ≡ left + gone + before → before ≤ after → left + gone ≡ live + (after - before)
balanced live left gone before after balance rises = omega (arith, balance, rises)

same_made : (before after : ℕ) → after ≡ before → after - before ≡ 0
same_made before after same = omega (arith, same)

none_gone : (live left made : ℕ) → left + 0 ≡ live + made → left ≡ live + made
none_gone live left made all = omega (arith, all)

nothing : (action : ℕ) → IsIn {A = ℕ} action [] → ⊥
nothing action at = let e = at.1 in cc e

no_doubles : IsDistinct {K = ℕ} eqb []
unfolding IsDistinct
no_doubles = tt

-- ---- actions that went are as many as are told
abbrev AreDeadIn : State → List ℕ → List ℕ → Type 0
AreDeadIn u serials gone = IsDistinct eqb gone × ((action : ℕ) → IsIn action gone → IsIn action serials × (IsLive hook_meaning u action → ⊥))
    × ((action : ℕ) → IsIn action serials → IsLive hook_meaning u action ⊎ IsIn action gone)

module _ (h : List (Commit Edit)) (b : ℕ) (y : Edit) (t : State) (done : Done) (a : IsAccepted h b y t done) (is : IsOfFilters y) where
  at_next_state : IsAccepted h b y (next h y) done
  at_next_state = at_next h b y t done a (λ u. IsAccepted h b y u done) a

  went : (serials gone : List ℕ) → NamesGone (now h) y serials → IsDistinct eqb gone
      → ((action : ℕ) → IsIn action gone → IsIn action serials × (IsLive hook_meaning (next h y) action → ⊥))
      → ((action : ℕ) → IsIn action serials → IsLive hook_meaning (next h y) action ⊎ IsIn action gone)
      → length (next h y).actions + length gone ≡ length (now h).actions + made_by h y
  went serials gone names once dead every =
      let balance = actions_balance h b y done gone at_next_state is once
      (λ action at. let told = dead action at in (gone_were_live (now h) y action (sound h b y t done a) (names.each action told.0), told.1))
      (λ action live lost. found action lost (every action (names.all action (gone_named (now h) (next h y) y done action (sound h b y t done a) is at_next_state.steps live lost)))) in
      balanced (length (now h).actions) (length (next h y).actions) (length gone) (now h).actions_made (next h y).actions_made balance (edit_rises (now h) (next h y) y done is at_next_state.steps)
    where
      found : (action : ℕ) → (IsLive hook_meaning (next h y) action → ⊥) → IsLive hook_meaning (next h y) action ⊎ IsIn action gone → IsIn action gone
      found action lost (inl live) = absurd (lost live)
      found action lost (inr at) = at

  -- told after all commits
  pub went_after : (k : List (Commit Edit)) (serials gone : List ℕ) → NamesGone (now h) y serials → edits_of k ≡ edits_of h ++ y ∷ [] → AreDead k serials gone
      → length t.actions + length gone ≡ length (now h).actions + made_by h y
  went_after k serials gone names journal are =
      let same : now k ≡ next h y = now_is_next h k y journal in
      let alike = subst (λ (u : State). AreDeadIn u serials gone) same (are.once, are.dead, are.all) in
      subst (λ (u : State). length u.actions + length gone ≡ length (now h).actions + made_by h y) (leads h b y t done a)
      (went serials gone names alike.0 alike.1 alike.2)

  -- none is told
  pub none_went : serials_gone (now h) y ≡ [] → length t.actions ≡ length (now h).actions + made_by h y
  none_went none =
      let names : NamesGone (now h) y [] = record { each = λ action at. absurd (nothing action at); all = λ action at. subst (λ ns. IsIn action ns) none at } in
      none_gone (length (now h).actions) (length t.actions) (made_by h y) (subst (λ (u : State). length u.actions + 0 ≡ length (now h).actions + made_by h y) (leads h b y t done a)
      (went [] [] names no_doubles (λ action at. absurd (nothing action at)) (λ action at. absurd (nothing action at))))

-- ---- a deletion makes none
abbrev MakesNone : State → Stepped → Type 0
MakesNone s stepped = (state_after s stepped).actions_made ≡ s.actions_made

deletion : (s : State) (hook : Hook) (protocol : Option Proto) (chain pref : ℕ) (handle : Option ℕ) → MakesNone s (step s (edits.FilterDel hook protocol chain pref handle))
deletion s hook protocol chain pref (Some handle) =
    unless_refused (MakesNone s) (λ refusal. refl) (or_else (no_hook s) (or_else (protocol_clash_if s hook chain pref protocol) (or_else (no_such_table s hook chain pref) (no_such_filter s hook chain pref handle))))
    (Ok (taken_out s (λ row. in_table hook chain pref row && has_handle handle row), dones.FilterGone)) refl
deletion s hook protocol chain pref None =
    unless_refused (MakesNone s) (λ refusal. refl) (or_else (no_hook s) (or_else (protocol_clash_if s hook chain pref protocol) (no_such_table s hook chain pref))) (Ok (taken_out s (in_table hook chain pref), dones.TableGone)) refl

pub none_made : (h : List (Commit Edit)) (y : Edit) (hook : Hook) (protocol : Option Proto) (chain pref : ℕ) (handle : Option ℕ) → y ≡ edits.FilterDel hook protocol chain pref handle → made_by h y ≡ 0
none_made h y hook protocol chain pref handle is =
    let same : (next h y).actions_made ≡ (now h).actions_made = ap (λ z. (next h z).actions_made) is ∙ deletion (now h) hook protocol chain pref handle in
    same_made (now h).actions_made (next h y).actions_made same
