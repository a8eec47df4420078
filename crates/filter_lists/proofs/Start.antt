-- Lists in which nothing stands spell the state in which nothing stands.
use Rattle.std.proofs.Common.{◌≡◌, ℕ, false, List, [], length, refl, sym, ◌∙◌, ap, subst}
use Rattle.std.specs.Prelude.{◌++◌}
use Rattle.act_kinds.specs.declared.params.Params.{Params}
use Rattle.act_registry.specs.declared.entry.Entry.{Entry}
use Rattle.tc_base.specs.declared.hook.Hook.TheVariants as hooks
use Rattle.filter_state.specs.States.{State, no_state}
use Rattle.filter_state.specs.Sound.{Sound}
use Rattle.filter_state.specs.Order.{SameState}
use Rattle.state_laws.proofs.Whole.{start_sound}
use Rattle.state_laws.proofs.OfOrder.States.{same_state_refl}
use Rattle.filter_tables.specs.Plain.{PlainTable}
use Rattle.filter_tables.specs.Whole.{AreWhole}
use Rattle.filter_tables.specs.Rows.{rows_of}
use Rattle.action_plan.specs.Entries.{actions_of}
use Rattle.hook_lists.specs.declared.kept.Kept.{Kept}
use Rattle.hook_lists.specs.States.{state_of, AreKept}

abbrev start_with : List PlainTable → List PlainTable → List (Entry Params) → ℕ → State
start_with ingress egress entries made = record {
  hooked = false;
  rows = rows_of hooks.Ingress ingress ++ rows_of hooks.Egress egress;
  actions = actions_of entries;
  tables_made = 0;
  masks_made = 0;
  actions_made = made;
}

nothing : start_with [] [] [] 0 ≡ no_state
unfolding rows_of
nothing = refl

pub record IsBare (kept : Kept) : Type 0 where
  pub hooked : kept.hooked ≡ false
  pub ingress : kept.ingress.tables ≡ []
  pub egress : kept.egress.tables ≡ []
  pub entries : kept.actions.entries ≡ []
  pub made : kept.actions.made ≡ 0
  pub tables_made : kept.tables_made ≡ 0
  pub masks_made : kept.masks_made ≡ 0
  pub filters : kept.filters ≡ 0

bare_state : (kept : Kept) → IsBare kept → state_of kept ≡ no_state
bare_state kept bare =
    rw (bare.hooked, bare.tables_made, bare.masks_made)
    (ap (λ ts. start_with ts kept.egress.tables kept.actions.entries kept.actions.made) bare.ingress
    ∙ ap (λ ts. start_with [] ts kept.actions.entries kept.actions.made) bare.egress
    ∙ ap (λ es. start_with [] [] es kept.actions.made) bare.entries
    ∙ ap (start_with [] [] []) bare.made
    ∙ nothing)

none_whole : AreWhole []
none_whole = record { full = tt; rising = tt }

pub bare_kept : (kept : Kept) → IsBare kept → AreKept kept
bare_kept kept bare = record {
  whole = record { ingress = subst AreWhole (sym bare.ingress) none_whole; egress = subst AreWhole (sym bare.egress) none_whole };
  sound = subst Sound (sym (bare_state kept bare)) start_sound;
  filters = bare.filters ∙ ap (λ (s : State). length s.rows) (sym (bare_state kept bare));
}

pub bare_spells : (kept : Kept) → IsBare kept → SameState (state_of kept) no_state
bare_spells kept bare = subst (λ s. SameState s no_state) (sym (bare_state kept bare)) (same_state_refl no_state)
