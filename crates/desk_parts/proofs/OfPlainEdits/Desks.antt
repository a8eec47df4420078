-- A whole desk, one commit further.
use Rattle.std.proofs.Common.{◌≡◌, ◌∙◌, inl, inr, ℕ, List, [], ◌∷◌, ◌++◌, Some, Ok, sym, ap, subst, arith}
use Rattle.tc_base.specs.declared.hook.Hook.TheVariants.{Ingress, Egress}
use Rattle.tc_base.specs.declared.hook.Hook.{Hook}
use Rattle.store_history.specs.declared.history.Commit.{Commit}
use Rattle.pin_store.specs.declared.shape.Shape.{Shape}
use Rattle.pin_store.specs.declared.view.Sheet.{Sheet}
use Rattle.pin_store.specs.Layout.{block_words}
use Rattle.pin_store.specs.Calls.{sheet_of}
use Rattle.filter_state.specs.declared.action_line.ActionLine.{ActionLine}
use Rattle.filter_state.specs.declared.edit.Edit.{Edit}
use Rattle.filter_state.specs.declared.refusal.Done.{Done}
use Rattle.filter_state.specs.States.{State}
use Rattle.filter_state.specs.Lines.{IsLine}
use Rattle.filter_state.specs.Steps.{step}
use Rattle.hook_law.specs.Keeping.{Keeps}
use Rattle.hook_store_law.specs.Stated.{hook_meaning}
use Rattle.hook_store_law.specs.Blocks.{hook_codec}
use Rattle.hook_store_law.specs.OfEdits.Premises.{now, next, IsAccepted, IsOfFilters}
use Rattle.desk_pools.specs.declared.pools.IdlePlace.{IdlePlace}
use Rattle.desk_pools.specs.declared.pools.Pools.{Pools}
use Rattle.desk_pools.specs.Pools.{ArePools}
use Rattle.desk_actions.specs.declared.ledgers.ledger.Ledger.{Ledger}
use Rattle.desk_actions.specs.OfLedgers.Kept.{commits, base, IsWhole}
use Rattle.desk_actions.specs.Places.{Placed, AreHere}
use Rattle.desk_actions.specs.Effects.{AddsToSlot, KeepsBlocks}
use Rattle.desk_actions.specs.Kinds.{IsMaking, IsChanging}
use Rattle.desk_masks.specs.declared.hook_tables.HookTables.{HookTables}
use Rattle.desk_masks.specs.Masks.{HasMasks}
use Rattle.desk_masks.specs.Tables.{HasTables}
use Rattle.desk_parts.specs.declared.parts.Parts.{Parts}
use Rattle.desk_parts.specs.Desk.{shape_of, hook_shape, cells, AreSized, IsDesk}
use Rattle.desk_parts.specs.OfPlainEdits.Kinds.{IsOfQdisc}
use Rattle.desk_masks.proofs.Blocks.{named_low}
use Rattle.desk_parts.proofs.OfPlainEdits.Aside.{IsAsideRoot, aside_tables, aside_masks}

-- ---- edits that touch no filter
pub making_plain : (s : State) (line : ActionLine) (y : Edit) → IsMaking s line y → IsOfFilters y → ⊥
making_plain s line y (inl same) is = subst IsOfFilters same is
making_plain s line y (inr both) is = subst IsOfFilters both.0 is

pub changing_plain : (s : State) (line : ActionLine) (y : Edit) → IsChanging s line y → IsOfFilters y → ⊥
changing_plain s line y both is = subst IsOfFilters both.0 is

pub qdisc_plain : (y : Edit) → IsOfQdisc y → IsOfFilters y → ⊥
qdisc_plain y (inl same) is = subst IsOfFilters same is
qdisc_plain y (inr same) is = subst IsOfFilters same is

-- ---- what stays of pools and of words
pub with_same_actions : (old now : Pools) → now ≡ record old { blocks = now.blocks } → now ≡ record old { blocks = now.blocks; actions = now.actions }
with_same_actions old now rest = rest ∙ ap (λ q. record old { blocks = now.blocks; actions = q }) (sym (ap (λ (p : Pools). p.actions) rest))

module _ (old now : Pools) (rest : now ≡ record old { blocks = now.blocks; actions = now.actions }) where
  pub still_sized : now.blocks.size ≡ old.blocks.size → now.actions.size ≡ old.actions.size → AreSized old → AreSized now
  still_sized blocks actions sized =
      (blocks ∙ sized.0, ap (λ (q : Pools). q.rows.size) rest ∙ sized.1, ap (λ (q : Pools). q.masks.size) rest ∙ sized.2, actions ∙ sized.3)

  pub same_ingress : now.ingress ≡ old.ingress
  same_ingress = ap (λ (q : Pools). q.ingress) rest

  pub same_egress : now.egress ≡ old.egress
  same_egress = ap (λ (q : Pools). q.egress) rest

pub same_words : (shape : Shape) (h : List (Commit Edit)) (old now : Sheet) → now ≡ old → KeepsBlocks shape h old now
same_words shape h old now same root blk has less = ap (λ (s : Sheet). block_words shape s.cells blk) same

-- ---- one commit more, to a root aside
pub record AddsAside (h k : List (Commit Edit)) (y : Edit) : Type 0 where
  pub commit : Commit Edit
  pub number : ℕ
  pub seen : k ≡ h ++ commit ∷ []
  pub carries : commit.edit ≡ Some (number, y)
  pub aside : IsAsideRoot commit.root

pub to_slot : (h k : List (Commit Edit)) (number : ℕ) (y : Edit) → AddsToSlot h k number y → AddsAside h k y
to_slot h k number y adds = record {
  commit = adds.commit;
  number = number;
  seen = adds.seen;
  carries = adds.carries;
  aside = inr (let root = adds.root in omega (arith, root), let root = adds.root in let small = adds.small in omega (arith, root, small));
}

-- what an edit makes of the parts of a desk that it changes
pub record Follows (old : Parts) (ledger : Ledger) (pools : Pools) (placed : Placed) (y : Edit) (done : Done) : Type 0 where
  pub line : IsLine y
  pub plain : IsOfFilters y → ⊥
  pub steps : step (now (commits old.ledger)) y ≡ Ok (next (commits old.ledger) y, done)
  pub adds : AddsAside (commits old.ledger) (commits ledger) y
  pub shaped : shape_of ledger.writer.place ≡ hook_shape
  pub same_base : base ledger ≡ base old.ledger
  pub words : KeepsBlocks hook_shape (commits old.ledger) (sheet_of old.ledger.writer.place) (sheet_of ledger.writer.place)
  pub whole : IsWhole ledger
  pub pools_are : ArePools pools (commits ledger) (base ledger)
  pub sized : AreSized pools
  pub ingress : pools.ingress ≡ old.pools.ingress
  pub egress : pools.egress ≡ old.pools.egress
  pub actions : AreHere placed (commits ledger)

module _ (old : Parts) (ledger : Ledger) (pools : Pools) (placed : Placed) (y : Edit) (done : Done) (d : IsDesk old) (f : Follows old ledger pools placed y done) where
  abbrev h : List (Commit Edit)
  h = commits old.ledger

  abbrev c : Commit Edit
  c = f.adds.commit

  accepted : IsAccepted h (base old.ledger) y (next h y) done
  accepted = record { keeps = d.whole.kept.keeps.law; low = d.whole.kept.low; line = f.line; steps = f.steps }

  keeps : Keeps hook_meaning hook_codec (h ++ c ∷ []) (base old.ledger)
  keeps = subst (Keeps hook_meaning hook_codec (h ++ c ∷ [])) f.same_base
      (subst (λ (k : List (Commit Edit)). Keeps hook_meaning hook_codec k (base ledger)) f.adds.seen f.whole.kept.keeps.law)

  tables : (hook : Hook) (kept : HookTables) → HasTables hook kept h → HasTables hook kept (commits ledger)
  tables hook kept has = subst (HasTables hook kept) (sym f.adds.seen)
      (aside_tables h (base old.ledger) c y f.adds.number (next h y) done accepted f.plain f.adds.carries f.adds.aside hook kept has)

  masks : HasMasks old.masks hook_shape (cells ledger) (commits ledger)
  masks = subst (HasMasks old.masks hook_shape (cells ledger)) (sym f.adds.seen)
      (aside_masks h (base old.ledger) c y f.adds.number (next h y) done accepted f.plain f.adds.carries f.adds.aside old.masks hook_shape (cells old.ledger) (cells ledger) keeps d.masks
      (λ root blk has. f.words root blk has (named_low old.pools h (base old.ledger) root blk d.pools has)))

  pub desk_follows : IsDesk (record old { ledger = ledger; pools = pools; actions = placed })
  desk_follows = record {
    shaped = f.shaped;
    whole = f.whole;
    pools = f.pools_are;
    sized = f.sized;
    actions = f.actions;
    masks = masks;
    ingress = tables Ingress old.ingress d.ingress;
    egress = tables Egress old.egress d.egress;
    idle_ingress = ap (λ (p : IdlePlace). p.place) f.ingress ∙ d.idle_ingress;
    idle_egress = ap (λ (p : IdlePlace). p.place) f.egress ∙ d.idle_egress;
  }
