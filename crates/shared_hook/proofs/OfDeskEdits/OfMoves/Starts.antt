-- Masks begin to be laid once the lists have gone ahead, and what stood stands meanwhile.
use Rattle.std.proofs.Common.{◌≡◌, ◌∙◌, ℕ, zero, suc, ◌<◌, List, [], refl, sym, ap, subst, arith}
use mathlib.Core.List.{append-nil}
use Rattle.tc_base.specs.declared.hook.Hook.{Hook}
use Rattle.tc_base.specs.declared.hook.Hook.TheVariants as hooks
use Rattle.visit_room.specs.declared.names.MaskName.{MaskName}
use Rattle.store_history.specs.declared.history.Commit.{Commit}
use Rattle.store_history.specs.declared.history.Link.{Link}
use Rattle.store_history.specs.History.{root_of}
use Rattle.store_history.specs.declared.places.TheConstants.{MASK_SLOTS}
use Rattle.filter_state.specs.declared.edit.Edit.{Edit}
use Rattle.filter_state.specs.declared.refusal.Done.{Done}
use Rattle.mask_table.specs.declared.mirrors.mirror.KeptMask.{KeptMask}
use Rattle.mask_writer.proofs.Standing.{one_mask}
use Rattle.miniq_pair.specs.Heads.{hook_number}
use Rattle.hook_law.specs.Places as places
use Rattle.hook_law.specs.Standing.{IsIn, IsMaskAt, Names}
use Rattle.hook_store_law.specs.Blocks.{hook_codec}
use Rattle.hook_store_law.specs.OfEdits.Premises.{now, next}
use Rattle.root_pool_laws.proofs.Apart.{in_left}
use Rattle.desk_heads.specs.OfHeadCommits.Built.{IsBuilt}
use Rattle.desk_actions.specs.OfLedgers.Kept.{commits, base}
use Rattle.desk_masks.specs.declared.hook_tables.HookTables.{HookTables}
use Rattle.desk_masks.specs.Tables.{HasTables}
use Rattle.desk_needs.specs.Live.{count_of}
use Rattle.desk_parts.specs.declared.parts.Parts.{Parts}
use Rattle.desk_parts.specs.Desk.{hook_shape, cells}
use Rattle.desk_masks.proofs.OfResizes.Counting.{count_blocks}
use Rattle.desk_heads.proofs.OfMoves.Done.{begins_empty}
use Rattle.shared_hook.specs.OfDeskEdits.Ahead.{IsAhead}
use Rattle.shared_hook.proofs.OfDeskEdits.Begun.{counted}
use Rattle.shared_hook.proofs.OfDeskEdits.Desked.{accepted, actions_handed}
use Rattle.shared_hook.specs.OfDeskEdits.OfMoves.Raises.{HaveTheirBlocks, IsRaising}

pub none_built : (m s : ℕ) → IsBuilt [] m s → ⊥
none_built m s x = let e = x.there in cc e

module _ (parts : Parts) (y : Edit) (done : Done) (ahead : IsAhead parts y done) where
  abbrev h : List (Commit Edit)
  h = commits parts.ledger

  slot_low : (s : ℕ) → IsIn s parts.pools.masks.free → s < MASK_SLOTS
  slot_low s at = let k = in_left parts.pools.masks.free parts.pools.masks.left s at in ahead.has.pools.masks.small k.0 s k.1

  their_blocks : HaveTheirBlocks parts.masks h
  their_blocks m s kept at stands =
      let it = ahead.has.masks.has m s at in
      let serial : kept.mask.serial ≡ m = sym (ap (λ (k : KeptMask). k.mask.serial) (one_mask parts.masks s it.kept kept it.stands stands)) ∙ it.serial in
      count_blocks h parts.masks hook_shape (cells parts.ledger) ahead.has.masks s kept stands ∙ (counted (now h) kept.mask.serial ∙ ap (count_of (now h)) serial)

  pub begins : IsRaising parts parts y []
  begins = record {
    aside = record { more = []; seen = sym (append-nil h); aside = λ place c e. absurd (cc e) };
    journal = refl;
    sheet = record { epoch = refl; starts = refl; quiet = refl; notes = refl; made = refl };
    shaped = ahead.has.shaped;
    lawful = ahead.has.kept.keeps;
    point_is = ahead.has.kept.point_is;
    ready = record { state = next h y; done = done; accepted = accepted parts y done ahead; made = ahead.made };
    rest = ahead.rest;
    spells = ahead.spells;
    recent = ahead.recent;
    early = record {
      slots = λ s at. ahead.early (places.mask_root s) (λ slot less same. let low = slot_low s at in omega (arith, low, same));
      rows = λ row place at less. ahead.early (places.bucket_root row place) (λ slot small same. omega (arith, small, same));
    };
    pools = ahead.has.pools;
    sized = ahead.has.sized;
    holds = begins_empty parts.masks hook_shape (cells parts.ledger) h (base parts.ledger) y ahead.has.masks;
    handed = record {
      slots = λ m s x at. none_built m s x;
      rows = λ m s row kept x stands own at. none_built m s x;
    };
    actions = actions_handed parts y done ahead;
    here = ahead.actions;
    blocks = their_blocks;
    tables = λ hook kept has. has;
    stays = refl;
  }

  -- ---- a mask that stood at its slot meanwhile does so still
  module _ (one two : Parts) (built more : List MaskName) (r1 : IsRaising parts one y built) (r2 : IsRaising parts two y more) where
    pub at_between : (m s : ℕ) → IsMaskAt hook_codec (commits one.ledger) m s → IsMaskAt hook_codec (commits two.ledger) m s
    at_between m s at = record { hook = at.hook; one = at.one; small = at.small; there = names at.hook at.one at.there }
      where
        chains : (hook : Hook) (kept : HookTables) → HasTables hook kept h → (root_of (commits one.ledger) (places.head_root (hook_number hook))).chain ≡ (root_of (commits two.ledger) (places.head_root (hook_number hook))).chain
        chains hook kept has = let first = r1.tables hook kept has in let second = r2.tables hook kept has in first.chain ∙ sym second.chain

        names : (n : ℕ) → n < 2 → Names hook_codec (root_of (commits one.ledger) (places.head_root n)).chain m s → Names hook_codec (root_of (commits two.ledger) (places.head_root n)).chain m s
        names zero less in_ = subst (λ (ls : List Link). Names hook_codec ls m s) (chains hooks.Ingress parts.ingress ahead.has.ingress) in_
        names (suc zero) less in_ = subst (λ (ls : List Link). Names hook_codec ls m s) (chains hooks.Egress parts.egress ahead.has.egress) in_
        names (suc (suc n)) less in_ = absurd (omega (arith, less))

  pub still_at : (raised : Parts) (built : List MaskName) → IsRaising parts raised y built → (m s : ℕ) → IsMaskAt hook_codec h m s → IsMaskAt hook_codec (commits raised.ledger) m s
  still_at raised built r = at_between parts raised [] built begins r
