-- More room in the lists changes nothing of a desk; and what is known of an edit that was made ready.
use Rattle.std.proofs.Common.{◌≡◌, Ok, Err, refl, sym, subst}
use Rattle.filter_state.specs.declared.edit.Edit.{Edit}
use Rattle.filter_state.specs.declared.refusal.Done.{Done}
use Rattle.filter_state.specs.declared.refusal.Refusal.{Refusal}
use Rattle.filter_state.specs.declared.refusal.Refusal.TheVariants as refusals
use Rattle.filter_state.specs.States.{State}
use Rattle.filter_state.specs.Order.{SameState}
use Rattle.filter_state.specs.Lines.{IsLine}
use Rattle.filter_state.specs.Steps.{Stepped, step}
use Rattle.filter_state.specs.Journals.{state_after}
use Rattle.filter_lists.specs.Edits.{Stays, IsPrepared}
use Rattle.hook_lists.specs.declared.kept.Kept.{Kept}
use Rattle.hook_store_law.specs.OfEdits.Premises.{now, next, IsAccepted}
use Rattle.desk_actions.specs.OfLedgers.Kept.{commits, base}
use Rattle.desk_parts.specs.declared.parts.Parts.{Parts}
use Rattle.desk_parts.specs.Desk.{IsDesk}
use Rattle.shared_hook.specs.Applied.{IsCause}
use Rattle.tc_base.specs.Memory.{no_memory}

pub roomier_desk : (parts : Parts) (lists : Kept) → IsDesk parts → Stays parts.ledger.lists lists → IsDesk (record parts { ledger = record parts.ledger { lists = lists } })
roomier_desk parts lists d stays = record {
  shaped = d.shaped;
  whole = record { kept = d.whole.kept; rest = d.whole.rest; spells = subst (λ (s : State). SameState s (now (commits parts.ledger))) (sym stays) d.whole.spells };
  pools = d.pools;
  sized = d.sized;
  actions = d.actions;
  masks = d.masks;
  ingress = d.ingress;
  egress = d.egress;
  idle_ingress = d.idle_ingress;
  idle_egress = d.idle_egress;
}

-- what was made ready is accepted
accepted_step : {P : Type 0} (p : P) (s : State) (r : Stepped) → IsPrepared {P = P} (Ok p) r → (done : Done) × (r ≡ Ok (state_after s r, done))
accepted_step p s (Ok (t, done)) it = (done, refl)
accepted_step p s (Err refusal) it = absurd it

pub accepted_of : {P : Type 0} (p : P) (parts : Parts) (y : Edit) → IsDesk parts → IsLine y → IsPrepared {P = P} (Ok p) (step (now (commits parts.ledger)) y)
    → (done : Done) × IsAccepted (commits parts.ledger) (base parts.ledger) y (next (commits parts.ledger) y) done
accepted_of p parts y d line it = let a = accepted_step p (now (commits parts.ledger)) (step (now (commits parts.ledger)) y) it in
    (a.0, record { keeps = d.whole.kept.keeps.law; low = d.whole.kept.low; line = line; steps = a.1 })

pub cause_of : (P : Type 0) (refusal : Refusal) (r : Stepped) → IsPrepared {P = P} (Err refusal) r → IsCause refusal r
cause_of P refusal (Ok next_) it = it
cause_of P refusal (Err said) it = it

pub wants_memory : {P : Type 0} (p : P) (refusal : Refusal) (r : Stepped) → IsPrepared {P = P} (Ok p) r → refusal ≡ refusals.NoMemory no_memory → IsCause refusal r
wants_memory p refusal (Ok next_) it none = none
wants_memory p refusal (Err said) it none = absurd it
