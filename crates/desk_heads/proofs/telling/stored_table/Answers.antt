use Rattle.std.proofs.Common.{◌≡◌, ◌∙◌, ℕ, List, length, slice_get, Some, sym, ap, subst, arith}
use Rattle.std.proofs.lemmas.List.{length-map}
use Rattle.filter_tables.specs.SeenMask.{plain_mask}
use Rattle.filter_tables.specs.Plain.{PlainMask}
use Rattle.head_laws.specs.Heads.{serials_of}
use Rattle.desk_heads.specs.Slots.{HasSlotIn}
use Rattle.desk_heads.proofs.Told.{serial_in, serials_slotted}
use Rattle.desk_heads.proofs.telling.stored_table.Goals as goal

pub slots_of-requires-clause-few : goal.slots_of-requires-clause-few
slots_of-requires-clause-few c = let few = c.requires.few in let same = ap length c.as_slice.ensures in let count = length-map c.as_slice.result.now plain_mask in omega (arith, few, same, count)

pub slots_of-requires-clause-known : goal.slots_of-requires-clause-known
slots_of-requires-clause-known c = subst (λ (ms : List PlainMask). (place serial : ℕ) → slice_get (serials_of ms) place ≡ Some serial → (slot : ℕ) × HasSlotIn c.args.old.now c.args.built.now serial slot) (sym c.as_slice.ensures) c.requires.known

pub returns-clause-stated : goal.returns-clause-stated
returns-clause-stated c = let masks = serials_slotted c.slots_of.result ∙ (c.slots_of.ensures.serials ∙ ap serials_of c.as_slice.ensures) in let table = c.args.table.now in
    let serial = c.number_of.ensures.same in λ t. record { serial = serial t; names = record { chain = table.chain; pref = table.pref; protocol = table.protocol }; masks = masks t }

pub returns-clause-numbers : goal.returns-clause-numbers
returns-clause-numbers c = let few = c.requires.few in
    let same = sym (length-map c.slots_of.result serial_in) ∙ (ap length c.slots_of.ensures.serials ∙ (ap (λ (ms : List PlainMask). length (serials_of ms)) c.as_slice.ensures ∙ length-map c.args.table.now.masks.masks (λ (m : PlainMask). m.serial))) in record {
      serial = c.number_of.ensures.fits;
      masks = c.slots_of.ensures.numbers;
      few = omega (arith, few, same);
    }
