use Rattle.std.proofs.Common.{◌≡◌, ◌-◌, suc, length, get_or, None, sym, ap, ◌∙◌, subst, arith}
use Rattle.std.specs.Option.{option_copied}
use Rattle.std.proofs.lemmas.List.{get_or_default, length-map}
use Rattle.flow_mask.specs.Masks.{each_and}
use Rattle.filter_index.specs.Places.{digest_in}
use Rattle.filter_index.specs.Sieves.{IsWithin}
use Rattle.filter_index.specs.declared.filter.Filter.{Filter}
use Rattle.filter_index.proofs.Covering.{holds_there}
use Rattle.filter_index.specs.Chains.{last_of, is_digest}
use Rattle.filter_index.proofs.LastOf.{last_le, last_again}
use Rattle.filter_index.proofs.Seeking.{NoneFrom, none_from_last, none_from_before, none_at_all, has_sought, found_at, if_found, if_not_found}
use Rattle.filter_index.proofs.filters.with_masked.Goals as goal
use Rattle.filter_index.proofs.filters.with_masked.Goals.{In-Some, In_default}

pub loop-at-init : goal.loop-at-init
loop-at-init c =
    let ds = c.args.chains.now.digests in
    let is = c.last-at.ensures in
    record {
      own = is ∙ sym (last_again (is_digest c.args.sought) ds (length ds)) ∙ ap (last_of (is_digest c.args.sought) ds) (sym is);
      below = omega (arith, is, last_le (is_digest c.args.sought) ds (length ds));
      none = none_from_last (each_and c.args.frame.now c.args.mask.now) c.args.slots.now ds c.requires.digests c.args.sought c.requires.sought c.last-at.result is;
    }

-- the slot that is looked at
slot_is : (c : In_default) → c.index-slots-slot.result ≡ get_or c.args.slots.now (c.loop-at.at - 1) None
slot_is c =
    let even = ap length c.requires.digests ∙ length-map c.args.slots.now digest_in in
    c.index-slots-slot.is ∙ get_or_default c.args.slots.now (c.loop-at.at - 1) c.index-slots-slot.result None (omega (arith, c.loop-at-test.true, c.loop-at.invariant.below, even))

found_slot : (c : In-Some) → get_or c.args.slots.now (c.loop-at.at - 1) None ≡ c.index-slots-slot.result
found_slot c =
    let even = ap length c.requires.digests ∙ length-map c.args.slots.now digest_in in
    get_or_default c.args.slots.now (c.loop-at.at - 1) None c.index-slots-slot.result (omega (arith, c.loop-at-test.true, c.loop-at.invariant.below, even)) ∙ sym c.index-slots-slot.is

pub if_masked-requires-clause-within : goal.if_masked-requires-clause-within
if_masked-requires-clause-within c = λ f there.
    let even = ap length c.requires.digests ∙ length-map c.args.slots.now digest_in in
    holds_there (λ (g : Filter). IsWithin c.args.mask.now g.key.words) c.args.slots.now (c.loop-at.at - 1) f c.requires.within
    (get_or_default c.args.slots.now (c.loop-at.at - 1) None c.index-slots-slot.result (omega (arith, c.loop-at-test.true, c.loop-at.invariant.below, even))
    ∙ sym c.index-slots-slot.is ∙ there)

pub returns-in-Some : goal.returns-in-Some
returns-in-Some c =
    let found = if_found (each_and c.args.frame.now c.args.mask.now) c.index-slots-slot.result c.in-Some.filter.now (ap option_copied (sym c.in-Some.is) ∙ c.if_masked.ensures) in
    found_at c.args.slots.now (each_and c.args.frame.now c.args.mask.now) (c.loop-at.at - 1) c.in-Some.filter.now c.requires.apart (found_slot c ∙ found.0) found.1

pub before-at-requires : goal.before-at-requires
before-at-requires c =
    let at = c.loop-at.at in
    let number : at ≡ suc (at - 1) = omega (arith, c.loop-at-test.true) in
    has_sought (each_and c.args.frame.now c.args.mask.now) c.args.slots.now c.args.chains.now.digests c.requires.digests c.args.sought c.requires.sought at (at - 1) number c.loop-at.invariant.own

pub loop-at-smaller : goal.loop-at-smaller
loop-at-smaller c = omega (arith, c.loop-at-test.true, c.before-at.ensures, last_le (is_digest c.args.sought) c.args.chains.now.digests (c.loop-at.at - 1))

pub loop-at-preserved : goal.loop-at-preserved
loop-at-preserved c =
    let ds = c.args.chains.now.digests in
    let at = c.loop-at.at in
    let is = c.before-at.ensures in
    let number : at ≡ suc (at - 1) = omega (arith, c.loop-at-test.true) in
    let here = (goal.at.loop-at-preserved c).In_default in
    record {
      own = is ∙ sym (last_again (is_digest c.args.sought) ds (at - 1)) ∙ ap (last_of (is_digest c.args.sought) ds) (sym is);
      below = omega (arith, is, last_le (is_digest c.args.sought) ds (at - 1), c.loop-at.invariant.below);
      none = none_from_before (each_and c.args.frame.now c.args.mask.now) c.args.slots.now ds c.requires.digests c.args.sought c.requires.sought at (at - 1) c.before-at.result number is
          c.loop-at.invariant.none
          (λ f there. if_not_found (each_and c.args.frame.now c.args.mask.now) c.index-slots-slot.result f (ap option_copied (sym c.in_default.is) ∙ c.if_masked.ensures) (slot_is here ∙ there));
    }

pub returns : goal.returns
returns c =
    none_at_all (each_and c.args.frame.now c.args.mask.now) c.args.slots.now (subst (NoneFrom (each_and c.args.frame.now c.args.mask.now) c.args.slots.now) (let zero_at : c.loop-at.at ≡ 0 = omega (arith, c.loop-at-test.false) in zero_at) c.loop-at.invariant.none)

pub if_masked-requires-clause-listed : goal.if_masked-requires-clause-listed
if_masked-requires-clause-listed c = c.requires.listed

pub bounds-slots-slot : goal.bounds-slots-slot
bounds-slots-slot c =
    let even = ap length c.requires.digests ∙ length-map c.args.slots.now digest_in in
    omega (arith, c.loop-at-test.true, c.loop-at.invariant.below, even)
