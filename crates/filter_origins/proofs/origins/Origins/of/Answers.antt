use Rattle.std.proofs.Common.{◌≡◌, ◌∙◌, suc, ◌+◌, ◌<◌, length, Some, sym, ap, subst, arith}
use Rattle.std.proofs.lemmas.Option.{slice_get-get_or}
use Rattle.filter_origins.specs.Entries.{entries_of}
use Rattle.filter_origins.specs.Noted.{Follows}
use Rattle.filter_origins.proofs.Whole.{entry_is, entries_long, begins, whole}
use Rattle.filter_origins.proofs.origins.Origins.of.Goals as goal

pub loop-place-init : goal.loop-place-init
loop-place-init c = record {
  most = omega arith;
  follows = begins c.none-origins.result c.new-lists.result c.args.places.now c.args.journal.now c.none-origins.ensures.slots c.none-origins.ensures.actions c.none-origins.ensures.brought c.new-lists.ensures
      c.requires.lawful c.requires.places c.requires.few;
}

pub follow-requires : goal.follow-requires
follow-requires c = let inv = c.loop-place.invariant in let i = c.loop-place.place in
    let within : i < length c.args.journal.now = omega (arith, c.loop-place-test.true) in
    let journal = slice_get-get_or c.args.journal.now i c.index-journal-place.result within ∙ ap Some (sym c.index-journal-place.is) in
    let places = slice_get-get_or c.args.places.now i (record { control = 0; line = 0 }) (omega (arith, within, c.requires.places)) in
    (entries_of c.args.places.now c.args.journal.now, i, inv.follows, record { number = omega arith; entry = entry_is c.args.places.now c.args.journal.now i _ c.index-journal-place.result places journal })

pub loop-place-preserved : goal.loop-place-preserved
loop-place-preserved c = let inv = c.loop-place.invariant in let i = c.loop-place.place in
    let within : i < length c.args.journal.now = omega (arith, c.loop-place-test.true) in
    let journal = slice_get-get_or c.args.journal.now i c.index-journal-place.result within ∙ ap Some (sym c.index-journal-place.is) in
    let places = slice_get-get_or c.args.places.now i (record { control = 0; line = 0 }) (omega (arith, within, c.requires.places)) in
    let more : suc i ≡ i + 1 = omega arith in
    record {
      most = omega (arith, within);
      follows = subst (λ n. Follows c.follow.new.self c.follow.new.lists (entries_of c.args.places.now c.args.journal.now) n) more (c.in_ok-follow.ensures (entries_of c.args.places.now c.args.journal.now) i inv.follows
          (record { number = omega arith; entry = entry_is c.args.places.now c.args.journal.now i _ c.index-journal-place.result places journal }));
    }

pub returns : goal.returns
returns c = let inv = c.loop-place.invariant in let most = inv.most in
    let long = entries_long c.args.places.now c.args.journal.now c.requires.places in
    let end : c.loop-place.place ≡ length (entries_of c.args.places.now c.args.journal.now) = omega (arith, most, long, c.loop-place-test.false) in
    whole (entries_of c.args.places.now c.args.journal.now) c.loop-place.origins c.loop-place.lists (subst (λ n. Follows c.loop-place.origins c.loop-place.lists (entries_of c.args.places.now c.args.journal.now) n) end inv.follows)
