use Rattle.std.proofs.Common.{◌∙◌, inr, refl, sym}
use Rattle.state_laws.proofs.Tests.{bytes_eq_true}
use Rattle.hook_store_law.specs.OfEdits.Premises.{now}
use Rattle.desk_actions.specs.OfLedgers.Kept.{commits}
use Rattle.desk_parts.proofs.OfWays.Looked.{sound, named_from, at_pref, is_not, is_so, differ, no_some}
use Rattle.desk_parts.proofs.ways.seeking.way_to_replace.Goals.{in_default-via-in-Some+in_default, in_default-via-in_default}
use Rattle.desk_parts.proofs.ways.seeking.way_to_replace.Goals as goal

pub returns-else-seen-clause-way : goal.returns-else-seen-clause-way
returns-else-seen-clause-way c =
    let line = c.args.line.now in
    let is = c.in-Some.ensures.some in
    record {
      line = line;
      row = is.row;
      replaces = record { is = refl; there = named_from (now (commits c.args.parts.now.ledger)) line c.in-Some-Some.pref c.in-Some-Some.handle c.in-Some-Some.is-0 c.in-Some-Some.is-1 ∙ is.there };
      on = refl;
      same_mask = bytes_eq_true is.row.mask line.mask.words (sym is.has_mask ∙ is_not c.in-Some.seen.has_mask c.if-not-seen.false);
      other_key = differ is.row.key line.key.words (sym is.has_key ∙ c.if-seen.false);
      mask = is.mask;
    }

pub returns-in_default-look_at-clause-way : goal.returns-in_default-look_at-clause-way
returns-in_default-look_at-clause-way c =
    let line = c.args.line.now in
    c.way_in.ensures.way _ (inr (refl, named_from (now (commits c.args.parts.now.ledger)) line c.in-Some-Some.pref c.in-Some-Some.handle c.in-Some-Some.is-0 c.in-Some-Some.is-1 ∙ c.in_default-look_at.ensures.none refl))

pub returns-then-seen-clause-way : goal.returns-then-seen-clause-way
returns-then-seen-clause-way c =
    let line = c.args.line.now in
    let is = c.in-Some.ensures.some in
    record {
      line = line;
      row = is.row;
      replaces = record { is = refl; there = named_from (now (commits c.args.parts.now.ledger)) line c.in-Some-Some.pref c.in-Some-Some.handle c.in-Some-Some.is-0 c.in-Some-Some.is-1 ∙ is.there };
      same_mask = bytes_eq_true is.row.mask line.mask.words (sym is.has_mask ∙ is_not c.in-Some.seen.has_mask c.if-not-seen.false);
      same_key = bytes_eq_true is.row.key line.key.words (sym is.has_key ∙ c.if-seen.true);
      at = is.mask.at;
      behind = c.later_than.ensures.behind is.row (record { hook = line.hook; chain = line.chain; pref = c.in-Some-Some.pref; found = is.there }) is.mask.at;
    }

pub unreachable-requires : goal.unreachable-requires
unreachable-requires c = elim c.in_default.branch [
  | in_default-via-in-Some+in_default w ↦ no_some c.args.line.now.handle w.in_default.is-1 c.requires.line.2
  | in_default-via-in_default w ↦ no_some c.args.line.now.pref w.in_default.is-0 c.requires.line.1
]

pub way_over-requires-clause-there : goal.way_over-requires-clause-there
way_over-requires-clause-there c =
    let line = c.args.line.now in
    let is = c.in-Some.ensures.some in (
      is.row,
      named_from (now (commits c.args.parts.now.ledger)) line c.in-Some-Some.pref c.in-Some-Some.handle c.in-Some-Some.is-0 c.in-Some-Some.is-1 ∙ is.there,
      at_pref (now (commits c.args.parts.now.ledger)) line.hook line.chain c.in-Some-Some.pref c.in-Some-Some.handle is.row (sound c.args.parts.now c.requires.desk) is.there,
      differ is.row.mask line.mask.words (sym is.has_mask ∙ is_so c.in-Some.seen.has_mask c.if-not-seen.true),
      is.mask,
    )
