use Rattle.std.proofs.Common.{◌≡◌, ◌∙◌, ◌+◌, ◌<◌, ◌≤◌, ◌++◌, ℕ, List, length, sym, ap, ap₂, subst, append_assoc, arith}
use Rattle.std.specs.Prelude.{IfSome, Option}
use Rattle.std.specs.List.{slice_get}
use Rattle.walk_texts.specs.Texts.{joined}
use Rattle.walk_fate_laws.specs.declared.kinds.When.{When}
use Rattle.fate_search.specs.Found.{Found, all_found}
use Rattle.change_fates.specs.Told.{told_in, whens_in, fate_lines}
use Rattle.change_fates.specs.Views.{fate_seen}
use Rattle.change_fates.specs.Paging.{IsOnPage}
use Rattle.change_fates.proofs.Viewed.{of_some}
use Rattle.change_fates.proofs.Paging.{on_front, on_more}
use Rattle.change_fates.proofs.Since.{since}
use Rattle.change_fates.proofs.FateLines.{lines_from, one_line, no_line, as_many, IsNext, is_next, next_page}
use Rattle.change_fates.proofs.fates.Room.write_fates.Goals as goal

pub loop-place-init : goal.loop-place-init
loop-place-init g c = record { going = λ first whole rest at. at; later = omega arith }

pub when-when-requires : goal.when-when-requires
when-when-requires g c =
    let many = ap length c.requires.times ∙ as_many c.args.known.now c.args.number c.args.bytes.now ∙ sym (ap length c.requires.found) in
    let test = c.loop-place-test.true in
    let len = c.len-place-end.ensures in
    omega (arith, many, test, len)

pub put_fate-requires-clause-since : goal.put_fate-requires-clause-since
put_fate-requires-clause-since g c =
    let l = c.loop-place in
    let bytes = c.args.bytes.now in
    let known = c.args.known.now in
    let when = subst (λ (ws : List When). IfSome (slice_get ws l.place) (λ w. c.when-when.result ≡ w)) c.requires.times c.when-when.ensures in
    let found = subst (λ (fs : List Found). IfSome (slice_get fs l.place) (λ f. fate_seen c.fate_at-fate.result ≡ f)) c.requires.found c.fate_at-fate.ensures in
    let test = c.loop-place-test.true in
    let len = c.len-place-end.ensures in
    let many = ap length c.requires.found in
    let next = is_next known c.args.number bytes l.place c.when-when.result (fate_seen c.fate_at-fate.result) (omega (arith, test, len, many)) when found in
    since known bytes l.place (fate_seen c.fate_at-fate.result) next.there

pub returns-in_err-turn-clause-up_to : goal.returns-in_err-turn-clause-up_to
returns-in_err-turn-clause-up_to g c = λ first whole rest at.
    c.turn.ensures.up_to first whole _ (c.loop-place.invariant.going first whole rest at)

pub returns-in_err-put_fate-clause-up_to : goal.returns-in_err-put_fate-clause-up_to
returns-in_err-put_fate-clause-up_to g c = λ first whole rest at.
    on_front first _ whole _ _ (c.in_ok-turn.ensures.on first whole _ (c.loop-place.invariant.going first whole rest at))

pub loop-place-preserved : goal.loop-place-preserved
loop-place-preserved g c =
    let l = c.loop-place in
    let bytes = c.args.bytes.now in
    let known = c.args.known.now in
    let when = subst (λ (ws : List When). IfSome (slice_get ws l.place) (λ w. c.when-when.result ≡ w)) c.requires.times c.when-when.ensures in
    let found = subst (λ (fs : List Found). IfSome (slice_get fs l.place) (λ f. fate_seen c.fate_at-fate.result ≡ f)) c.requires.found c.fate_at-fate.ensures in
    let test = c.loop-place-test.true in
    let len = c.len-place-end.ensures in
    let many = ap length c.requires.found in
    let next = is_next known c.args.number bytes l.place c.when-when.result (fate_seen c.fate_at-fate.result) (omega (arith, test, len, many)) when found in
    record {
      going = λ first whole rest at.
          next_page known c.args.number bytes l.place c.when-when.result (fate_seen c.fate_at-fate.result) first _ whole _ _ rest next c.in_ok-put_fate.ensures
          (c.in_ok-turn.ensures.on first whole _ (l.invariant.going first whole rest at));
      later = omega (arith, c.turn.ensures.counts.later, l.invariant.later);
    }

pub returns-clause-on : goal.returns-clause-on
returns-clause-on g c = λ first whole rest at.
    let l = c.loop-place in
    let over = c.loop-place-test.false in
    let len = c.len-place-end.ensures in
    let many = ap length c.requires.found in
    subst (λ (xs : List ℕ). IsOnPage first (g.O.Sink.written l.out) whole l.self.page (xs ++ rest))
    (no_line c.args.known.now c.args.number c.args.bytes.now (whens_in c.args.known.now c.args.bytes.now) (all_found (told_in c.args.known.now c.args.bytes.now)) l.place (omega (arith, over, len, many)))
    (l.invariant.going first whole rest at)

pub returns-clause-up_to : goal.returns-clause-up_to
returns-clause-up_to g c = λ first whole rest at. on_front first _ whole _ _ (c.loop-place.invariant.going first whole rest at)
