use Rattle.std.proofs.Common.{rules, ◌∙◌, List, [], ◌∷◌, length, sym, ap, subst, arith}
use Rattle.std.proofs.lemmas.List.{length_push}
use Rattle.filter_state.specs.Sound.{Each}
use Rattle.filter_state.proofs.Pairs.{each_append}
use Rattle.batch_trace.specs.Kept.{IsKept}
use Rattle.batch_trace.specs.declared.kept_trace.KeptTrace.{KeptTrace}
use Rattle.batch_trace.proofs.telling.make_places.Goals as goal

pub loop-init : goal.loop-init
loop-init c = record {
  many = search rules;
  kept = λ entries hook. subst (Each (IsKept entries hook)) (sym c.new-kept.ensures.items) tt;
}

pub loop-preserved : goal.loop-preserved
loop-preserved c =
    let before = c.loop.invariant in
    let is = c.in_ok-push.ensures.items in
    record {
      many =
          let long = ap (λ (kept : List KeptTrace). length kept) is ∙ length_push c.loop.kept.items c.new.result in
          let few = before.many in
          omega (arith, long, few);
      kept = λ entries hook. subst (Each (IsKept entries hook)) (sym is)
          (each_append (IsKept entries hook) c.loop.kept.items (c.new.result ∷ []) (before.kept entries hook) ((λ kept. absurd (cc (sym kept ∙ c.new.ensures))), tt));
    }
