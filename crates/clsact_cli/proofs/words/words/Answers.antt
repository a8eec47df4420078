use Rattle.std.proofs.Common.{◌+◌, ◌∙◌, ℕ, List, [], ◌∷◌, length, inr, refl, ap, Option, String, subst, arith}
use Rattle.std.proofs.lemmas.List.{length-append}
use Rattle.std.proofs.lemmas.Result.{err_from_is_err_and}
use Rattle.std.specs.Prelude.{IfSome}
use Rattle.std.specs.declared.alloc.Global.{Global}
use Rattle.clsact_cli.specs.Arguments.{IsFound}
use Rattle.clsact_cli.proofs.AllWords.{one_more, strange_among, no_place_left}
use Rattle.clsact_cli.proofs.words.words.Goals as goal

pub loop-place-preserved : goal.loop-place-preserved
loop-place-preserved g c = record {
  counted = ap (λ (n : ℕ). n + 1) (ap length c.in_ok-push-in-Some.ensures.items ∙ length-append c.loop-place.words.items (c.in-Some.word ∷ []))
      ∙ ap (λ (n : ℕ). n + 1) c.loop-place.invariant.counted;
  all = one_more (g.A.Arguments.told c.args.arguments.now) c.loop-place.words.items c.push.new.self.items c.in-Some.word
      c.loop-place.place c.in_ok-push-in-Some.ensures.items c.loop-place.invariant.all
      (subst (λ (found : Option (String Global)). IfSome (g.A.Arguments.told c.args.arguments.now)
      (λ (words : List (List ℕ)). IsFound words c.loop-place.place found)) c.in-Some.is c.in_ok-word.ensures.found);
}

pub returns-in_err-word-clause-cause : goal.returns-in_err-word-clause-cause
returns-in_err-word-clause-cause g c =
    let p = err_from_is_err_and c.from_residual.result c.from_residual.ensures.1 in
    rw (p.1, p.2) (strange_among (g.A.Arguments.told c.args.arguments.now) c.loop-place.place c.in_err-word.field-0.0 c.in_err-word.ensures.cause)

pub returns-clause-cause : goal.returns-clause-cause
returns-clause-cause g c =
    inr (
      refl,
      no_place_left (g.A.Arguments.told c.args.arguments.now) c.loop-place.words.items c.loop-place.place (omega (arith, c.loop-place-test.false))
          c.loop-place.invariant.counted c.loop-place.invariant.all,
    )
