use Rattle.std.proofs.Common.{◌≡◌, ◌∙◌, ◌++◌, ◌∷◌, [], List, length, refl, ap, arith}
use Rattle.fate_search.specs.Found.{Found, kept_bytes, found_with}
use Rattle.fate_search.specs.Paths.{points_of}
use Rattle.fate_search.proofs.Keeping.{one_kept, found_there}
use Rattle.fate_search.proofs.fates.Fates.keep.Goals as goal

pub returns : goal.returns
returns c =
    let old = c.self.inside in let more = kept_bytes c.args.verdict c.bytes.result.now in
    let others = points_of c.args.path.now in
    let bytes_are : c.push_bytes.new.bytes.items ≡ old.bytes.items ++ more = c.in_ok-push_bytes.ensures.ok in
    let points_are : c.push_points.new.points.items ≡ old.points.items ++ others = c.in_ok-push_points.ensures.ok in
    let bytes_long = ap (λ (xs : List _). length xs) bytes_are in
    let points_long = ap (λ (xs : List _). length xs) points_are in
    one_kept old.bytes.items more c.push_bytes.new.bytes.items old.points.items others c.push_points.new.points.items
    old.kept.items c.push.new.self.items _ (found_with others c.args.verdict c.args.frame.now) c.self.invariant bytes_are
    points_are c.in_ok-push.ensures.items
    (found_there old.bytes.items more old.points.items others _ c.args.verdict c.args.frame.now refl
    (ap (λ (xs : List _). length xs) c.bytes-2.ensures.bytes) c.meta.ensures (omega arith) (omega (arith, bytes_long)) (omega arith)
    (omega (arith, points_long)) (ap (kept_bytes c.args.verdict) c.bytes.ensures.bytes))
    ∙ ap (λ (all : List Found). all ++ (found_with others c.args.verdict c.args.frame.now ∷ [])) c.self.view_is
