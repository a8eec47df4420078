use Rattle.std.proofs.Common.{◌≡◌, ◌∙◌, ◌-◌, ◌++◌, true, false, Some, None, take, length, refl, sym, arith}
use Rattle.std.specs.Prelude.{codes}
use Rattle.std.proofs.lemmas.Bool.Decides.{Decides-eqb}
use Rattle.std.proofs.lemmas.Slice.Eq.{strip_prefix_is, ends_is}
use Rattle.run_report.specs.PacketTexts.{points_text}
use Rattle.report_check.proofs.OfReading.Shown.{shown_between, begins_not, ends_not}
use Rattle.report_check.proofs.reading.shown.shows.Goals as goal

pub returns-in_default-clause-no : goal.returns-in_default-clause-no
returns-in_default-clause-no c = λ is it.
    let points = c.args.points.now in
    let front = c.as_slice.result.now in
    let front_is = c.as_slice.ensures.value ∙ c.in_ok-put_front.ensures in
    begins_not c.args.line.now c.args.number c.args.worker points front (points_text points ++ codes "\n") front_is refl (strip_prefix_is Decides-eqb c.args.line.now front None c.in_default.ensures.cases) it

pub returns-clause-yes : goal.returns-clause-yes
returns-clause-yes c = λ is.
    let yes : c.ends_with.result ≡ true = cc is in
    let points = c.args.points.now in
    let front = c.as_slice.result.now in
    let back = c.as_slice-2.result.now in
    let rest = c.in-Some.rest.now in
    let front_is = c.as_slice.ensures.value ∙ c.in_ok-put_front.ensures in
    let back_is = c.as_slice-2.ensures.value ∙ c.in_ok-put_back.ensures in
    let begins = strip_prefix_is Decides-eqb c.args.line.now front (Some c.in-Some.rest) c.in-Some.ensures.cases in
    shown_between c.args.line.now c.args.number c.args.worker points front back front_is back_is rest (take (length rest - length back) rest) (omega arith) c.requires begins
    ((ends_is Decides-eqb rest back c.ends_with.result c.ends_with.ensures.value).0 yes)

pub returns-clause-no : goal.returns-clause-no
returns-clause-no c = λ is it.
    let no : c.ends_with.result ≡ false = cc is in
    let points = c.args.points.now in
    let front = c.as_slice.result.now in
    let back = c.as_slice-2.result.now in
    let rest = c.in-Some.rest.now in
    let front_is = c.as_slice.ensures.value ∙ c.in_ok-put_front.ensures in
    let back_is = c.as_slice-2.ensures.value ∙ c.in_ok-put_back.ensures in
    let begins = strip_prefix_is Decides-eqb c.args.line.now front (Some c.in-Some.rest) c.in-Some.ensures.cases in
    ends_not c.args.line.now c.args.number c.args.worker points front back front_is back_is rest begins
    (λ middle ends. cc (sym no ∙ (ends_is Decides-eqb rest back c.ends_with.result c.ends_with.ensures.value).1 middle ends)) it
