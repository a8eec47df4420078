use Rattle.std.proofs.Common.{◌∙◌, ap, arith}
use Rattle.fate_search.specs.Found.{all_found}
use Rattle.change_fates.proofs.Found.{asked_with, asked_is, told_is, more_is, ways_is, are_answered, whens_is, kind_is}
use Rattle.change_fates.proofs.finding.Finding.find.Goals as goal

pub tell_times-requires-clause-order : goal.tell_times-requires-clause-order
tell_times-requires-clause-order c =
    let within = c.before-before.ensures.within in
    let after = c.after-after.ensures in
    omega (arith, within, after)

pub tell_times-requires-clause-ends : goal.tell_times-requires-clause-ends
tell_times-requires-clause-ends c =
    let change = c.args.known.now in
    let is = asked_is change c.answers-answers.result c.hook-hook.result c.before-before.result c.after-after.result c.answers-answers.ensures.is c.hook-hook.ensures c.before-before.ensures.is c.after-after.ensures in
    let within = c.before-before.ensures.within in
    let at = c.before-before.ensures.is in
    are_answered change c.args.bytes.now (asked_with c.answers-answers.result c.hook-hook.result c.before-before.result c.after-after.result) is c.answers-answers.ensures.lawful (omega (arith, within, at))

pub returns-clause-fates : goal.returns-clause-fates
returns-clause-fates c =
    let change = c.args.known.now in
    let is = asked_is change c.answers-answers.result c.hook-hook.result c.before-before.result c.after-after.result c.answers-answers.ensures.is c.hook-hook.ensures c.before-before.ensures.is c.after-after.ensures in
    c.in_ok-looked.ensures.fates ∙ ap all_found (told_is change c.args.bytes.now _ is)

pub returns-clause-times : goal.returns-clause-times
returns-clause-times c =
    let change = c.args.known.now in
    let is = asked_is change c.answers-answers.result c.hook-hook.result c.before-before.result c.after-after.result c.answers-answers.ensures.is c.hook-hook.ensures c.before-before.ensures.is c.after-after.ensures in
    let within = c.before-before.ensures.within in
    let at = c.before-before.ensures.is in
    c.in_ok-kind.ensures.whens ∙ whens_is change c.args.bytes.now _ is c.answers-answers.ensures.lawful (omega (arith, within, at))

pub returns-clause-kind : goal.returns-clause-kind
returns-clause-kind c =
    let change = c.args.known.now in
    let is = asked_is change c.answers-answers.result c.hook-hook.result c.before-before.result c.after-after.result c.answers-answers.ensures.is c.hook-hook.ensures c.before-before.ensures.is c.after-after.ensures in
    let within = c.before-before.ensures.within in
    let at = c.before-before.ensures.is in
    c.in_ok-kind.ensures.kind ∙ kind_is change c.args.bytes.now _ is c.answers-answers.ensures.lawful (omega (arith, within, at))

pub returns-clause-ways : goal.returns-clause-ways
returns-clause-ways c =
    let change = c.args.known.now in
    let is = asked_is change c.answers-answers.result c.hook-hook.result c.before-before.result c.after-after.result c.answers-answers.ensures.is c.hook-hook.ensures c.before-before.ensures.is c.after-after.ensures in
    c.in_ok-looked.ensures.ways ∙ ways_is change c.args.bytes.now _ is

pub returns-clause-more : goal.returns-clause-more
returns-clause-more c =
    let change = c.args.known.now in
    let is = asked_is change c.answers-answers.result c.hook-hook.result c.before-before.result c.after-after.result c.answers-answers.ensures.is c.hook-hook.ensures c.before-before.ensures.is c.after-after.ensures in
    c.in_ok-looked.ensures.more ∙ more_is change c.args.bytes.now _ is
