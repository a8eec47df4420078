use Rattle.std.proofs.Common.{◌≡◌, length, get_or, Some, None, refl, ap, ◌∙◌, arith}
use Rattle.std.proofs.lemmas.List.{get_or_default}
use Rattle.filter_index.specs.Chains.{last_of, is_digest, chain_of, is_on}
use Rattle.filter_index.proofs.Walking.{AtSlot, at_before, before_is, same_last, there_within}
use Rattle.filter_index.proofs.chains.Chains.before.Goals as goal
use Rattle.filter_index.proofs.chains.Chains.before.Goals.{After-index}

there : (c : After-index) → get_or c.self.inside.digests.items c.args.slot None ≡ Some c.args.digest
there c = ap (λ v. get_or v.digests c.args.slot None) c.self.view_is ∙ c.requires

from_is : (c : After-index) →
    c.index.result.now ≡ last_of (is_on (length c.self.inside.heads.items) (chain_of (length c.self.inside.heads.items) c.args.digest)) c.self.inside.digests.items c.args.slot
from_is c =
    let inside = c.self.inside in
    let size = length inside.heads.items in
    let within = there_within inside.digests.items c.args.slot c.args.digest (there c) in
    before_is size inside.heads.items inside.digests.items inside.nexts.items c.self.invariant (chain_of size c.args.digest) c.args.digest c.args.slot c.index.result.now
    within (there c) refl
    (c.index.ensures ∙ get_or_default inside.nexts.items c.args.slot c.index.result.now 0 (omega (arith, within, c.self.invariant.even)))

here : (c : After-index) → AtSlot (length c.self.inside.heads.items) (chain_of (length c.self.inside.heads.items) c.args.digest) c.self.inside.digests.items c.index.result.now
here c =
    let inside = c.self.inside in
    let size = length inside.heads.items in
    at_before size inside.heads.items inside.digests.items inside.nexts.items c.self.invariant (chain_of size c.args.digest) c.args.slot c.index.result.now
    (there_within inside.digests.items c.args.slot c.args.digest (there c)) (from_is c)

pub skip-requires-clause-there : goal.skip-requires-clause-there
skip-requires-clause-there c = rw c.deref-2.ensures.value (here (goal.at.skip-requires-clause-there c).After-index).below

pub skip-requires-clause-chain : goal.skip-requires-clause-chain
skip-requires-clause-chain c = rw (c.deref.ensures.value, c.deref-2.ensures.value) (here (goal.at.skip-requires-clause-chain c).After-index).own

pub returns : goal.returns
returns c =
    let inside = c.self.inside in
    c.skip.ensures ∙ ap (λ ds. last_of (is_digest c.args.digest) ds c.index.result.now) c.deref-2.ensures.value
    ∙ same_last (length inside.heads.items) inside.heads.items inside.digests.items inside.nexts.items c.self.invariant c.args.digest c.args.slot c.index.result.now
    (from_is (goal.at.returns c).After-index)
    ∙ ap (λ v. last_of (is_digest c.args.digest) v.digests c.args.slot) c.self.view_is
