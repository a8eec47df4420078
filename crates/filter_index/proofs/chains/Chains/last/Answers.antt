use Rattle.std.proofs.Common.{◌≡◌, ◌<◌, length, get_or, ap, subst, ◌∙◌, arith}
use Rattle.std.proofs.lemmas.List.{get_or_default}
use Rattle.filter_index.specs.Chains.{last_of, is_digest, chain_of, is_on}
use Rattle.filter_index.proofs.Walking.{AtSlot, at_head, same_last}
use Rattle.filter_index.proofs.chains.Chains.last.Goals as goal
use Rattle.filter_index.proofs.chains.Chains.last.Goals.{After-index-from}

size_is : (c : After-index-from) → c.len.result ≡ length c.self.inside.heads.items
size_is c = omega (arith, c.self.inside.heads.ok.0, c.len.ensures)

chain_is : (c : After-index-from) → c.chain.result ≡ chain_of (length c.self.inside.heads.items) c.args.digest
chain_is c = c.chain.ensures.chain ∙ ap (λ n. chain_of n c.args.digest) (size_is c)

within : (c : After-index-from) → c.chain.result < length c.self.inside.heads.items
within c = omega (arith, c.chain.ensures.within, size_is c)

head_is : (c : After-index-from) → c.index-from.result.now ≡ get_or c.self.inside.heads.items c.chain.result 0
head_is c = c.index-from.ensures ∙ get_or_default c.self.inside.heads.items c.chain.result c.index-from.result.now 0 (within c)

here : (c : After-index-from) → AtSlot (length c.self.inside.heads.items) (chain_of (length c.self.inside.heads.items) c.args.digest) c.self.inside.digests.items c.index-from.result.now
here c =
    let inside = c.self.inside in
    subst (λ n. AtSlot (length inside.heads.items) n inside.digests.items c.index-from.result.now) (chain_is c)
    (at_head (length inside.heads.items) inside.heads.items inside.digests.items inside.nexts.items c.self.invariant c.chain.result c.index-from.result.now (within c) (head_is c))

pub skip-requires-clause-there : goal.skip-requires-clause-there
skip-requires-clause-there c = rw c.deref-2.ensures.value (here (goal.at.skip-requires-clause-there c).After-index-from).below

pub skip-requires-clause-chain : goal.skip-requires-clause-chain
skip-requires-clause-chain c = rw (c.deref.ensures.value, c.deref-2.ensures.value) (here (goal.at.skip-requires-clause-chain c).After-index-from).own

pub returns : goal.returns
returns c =
    let inside = c.self.inside in
    let at = (goal.at.returns c).After-index-from in
    let size = length inside.heads.items in
    c.skip.ensures ∙ ap (λ ds. last_of (is_digest c.args.digest) ds c.index-from.result.now) c.deref-2.ensures.value
    ∙ same_last size inside.heads.items inside.digests.items inside.nexts.items c.self.invariant c.args.digest (length inside.digests.items) c.index-from.result.now
    (head_is at ∙ c.self.invariant.last c.chain.result (within at) ∙ ap (λ n. last_of (is_on size n) inside.digests.items (length inside.digests.items)) (chain_is at))
    ∙ ap (λ v. last_of (is_digest c.args.digest) v.digests (length v.digests)) c.self.view_is
