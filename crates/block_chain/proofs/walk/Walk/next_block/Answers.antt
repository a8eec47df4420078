use Rattle.std.proofs.Common.{◌∙◌, get_or, ap, sym, arith}
use Rattle.block_chain.proofs.Chains.{all_passed}
use Rattle.block_chain.proofs.Ways.{next_of, behind, narrow}
use Rattle.block_chain.proofs.walk.Walk.next_block.Goals as goal

pub returns-then-self-eq0-clause-over : goal.returns-then-self-eq0-clause-over
returns-then-self-eq0-clause-over g c = λ e root place b. all_passed _ place b.inside (sym c.if-self-eq0.true ∙ b.next_is)

pub overflow_cast-self : goal.overflow_cast-self
overflow_cast-self g c = let b = c.requires.before in
    let n = next_of c.args.store.now.shape c.args.reader.now.place b.0 b.1 c.args.self.now.next c.if-self-eq0.false b.2 in let number = n.number in let low = n.sized.0 in
    let few = narrow c.args.store.now.shape c.requires.shape c.args.store.now.small in omega arith

pub load_block-requires-clause-shape : goal.load_block-requires-clause-shape
load_block-requires-clause-shape g c = let b = c.requires.before in
    let n = next_of c.args.store.now.shape c.args.reader.now.place b.0 b.1 c.args.self.now.next c.if-self-eq0.false b.2 in let number = n.number in let low = n.sized.0 in (c.requires.shape, omega arith)

pub load_block-requires-clause-told : goal.load_block-requires-clause-told
load_block-requires-clause-told g c = let b = c.requires.before in
    let n = next_of c.args.store.now.shape c.args.reader.now.place b.0 b.1 c.args.self.now.next c.if-self-eq0.false b.2 in let number = n.number in (n.link, n.named, omega arith)

pub returns-clause-block : goal.returns-clause-block
returns-clause-block g c = λ e root place b.
    let n = next_of c.args.store.now.shape c.args.reader.now.place root place c.args.self.now.next c.if-self-eq0.false b in let number = n.number in
    let words = c.load_block.ensures.words n.link n.named (omega arith) n.sized in
    (n.link, n.there, words, behind c.args.store.now.shape c.args.reader.now.place c.load_block.new.reader.place root place c.args.self.now.next _ n c.load_block.ensures.same (ap (λ ws. get_or ws 39 0) words) b)
