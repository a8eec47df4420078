use Rattle.std.proofs.Common.{◌∙◌, ◌<◌, Some, sym, ap, subst}
use Rattle.pin_store.specs.Calls.{seen_by, floor_start}
use Rattle.store_history.specs.History.{root_of}
use Rattle.block_chain.proofs.Chains.{named_end}
use Rattle.kept_records.proofs.Chains.{first_link}
use Rattle.kept_records.proofs.first_block.load_first.Goals as goal

pub load_block-requires-clause-shape : goal.load_block-requires-clause-shape
load_block-requires-clause-shape g c = let p = c.args.reader.now.place in
    let l = first_link (root_of (seen_by p) c.args.root).chain c.in_ok-block.block (sym c.requires.first ∙ c.in_ok-block.was) in
    let named = named_end (floor_start p) (seen_by p) c.args.root 0 l.0 c.requires.recent l.1 in
    (c.requires.shape, subst (λ n. n < c.args.store.now.shape.blocks) l.2 (c.requires.sized l.0 named).0)

pub load_block-requires-clause-told : goal.load_block-requires-clause-told
load_block-requires-clause-told g c = let p = c.args.reader.now.place in
    let l = first_link (root_of (seen_by p) c.args.root).chain c.in_ok-block.block (sym c.requires.first ∙ c.in_ok-block.was) in
    (l.0, named_end (floor_start p) (seen_by p) c.args.root 0 l.0 c.requires.recent l.1, l.2)

pub returns-clause-words : goal.returns-clause-words
returns-clause-words g c = let p = c.args.reader.now.place in
    let l = first_link (root_of (seen_by p) c.args.root).chain c.in_ok-block.block (sym c.requires.first ∙ c.in_ok-block.was) in
    let named = named_end (floor_start p) (seen_by p) c.args.root 0 l.0 c.requires.recent l.1 in
    ap Some (c.load_block.ensures.words l.0 named l.2 (c.requires.sized l.0 named)) ∙ sym l.3
