use Rattle.std.proofs.Common.{◌∙◌, sym, arith}
use Rattle.store_history.specs.History.{root_of}
use Rattle.store_history.proofs.Histories.{first_link, named_at_end}
use Rattle.pin_store.specs.Calls.{seen_by}
use Rattle.hook_cases.proofs.stores.load_as.Goals as goal

pub load_word-requires-clause-within : goal.load_word-requires-clause-within
load_word-requires-clause-within g c = let told = c.load_root-root.ensures in let h = seen_by c.load_root-root.new.self.place in
    let l = first_link (root_of h 2).chain c.in-Some.block (sym told.first ∙ c.in-Some.is) in
    let is = l.2 in let within = (told.sized l.0 (named_at_end _ h 2 0 l.0 told.recent l.1)).0 in
    (omega (arith, is, within), c.requires.store.2)

pub load_word-requires-clause-told : goal.load_word-requires-clause-told
load_word-requires-clause-told g c = let told = c.load_root-root.ensures in let h = seen_by c.load_root-root.new.self.place in
    let l = first_link (root_of h 2).chain c.in-Some.block (sym told.first ∙ c.in-Some.is) in (l.0, named_at_end _ h 2 0 l.0 told.recent l.1, l.2)
