use Rattle.pin_store.proofs.Cells.{blocks_few}
use Rattle.pin_store.proofs.Keeping.{opens, fills, commits, loads_root, loads_word, splits_receipt, splits_reader, joins, meets, raises, loads_epoch, bumps, loads_pin}
use Rattle.pin_store.proofs.laws.steps_keep_the_rule.Goals as goal

pub returns-clause-new_store : goal.returns-clause-new_store
returns-clause-new_store g c = λ shape some small. opens g.L.Law.keeps shape (blocks_few shape some small) g.L.Law.opens

pub returns-clause-fill : goal.returns-clause-fill
returns-clause-fill g c = fills g.L.Law.keeps

pub returns-clause-commit : goal.returns-clause-commit
returns-clause-commit g c = commits g.L.Law.keeps

pub returns-clause-load_root : goal.returns-clause-load_root
returns-clause-load_root g c = λ shape. loads_root g.L.Law.keeps shape g.L.Law.rises

pub returns-clause-load_word : goal.returns-clause-load_word
returns-clause-load_word g c = loads_word g.L.Law.keeps

pub returns-clause-split_receipt : goal.returns-clause-split_receipt
returns-clause-split_receipt g c = splits_receipt g.L.Law.keeps

pub returns-clause-split_reader : goal.returns-clause-split_reader
returns-clause-split_reader g c = splits_reader g.L.Law.keeps

pub returns-clause-join : goal.returns-clause-join
returns-clause-join g c = joins g.L.Law.keeps

pub returns-clause-meet : goal.returns-clause-meet
returns-clause-meet g c = meets g.L.Law.keeps

pub returns-clause-raise_to_odd : goal.returns-clause-raise_to_odd
returns-clause-raise_to_odd g c = λ shape slots seat me i pin number plain even up. raises g.L.Law.keeps shape slots seat me i pin number plain up

pub returns-clause-load_epoch : goal.returns-clause-load_epoch
returns-clause-load_epoch g c = loads_epoch g.L.Law.keeps

pub returns-clause-raise_to_even : goal.returns-clause-raise_to_even
returns-clause-raise_to_even g c = λ shape slots seat me i pin number plain odd up. raises g.L.Law.keeps shape slots seat me i pin number plain up

pub returns-clause-bump : goal.returns-clause-bump
returns-clause-bump g c = bumps g.L.Law.keeps

pub returns-clause-load_pin : goal.returns-clause-load_pin
returns-clause-load_pin g c = λ shape. loads_pin g.L.Law.keeps shape g.L.Law.rises
