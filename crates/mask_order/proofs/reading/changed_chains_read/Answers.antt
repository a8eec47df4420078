use Rattle.std.proofs.Common.{◌∙◌, ◌+◌, [], ◌∷◌, ◌++◌, length, drop, Some, ap, append_assoc}
use Rattle.store_history.specs.History.{root_of}
use Rattle.block_codec.specs.OfReadings.Read.{filter_in}
use Rattle.mask_order.proofs.ChainsRead.{read_behind, read_split, inserted_reads}
use Rattle.mask_order.proofs.Placing.{rewritten_reads}
use Rattle.mask_order.proofs.reading.changed_chains_read.Goals as goal

pub returns-clause-inserted : goal.returns-clause-inserted
returns-clause-inserted g c = λ h root b number filter edit fs fits is e. inserted_reads b filter (root_of h root).chain fs fits is e

pub returns-clause-removed : goal.returns-clause-removed
returns-clause-removed g c = λ h root number given front old later edit fit is e.
    rewritten_reads given front (drop (length front + 1) (root_of h root).chain) later fit is (read_behind filter_in (root_of h root).chain front old later e)

pub returns-clause-replaced : goal.returns-clause-replaced
returns-clause-replaced g c = λ h root number given front old filter later edit fit is e.
    rewritten_reads given (front ++ filter ∷ []) (drop (length front + 1) (root_of h root).chain) later fit is (read_behind filter_in (root_of h root).chain front old later e)
    ∙ ap Some (append_assoc front (filter ∷ []) later)

pub returns-clause-split : goal.returns-clause-split
returns-clause-split g c = λ roots mask handle root front old fs at e. read_split filter_in (roots root).chain front at.link old fs at.before at.there at.read e
