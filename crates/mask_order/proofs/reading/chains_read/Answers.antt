use Rattle.std.proofs.lemmas.List.Elements.{recursion_from_All, All-from_recursion}
use Rattle.mask_table.specs.Buckets.{bucket_of}
use Rattle.mask_order.specs.Fitting.{FitsBlock}
use Rattle.mask_order.proofs.Placing.{bucket_every}
use Rattle.mask_order.proofs.KeptChains.{kept_reads, kept_fit, kept_link}
use Rattle.mask_order.proofs.reading.chains_read.Goals as goal

pub returns-clause-read : goal.returns-clause-read
returns-clause-read c = λ mirror shape cells roots slot last bucket kept fs keeps stands has less. kept_reads mirror shape cells roots slot kept stands keeps last fs has bucket less

pub returns-clause-fit : goal.returns-clause-fit
returns-clause-fit c = λ mirror shape cells roots slot last fs keeps has. kept_fit mirror shape cells roots slot has.kept has.stands keeps last fs has

pub returns-clause-bucket_fits : goal.returns-clause-bucket_fits
returns-clause-bucket_fits c = λ size bucket fs fit. All-from_recursion FitsBlock (bucket_of size bucket fs) (bucket_every FitsBlock size bucket fs (recursion_from_All FitsBlock fs fit))

pub returns-clause-linked : goal.returns-clause-linked
returns-clause-linked c = λ mirror shape cells roots slot bucket place kept keeps stands less. kept_link mirror shape cells roots slot kept stands keeps bucket place less
