use Rattle.std.proofs.Common.{◌≡◌, ◌≤◌, take}
use Rattle.tc_base.specs.Outside.{Appended}
use Rattle.job_files.specs.Named.{batch_files}
use Rattle.job_files.specs.Inputs.{names_of}
use Rattle.job_files.specs.Growing.{Grows}
use Rattle.job_files.proofs.files.LoadedFiles.add_batches.Given as goal

abbrev pub invariant-loop-batch : goal.invariant-loop-batch
invariant-loop-batch g l = record {
  grown : Grows (g.S.Shelf.held l.fn.shelf) l.fn.self (batch_files (take l.batch-index l.batches)) l.self;
  held : g.S.Shelf.held l.shelf ≡ g.S.Shelf.held l.fn.shelf;
  later : g.S.Shelf.read_faults l.fn.shelf ≤ g.S.Shelf.read_faults l.shelf;
  failed_name : g.S.Shelf.failed_name l.shelf ≡ g.S.Shelf.failed_name l.fn.shelf;
  fetched : Appended (g.S.Shelf.fetched l.fn.shelf) (g.S.Shelf.fetched l.shelf) (names_of (batch_files (take l.batch-index l.batches)));
  put_names : g.S.Shelf.put_names l.shelf ≡ g.S.Shelf.put_names l.fn.shelf;
  write_faults : g.S.Shelf.write_faults l.shelf ≡ g.S.Shelf.write_faults l.fn.shelf;
}
