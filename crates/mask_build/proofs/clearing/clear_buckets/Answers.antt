use Rattle.std.proofs.Common.{◌≢◌, ◌∙◌, sym, ap, arith}
use Rattle.mask_table.specs.OfMirrors.Kept.{bucket_at}
use Rattle.mask_table.specs.OfMirrors.Changes.{IsRenamed}
use Rattle.mask_build.proofs.Aside.{place_aside, free_rows_same, zero_at, kept_aside, has_aside}
use Rattle.mask_build.proofs.Stacking.{laid_none}
use Rattle.mask_build.proofs.clearing.clear_buckets.Goals as goal

pub loop-bucket-preserved : goal.loop-bucket-preserved
loop-bucket-preserved c =
    let mirror = c.loop-bucket.mirror in let mask = c.args.mask.now in let k = c.loop-bucket.bucket in let place = c.place_of.result in let i = c.loop-bucket.invariant in let b = c.begin.ensures in
    let w = c.requires.kept in let at = c.place_of.ensures.place in
    let renamed : IsRenamed mirror c.begin.new.self place 0 = record { slots = b.slots; next = b.next; filters = b.filters; ages = b.ages; first = b.first } in
    let aside = place_aside mirror w.0 w.1 w.2 (i.kept w.0 w.1 w.2 w.3) mask c.requires.mask (free_rows_same c.args.mirror.now mirror mask.rows i.slots c.requires.rows) k place c.loop-bucket-test.true at in
    record {
      slots = b.slots ∙ i.slots;
      filters = b.filters ∙ i.filters;
      ages = b.ages ∙ i.ages;
      cleared = λ j less. zero_at mirror c.begin.new.self place (bucket_at mask j) c.place_of.ensures.small renamed
          (λ far. let other : j ≢ k = λ is. far (ap (bucket_at mask) is ∙ sym at) in i.cleared j (omega arith));
      kept = λ shape cells roots keeps. kept_aside mirror c.begin.new.self place 0 renamed aside shape cells roots (i.kept shape cells roots keeps);
      lists = λ slot last fs has. has_aside mirror c.begin.new.self place 0 renamed aside slot last fs (i.lists slot last fs has);
    }

pub returns-clause-laid : goal.returns-clause-laid
returns-clause-laid c = laid_none c.loop-bucket.mirror c.args.mask.now (λ bucket less. let last = c.loop-bucket-test.false in c.loop-bucket.invariant.cleared bucket (omega arith))
