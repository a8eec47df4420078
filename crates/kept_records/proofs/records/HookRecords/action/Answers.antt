use Rattle.pin_store.specs.Calls.{seen_by}
use Rattle.block_codec.specs.OfReadings.Read.{mask_of_words}
use Rattle.kept_records.specs.Keeping.{IsRead, IsKnown}
use Rattle.kept_records.proofs.Kept.{all_on}
use Rattle.kept_records.proofs.records.HookRecords.action.Goals as goal

pub returns-in-Some-clause-kept : goal.returns-in-Some-clause-kept
returns-in-Some-clause-kept g c = let e = c.renew_action-stamp.ensures in let k = c.requires.kept in
    let h0 = seen_by c.args.reader.now.place in let h1 = seen_by c.renew_action-stamp.new.reader.place in record {
      masks = all_on (IsRead mask_of_words) h0 h1 e.longer c.args.self.now.masks k.masks;
      filters = all_on IsKnown h0 h1 e.longer c.args.self.now.filters k.filters;
      actions = e.kept;
    }

pub returns-in-None-clause-kept : goal.returns-in-None-clause-kept
returns-in-None-clause-kept g c = let e = c.renew_action-stamp.ensures in let k = c.requires.kept in
    let h0 = seen_by c.args.reader.now.place in let h1 = seen_by c.renew_action-stamp.new.reader.place in record {
      masks = all_on (IsRead mask_of_words) h0 h1 e.longer c.args.self.now.masks k.masks;
      filters = all_on IsKnown h0 h1 e.longer c.args.self.now.filters k.filters;
      actions = e.kept;
    }
