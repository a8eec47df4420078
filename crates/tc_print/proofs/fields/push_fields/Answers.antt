use Rattle.tc_print.proofs.Chained.{grown}
use Rattle.tc_print.specs.FieldWords.{all_names, named_words, prefixes_words}
use Rattle.tc_print.proofs.fields.push_fields.Goals as goal

pub returns : goal.returns
returns c =
    let key = c.args.key.now.words in
    let mask = c.args.mask.now.words in
    grown c.push_ipv6_fields.result _ _ _ (named_words key mask all_names) (prefixes_words key mask) c.in_ok-push_names.ensures c.push_ipv6_fields.ensures
