-- What stands before `flower` is in its ranges, and so are edits that come of it alone.
use Rattle.std.proofs.Common.{◌≡◌, ℕ, Bool, true, false, List, Option, Some, None, refl, arith}
use Rattle.std.specs.Prelude.{◌&&◌, not, is_some, IfSome}
use Rattle.std.specs.Option.{unwrap_or}
use Rattle.line_words.specs.Forms.{protocol_of}
use Rattle.tc_base.specs.declared.hook.Hook.{Hook}
use Rattle.tc_base.specs.declared.hook.Proto.{Proto}
use Rattle.tc_base.specs.declared.hook.Proto.TheVariants.{All}
use Rattle.act_kinds.specs.Ranges.{IsChain}
use Rattle.filter_state.specs.Lines.{IsPref, IsIndex, IsProtocol, IsLine}
use Rattle.tc_batch.specs.declared.keywords.OptionName.{OptionName}
use Rattle.tc_batch.specs.declared.keywords.OptionName.TheVariants as option_names
use Rattle.tc_batch.specs.declared.keywords.QdiscVerb.{QdiscVerb}
use Rattle.tc_batch.specs.declared.keywords.QdiscVerb.TheVariants as qdisc_verbs
use Rattle.tc_batch.specs.declared.keywords.FilterVerb.{FilterVerb}
use Rattle.tc_batch.specs.declared.keywords.FilterVerb.TheVariants as filter_verbs
use Rattle.tc_batch.specs.declared.options.Options.{Options}
use Rattle.tc_batch.specs.Keywords.{option_name}
use Rattle.tc_batch.specs.Options.{chain_number, index_number, pref_number, no_options, is_given, with_option, option_setting, may_end, qdisc_edit, del_edit}
use Rattle.line_range_laws.proofs.Rules.{mapped, set_keeps}
use Rattle.line_range_laws.proofs.WordRanges.{chain_range, index_range, pref_range, filter_protocol_range}

-- what is set so far
pub record AreOptions (options : Options) : Type 0 where
  pub protocol : IfSome options.protocol IsProtocol
  pub pref : IfSome options.pref IsPref
  pub chain : IfSome options.chain IsChain
  pub handle : IfSome options.handle IsIndex

pub none_given : AreOptions no_options
none_given = record { protocol = tt; pref = tt; chain = tt; handle = tt }

one_more : (options : Options) (name : OptionName) (word : List ℕ) (next : Options) → AreOptions options → is_given options name ≡ false → with_option options name word ≡ Some next → AreOptions next
one_more options option_names.Protocol word next h free e =
    mapped (λ p. record options { protocol = Some p }) (protocol_of word) AreOptions (λ p is. record { protocol = filter_protocol_range word p is; pref = h.pref; chain = h.chain; handle = h.handle }) next e
one_more options option_names.Pref word next h free e =
    mapped (λ n. record options { pref = Some n }) (pref_number word) AreOptions (λ n is. record { protocol = h.protocol; pref = pref_range word n is; chain = h.chain; handle = h.handle }) next e
one_more options option_names.Chain word next h free e =
    mapped (λ n. record options { chain = Some n }) (chain_number word) AreOptions (λ n is. record { protocol = h.protocol; pref = h.pref; chain = chain_range word n is; handle = h.handle }) next e
one_more options option_names.Handle word next h free e =
    mapped (λ n. record options { handle = Some n }) (index_number word) AreOptions (λ n is. record { protocol = h.protocol; pref = h.pref; chain = h.chain; handle = index_range word n is }) next e

pub option_kept : (options : Options) (name value : List ℕ) (next : Options) → AreOptions options → option_setting options name value ≡ Some next → AreOptions next
option_kept options name value next h e = set_keeps is_given with_option AreOptions one_more options value (option_name name) next h e

-- what a line means where it doesn't say so
pub chain_or_zero : (chain : Option ℕ) → IfSome chain IsChain → IsChain (unwrap_or chain 0)
chain_or_zero None h = omega arith
chain_or_zero (Some n) h = h

pub protocol_or_all : (protocol : Option Proto) → IfSome protocol IsProtocol → IsProtocol (unwrap_or protocol All)
protocol_or_all None h = tt
protocol_or_all (Some p) h = h

given_pref : (pref : Option ℕ) → is_some pref ≡ true → IfSome pref IsPref → IsPref (unwrap_or pref 0)
given_pref None is h = absurd (cc is)
given_pref (Some n) is h = h

-- two tests at once
pub both_true : (a b : Bool) → (a && b) ≡ true → (a ≡ true) × (b ≡ true)
both_true true b e = (refl, e)
both_true false b e = absurd (cc e)

pub del_has_pref : (verb : FilterVerb) (options : Options) → may_end verb options ≡ true → is_some options.pref ≡ true
del_has_pref filter_verbs.Add options e = absurd (cc e)
del_has_pref filter_verbs.Replace options e = absurd (cc e)
del_has_pref filter_verbs.Del options e = (both_true (is_some options.pref) (not (is_some options.handle)) e).0

-- edits of options alone
pub del_in_range : (hook : Hook) (options : Options) → AreOptions options → is_some options.pref ≡ true → IsLine (del_edit hook options)
del_in_range hook options h is = (h.protocol, chain_or_zero options.chain h.chain, given_pref options.pref is h.pref, h.handle)

pub qdisc_in_range : (verb : QdiscVerb) → IsLine (qdisc_edit verb)
qdisc_in_range qdisc_verbs.Add = tt
qdisc_in_range qdisc_verbs.Del = tt
