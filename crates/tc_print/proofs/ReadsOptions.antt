-- What stands between a hook and `flower` is read back.
use Rattle.std.proofs.Common.{◌≡◌, ℕ, List, ◌∷◌, ◌++◌, Option, Some, None, refl, ap}
use Rattle.std.specs.Prelude.{codes, IfSome}
use Rattle.std.specs.Option.{option_map}
use Rattle.std.specs.Fmt.{decimal}
use Rattle.line_words.specs.Forms.{protocol_of}
use Rattle.line_texts.specs.Texts.{protocol_text, handle_text}
use Rattle.line_texts.proofs.EtherTypes.{protocol-all, protocol-read}
use Rattle.tc_base.specs.declared.hook.Proto.{Proto}
use Rattle.tc_base.specs.declared.hook.Proto.TheVariants.{All, Ether}
use Rattle.act_kinds.specs.Ranges.{IsChain}
use Rattle.filter_state.specs.Lines.{IsPref, IsIndex, IsProtocol}
use Rattle.tc_batch.specs.declared.options.Options.{Options}
use Rattle.tc_batch.specs.declared.keywords.OptionName.TheVariants as option_names
use Rattle.tc_batch.specs.Keywords.{option_name}
use Rattle.tc_batch.specs.Options.{no_options, is_given, with_option, option_setting}
use Rattle.tc_batch.specs.Grammar.{Pairs}
use Rattle.tc_print.specs.ActionWords.{number_words}
use Rattle.tc_print.specs.EditWords.{protocol_words, handle_words, option_words}
use Rattle.tc_print.proofs.Pairs.{pairs_end, pair_is, joined_is}
use Rattle.tc_print.proofs.ReadsControls.{chain_read, pref_read, handle_read}

pub protocol_read : (protocol : Proto) → IsProtocol protocol → protocol_of (protocol_text protocol) ≡ Some protocol
protocol_read All h = protocol-all
protocol_read (Ether number) h = protocol-read number h

-- options by their parts
abbrev pub options_of : Option Proto → Option ℕ → Option ℕ → Option ℕ → Options
options_of protocol pref chain handle = record { protocol = protocol; pref = pref; chain = chain; handle = handle }

protocol_is : (More : Options → List (List ℕ) → Type 0) (protocol : Option Proto) (rest : List (List ℕ)) → IfSome protocol IsProtocol
    → Pairs option_setting More (options_of protocol None None None) rest → Pairs option_setting More no_options (protocol_words protocol ++ rest)
protocol_is More None rest h more = more
protocol_is More (Some protocol) rest h more =
    pair_is option_name is_given with_option More no_options (codes "protocol") (protocol_text protocol) rest option_names.Protocol (options_of (Some protocol) None None None) refl refl
    (ap (option_map (λ p. options_of (Some p) None None None)) (protocol_read protocol h)) more

pref_is : (More : Options → List (List ℕ) → Type 0) (protocol : Option Proto) (pref : Option ℕ) (rest : List (List ℕ)) → IfSome pref IsPref
    → Pairs option_setting More (options_of protocol pref None None) rest
    → Pairs option_setting More (options_of protocol None None None) (number_words (codes "pref") pref ++ rest)
pref_is More protocol None rest h more = more
pref_is More protocol (Some pref) rest h more =
    pair_is option_name is_given with_option More (options_of protocol None None None) (codes "pref") (decimal pref) rest option_names.Pref (options_of protocol (Some pref) None None) refl refl
    (ap (option_map (λ n. options_of protocol (Some n) None None)) (pref_read pref h)) more

handle_is : (More : Options → List (List ℕ) → Type 0) (protocol : Option Proto) (pref chain handle : Option ℕ) (rest : List (List ℕ)) → IfSome handle IsIndex
    → More (options_of protocol pref chain handle) rest
    → Pairs option_setting More (options_of protocol pref chain None) (handle_words handle ++ rest)
handle_is More protocol pref chain None rest h more = pairs_end option_setting More _ rest more
handle_is More protocol pref chain (Some handle) rest h more =
    pair_is option_name is_given with_option More (options_of protocol pref chain None) (codes "handle") (handle_text handle) rest option_names.Handle (options_of protocol pref chain (Some handle)) refl refl
    (ap (option_map (λ n. options_of protocol pref chain (Some n))) (handle_read handle h))
    (pairs_end option_setting More _ rest more)

-- the printed options, and what follows them
pub options_are : (More : Options → List (List ℕ) → Type 0) (protocol : Option Proto) (pref : Option ℕ) (chain : ℕ) (handle : Option ℕ) (rest : List (List ℕ))
    → IfSome protocol IsProtocol → IfSome pref IsPref → IsChain chain → IfSome handle IsIndex
    → More (options_of protocol pref (Some chain) handle) rest
    → Pairs option_setting More no_options (option_words protocol pref chain handle ++ rest)
options_are More protocol pref chain handle rest p f c h more =
    joined_is (Pairs option_setting More no_options) (protocol_words protocol) (number_words (codes "pref") pref ++ (codes "chain" ∷ decimal chain ∷ handle_words handle)) rest
    (protocol_is More protocol _ p
    (joined_is (Pairs option_setting More (options_of protocol None None None)) (number_words (codes "pref") pref) (codes "chain" ∷ decimal chain ∷ handle_words handle) rest
    (pref_is More protocol pref _ f
    (pair_is option_name is_given with_option More (options_of protocol pref None None) (codes "chain") (decimal chain) (handle_words handle ++ rest) option_names.Chain (options_of protocol pref (Some chain) None) refl refl
    (ap (option_map (λ n. options_of protocol pref (Some n) None)) (chain_read chain c))
    (handle_is More protocol pref (Some chain) handle rest h more)))))
