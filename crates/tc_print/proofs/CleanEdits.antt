-- The printed words of an edit are the words of its text.
use Rattle.std.proofs.Common.{◌≡◌, ◌∙◌, ℕ, ◌<◌, Bool, true, false, List, [], ◌∷◌, ◌++◌, length, length-append, append_assoc, Option, Some, None, refl, sym, ap, subst, arith}
use Rattle.std.specs.Prelude.{◌==◌, fold, codes, IfSome, if◌then◌else◌}
use Rattle.std.specs.List.{list_all, join_with_byte}
use Rattle.std.specs.Fmt.{decimal}
use Rattle.std.proofs.lemmas.Bool.Decides.{nat_tests}
use Rattle.tc_base.specs.declared.hook.Hook.{Hook}
use Rattle.tc_base.specs.declared.hook.Hook.TheVariants.{Ingress, Egress}
use Rattle.tc_base.specs.declared.hook.Proto.{Proto}
use Rattle.tc_base.specs.declared.hook.Proto.TheVariants.{All, Ether}
use Rattle.tc_words.specs.Lines.{words_of}
use Rattle.line_texts.specs.CleanWords.{is_clean}
use Rattle.line_texts.specs.Texts.{protocol_text, handle_text}
use Rattle.line_texts.proofs.Joins.{and-left, and-right}
use Rattle.line_texts.proofs.Clean.{words-joined}
use Rattle.line_texts.proofs.Decimals.{decimal-clean}
use Rattle.line_texts.proofs.EtherTypes.{all-clean, ether_type-clean}
use Rattle.line_texts.proofs.Handles.{handle-clean}
use Rattle.act_kinds.specs.Ranges.{IsChain}
use Rattle.filter_state.specs.declared.edit.FilterLine.{FilterLine}
use Rattle.filter_state.specs.declared.edit.Edit.{Edit}
use Rattle.filter_state.specs.declared.edit.Edit.TheVariants as edits
use Rattle.filter_state.specs.Lines.{IsPref, IsIndex, IsProtocol, IsFilter, IsLine}
use Rattle.tc_batch.specs.Grammar.{Gives}
use Rattle.tc_batch.specs.KindNames.{kind_text}
use Rattle.tc_print.specs.ActionWords.{number_words, index_words, list_words}
use Rattle.tc_print.specs.FieldWords.{fields_words}
use Rattle.tc_print.specs.EditWords.{hook_text, protocol_words, handle_words, option_words, hook_words, body_words, filter_words, flower_words, edit_words, printed}
use Rattle.tc_print.specs.Texts.{onto}
use Rattle.tc_print.proofs.ReadsLines.{words_give}
use Rattle.tc_print.proofs.CleanActions.{clean_joined, clean_more, clean_number, wider, kind_clean, index_clean, action_clean, shared_action, list_clean}
use Rattle.tc_print.proofs.CleanFields.{fields_clean}

hook_clean : (hook : Hook) → is_clean (hook_text hook) ≡ true
hook_clean Ingress = refl
hook_clean Egress = refl

protocol_clean : (protocol : Proto) → IsProtocol protocol → is_clean (protocol_text protocol) ≡ true
protocol_clean All h = all-clean
protocol_clean (Ether number) h = ether_type-clean number h

protocol_words_clean : (protocol : Option Proto) → IfSome protocol IsProtocol → list_all is_clean (protocol_words protocol) ≡ true
protocol_words_clean None h = refl
protocol_words_clean (Some protocol) h = clean_more (protocol_text protocol) [] (protocol_clean protocol h) refl

handle_words_clean : (handle : Option ℕ) → IfSome handle IsIndex → list_all is_clean (handle_words handle) ≡ true
handle_words_clean None h = refl
handle_words_clean (Some handle) (least, most) = clean_more (handle_text handle) [] (handle-clean handle (omega arith)) refl

option_words_clean : (protocol : Option Proto) (pref : Option ℕ) (chain : ℕ) (handle : Option ℕ) → IfSome protocol IsProtocol → IfSome pref IsPref → IsChain chain → IfSome handle IsIndex
    → list_all is_clean (option_words protocol pref chain handle) ≡ true
option_words_clean protocol pref chain handle p f c h =
    clean_joined (protocol_words protocol) (number_words (codes "pref") pref ++ (codes "chain" ∷ decimal chain ∷ handle_words handle)) (protocol_words_clean protocol p)
    (clean_joined (number_words (codes "pref") pref) (codes "chain" ∷ decimal chain ∷ handle_words handle)
    (clean_number (codes "pref") pref refl (wider pref IsPref (λ n (least, most). omega arith) f))
    (clean_more (decimal chain) (handle_words handle) (decimal-clean chain (omega arith)) (handle_words_clean handle h)))

hook_words_clean : (verb : List ℕ) (hook : Hook) → is_clean verb ≡ true → list_all is_clean (hook_words verb hook) ≡ true
hook_words_clean verb hook clean = clean_more verb (codes "dev" ∷ codes "eth0" ∷ hook_text hook ∷ []) clean (clean_more (hook_text hook) [] (hook_clean hook) refl)

filter_clean : (verb : List ℕ) (line : FilterLine) → is_clean verb ≡ true → IsFilter line → list_all is_clean (filter_words verb line) ≡ true
filter_clean verb line clean is =
    let fields : List (List ℕ) = fields_words line.key.words line.mask.words in
    clean_joined (hook_words verb line.hook) (option_words (Some line.protocol) line.pref line.chain line.handle ++ body_words line) (hook_words_clean verb line.hook clean)
    (clean_joined (option_words (Some line.protocol) line.pref line.chain line.handle) (body_words line)
    (option_words_clean (Some line.protocol) line.pref line.chain line.handle is.protocol is.pref is.chain is.handle)
    (clean_joined fields (list_words line.actions) (fields_clean line.key.words line.mask.words) (list_clean line.actions is.actions)))

flower_clean : (handle : Option ℕ) → list_all is_clean (flower_words handle) ≡ true
flower_clean None = refl
flower_clean (Some handle) = refl

-- each word is clean
pub edit_clean : (edit : Edit) → IsLine edit → list_all is_clean (edit_words edit) ≡ true
edit_clean edits.HookAdd is = refl
edit_clean edits.HookDel is = refl
edit_clean (edits.FilterAdd line) is = filter_clean (codes "add") line refl is
edit_clean (edits.FilterReplace line) (is, _, _) = filter_clean (codes "replace") line refl is
edit_clean (edits.FilterDel hook protocol chain pref handle) (p, c, f, h) =
    clean_joined (hook_words (codes "del") hook) (option_words protocol (Some pref) chain handle ++ flower_words handle) (hook_words_clean (codes "del") hook refl)
    (clean_joined (option_words protocol (Some pref) chain handle) (flower_words handle) (option_words_clean protocol (Some pref) chain handle p f c h) (flower_clean handle))
edit_clean (edits.ActionAdd action) is = action_clean action (shared_action action is)
edit_clean (edits.ActionChange action) (is, _) = action_clean action (shared_action action is)
edit_clean (edits.ActionDel kind index) is = clean_more (kind_text kind) (index_words (Some index)) (kind_clean kind) (index_clean (Some index) is)

-- what is printed is read back
pub printed_gives : (edit : Edit) → IsLine edit → Gives (words_of (printed edit)) edit
printed_gives edit is =
    subst (λ (ws : List (List ℕ)). Gives ws edit) (sym (words-joined (edit_words edit) (edit_clean edit is))) (words_give edit is)

-- a text that grows word by word is the words joined
onto_some : (text : List ℕ) (words : List (List ℕ)) → 0 < length text → list_all is_clean words ≡ true → fold onto text words ≡ join_with_byte 32 (text ∷ words)
onto_some text [] some clean = refl
onto_some text (word ∷ words) some clean =
    let filled : (length text == 0) ≡ false = grind (arith, nat_tests, some) in
    let grown : onto text word ≡ text ++ (32 ∷ word) =
    ap (λ (b : Bool). (if b then text else text ++ (32 ∷ [])) ++ word) filled ∙ append_assoc text (32 ∷ []) word in
    ap (λ (t : List ℕ). fold onto t words) grown
    ∙ onto_some (text ++ (32 ∷ word)) words (simp length-append (omega arith)) (and-right (is_clean word) (list_all is_clean words) clean) ∙ one words
  where
    one : (rest : List (List ℕ)) → join_with_byte 32 ((text ++ (32 ∷ word)) ∷ rest) ≡ text ++ (32 ∷ join_with_byte 32 (word ∷ rest))
    one [] = refl
    one (next ∷ rest) = append_assoc text (32 ∷ word) (32 ∷ join_with_byte 32 (next ∷ rest))

clean_some : (word : List ℕ) → is_clean word ≡ true → 0 < length word
clean_some [] h = absurd (cc h)
clean_some (b ∷ word) h = omega arith

pub grown_join : (words : List (List ℕ)) → list_all is_clean words ≡ true → fold onto [] words ≡ join_with_byte 32 words
grown_join [] clean = refl
grown_join (word ∷ words) clean =
    onto_some word words (clean_some word (and-left (is_clean word) (list_all is_clean words) clean)) (and-right (is_clean word) (list_all is_clean words) clean)
