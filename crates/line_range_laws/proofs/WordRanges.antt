-- What single words give is in its range, in the words of the ranges of an edit.
use Rattle.std.proofs.Common.{◌≡◌, ℕ, ◌^◌, ◌<◌, List, Some, arith}
use Rattle.tc_base.specs.declared.hook.Proto.{Proto}
use Rattle.tc_base.specs.declared.hook.Proto.TheVariants as protocols
use Rattle.line_words.specs.Forms.{number_between, tpid_of, protocol_of, class_of}
use Rattle.line_words.proofs.Ranges.{number_between_range, tpid_range, protocol_range, class_range}
use Rattle.act_kinds.specs.Ranges.{IsChain, IsTpid, IsVlanId, IsVlanPriority}
use Rattle.filter_state.specs.Lines.{IsPref, IsIndex, IsProtocol}
use Rattle.tc_batch.specs.Options.{chain_number, index_number, pref_number}

-- options and indices
pub chain_range : (word : List ℕ) (n : ℕ) → chain_number word ≡ Some n → IsChain n
chain_range word n e = (number_between_range 0 268435455 word n e).1

pub index_range : (word : List ℕ) (n : ℕ) → index_number word ≡ Some n → IsIndex n
index_range word n e = number_between_range 1 4294967295 word n e

pub pref_range : (word : List ℕ) (n : ℕ) → pref_number word ≡ Some n → IsPref n
pref_range word n e = number_between_range 1 65535 word n e

pub filter_protocol_range : (word : List ℕ) (protocol : Proto) → protocol_of word ≡ Some protocol → IsProtocol protocol
filter_protocol_range word protocols.All e = tt
filter_protocol_range word (protocols.Ether number) e = protocol_range word number e

-- tags
pub vlan_id_range : (word : List ℕ) (n : ℕ) → number_between 0 4094 word ≡ Some n → IsVlanId n
vlan_id_range word n e = (number_between_range 0 4094 word n e).1

pub vlan_priority_range : (word : List ℕ) (n : ℕ) → number_between 0 7 word ≡ Some n → IsVlanPriority n
vlan_priority_range word n e = (number_between_range 0 7 word n e).1

pub tag_protocol_range : (word : List ℕ) (n : ℕ) → tpid_of word ≡ Some n → IsTpid n
tag_protocol_range word n e = tpid_range word n e

-- marks
pub mark_range : (word : List ℕ) (n : ℕ) → number_between 0 4294967295 word ≡ Some n → n < 2 ^ 32
mark_range word n e = omega (arith, (number_between_range 0 4294967295 word n e).1)

pub queue_range : (word : List ℕ) (n : ℕ) → number_between 0 65535 word ≡ Some n → n < 2 ^ 16
queue_range word n e = omega (arith, (number_between_range 0 65535 word n e).1)

pub priority_range : (word : List ℕ) (n : ℕ) → class_of word ≡ Some n → n < 2 ^ 32
priority_range word n e = class_range word n e
