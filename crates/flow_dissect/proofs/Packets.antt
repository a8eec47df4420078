-- What an IPv4 packet puts: the fields of its header, and of what it carries if it is no fragment.
use Rattle.std.proofs.Common.{◌≡◌, ℕ, ◌+◌, ◌*◌, true, false, List, slice_index, ap, ◌∙◌}
use Rattle.flow_dissect.specs.Headers.{header_words, is_fragment_at}
use Rattle.flow_dissect.specs.Steps.{with_ipv4, with_transport, with_ipv4_packet}

pub fragment : (bytes old new : List ℕ) (at : ℕ) → is_fragment_at bytes at ≡ true → new ≡ with_ipv4 bytes at old → new ≡ with_ipv4_packet bytes at old
fragment bytes old new at is header = rw is header

pub whole : (bytes old once new : List ℕ) (at : ℕ) → is_fragment_at bytes at ≡ false → once ≡ with_ipv4 bytes at old →
    new ≡ with_transport bytes (slice_index bytes (at + 9)) (at + 4 * header_words bytes at) once → new ≡ with_ipv4_packet bytes at old
whole bytes old once new at is header carried =
    rw is (carried ∙ ap (with_transport bytes (slice_index bytes (at + 9)) (at + 4 * header_words bytes at)) header)
