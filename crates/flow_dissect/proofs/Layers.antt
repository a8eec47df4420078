-- What the layers put, one after the other, are the fields of the frame.
use Rattle.std.proofs.Common.{◌≡◌, ℕ, ◌+◌, ◌/◌, ◌%◌, ◌*◌, ◌<◌, ◌≤◌, Bool, true, false, not, ◌&&◌, ◌==◌, nat_le, if◌then◌else◌, List, [], ◌∷◌, length, slice_index, slice_set, refl, ap, ◌∙◌, arith}
use Rattle.std.proofs.lemmas.Bool.{lt-leb, le-leb}
use Rattle.flow_fields.specs.Values.{zeros}
use Rattle.flow_dissect.specs.Fields.{frame_values}
use Rattle.frame_edit.specs.Tags.{two_at, has_ethernet}
use Rattle.flow_dissect.specs.Headers.{four_at, six_at, eight_at, where_so, in_either, has_first_tag, has_tag_at, has_ipv4, has_ipv6, has_ports, has_flags, has_ports_at, is_fragment_at, is_ipv4_at, is_ipv6_at, header_words, network_at, network_type, transport_at, protocol_of}
use Rattle.flow_dissect.specs.Steps.{with_addresses, with_tags, with_packet}

-- a frame that is too short for an Ethernet header has no fields
pub short : (bytes : List ℕ) → length bytes < 14 → zeros ≡ frame_values bytes
unfolding frame_values has_ipv4 has_ipv6
short bytes below =
    let e : has_ethernet bytes ≡ false = lt-leb 14 (length bytes) below in
    rw e refl

-- the tags' fields, for each answer to which tags are there
tags_by : (bytes : List ℕ) (first inner : Bool) (a b : ℕ) →
    with_tags bytes (if first && inner then 22 else if first then 18 else 14)
    (a ∷ b ∷ 0 ∷ 0 ∷ 0 ∷ 0 ∷ 0 ∷ 0 ∷ 0 ∷ 0 ∷ 0 ∷ 0 ∷ 0 ∷ 0 ∷ 0 ∷ 0 ∷ 0 ∷ 0 ∷ 0 ∷ 0 ∷ [])
    ≡ a ∷ b ∷ where_so first (two_at bytes 14 % 4096) ∷ where_so first (two_at bytes 14 / 8192) ∷ where_so first (two_at bytes 16)
    ∷ 0 ∷ 0 ∷ 0 ∷ 0 ∷ 0 ∷ 0
    ∷ where_so (first && inner) (two_at bytes 18 % 4096) ∷ where_so (first && inner) (two_at bytes 18 / 8192)
    ∷ where_so (first && inner) (two_at bytes 20) ∷ 0 ∷ 0 ∷ 0 ∷ 0 ∷ 0 ∷ 0 ∷ []
tags_by bytes true true a b = refl
tags_by bytes true false a b = refl
tags_by bytes false inner a b = refl

-- the ports and the flags, for each answer to whether they are there
transport_by : (fragment ports more : Bool) (s d f v0 v1 v2 v3 v4 v5 v6 v7 v11 v12 v13 v14 v15 v16 v17 v18 v19 : ℕ) →
    let values : List ℕ = v0 ∷ v1 ∷ v2 ∷ v3 ∷ v4 ∷ v5 ∷ v6 ∷ v7 ∷ 0 ∷ 0 ∷ 0 ∷ v11 ∷ v12 ∷ v13 ∷ v14 ∷ v15 ∷ v16 ∷ v17 ∷ v18 ∷ v19 ∷ [] in
    (if fragment then values
    else if ports then
    (if ports && more then slice_set (slice_set (slice_set values 8 s) 9 d) 10 f else slice_set (slice_set values 8 s) 9 d)
    else values)
    ≡ v0 ∷ v1 ∷ v2 ∷ v3 ∷ v4 ∷ v5 ∷ v6 ∷ v7 ∷ where_so (not fragment && ports) s ∷ where_so (not fragment && ports) d
    ∷ where_so (not fragment && (ports && more)) f ∷ v11 ∷ v12 ∷ v13 ∷ v14 ∷ v15 ∷ v16 ∷ v17 ∷ v18 ∷ v19 ∷ []
transport_by true ports more s d f v0 v1 v2 v3 v4 v5 v6 v7 v11 v12 v13 v14 v15 v16 v17 v18 v19 = refl
transport_by false true true s d f v0 v1 v2 v3 v4 v5 v6 v7 v11 v12 v13 v14 v15 v16 v17 v18 v19 = refl
transport_by false true false s d f v0 v1 v2 v3 v4 v5 v6 v7 v11 v12 v13 v14 v15 v16 v17 v18 v19 = refl
transport_by false false more s d f v0 v1 v2 v3 v4 v5 v6 v7 v11 v12 v13 v14 v15 v16 v17 v18 v19 = refl

-- the two EtherTypes of IP differ
apart_by : (number : ℕ) (a b c : Bool) → (a && (number == 0x0800 && b)) ≡ true → (a && (number == 0x86dd && c)) ≡ false
apart_by number false b c e = refl
apart_by number true b c e = grind arith

-- a frame has one IP header at most
apart : (bytes : List ℕ) → has_ipv4 bytes ≡ true → has_ipv6 bytes ≡ false
unfolding has_ipv4 has_ipv6
apart bytes e =
    apart_by (network_type bytes) (has_ethernet bytes) (is_ipv4_at bytes (network_at bytes)) (is_ipv6_at bytes (network_at bytes)) e

-- the fields of the IP packet, for each answer to which IP header is there
packet_by : (bytes : List ℕ) (four six : Bool) (a b c d e k l m : ℕ) → has_ipv4 bytes ≡ four → has_ipv6 bytes ≡ six →
    with_packet bytes (a ∷ b ∷ c ∷ d ∷ e ∷ 0 ∷ 0 ∷ 0 ∷ 0 ∷ 0 ∷ 0 ∷ k ∷ l ∷ m ∷ 0 ∷ 0 ∷ 0 ∷ 0 ∷ 0 ∷ 0 ∷ [])
    ≡ a ∷ b ∷ c ∷ d ∷ e
    ∷ protocol_of bytes
    ∷ where_so (has_ipv4 bytes) (four_at bytes (network_at bytes + 12))
    ∷ where_so (has_ipv4 bytes) (four_at bytes (network_at bytes + 16))
    ∷ where_so (has_ports bytes) (two_at bytes (transport_at bytes))
    ∷ where_so (has_ports bytes) (two_at bytes (transport_at bytes + 2))
    ∷ where_so (has_flags bytes) (two_at bytes (transport_at bytes + 12) % 4096)
    ∷ k ∷ l ∷ m
    ∷ in_either bytes (slice_index bytes (network_at bytes + 1)) (two_at bytes (network_at bytes) / 16 % 256)
    ∷ in_either bytes (slice_index bytes (network_at bytes + 8)) (slice_index bytes (network_at bytes + 7))
    ∷ where_so (has_ipv6 bytes) (eight_at bytes (network_at bytes + 8))
    ∷ where_so (has_ipv6 bytes) (eight_at bytes (network_at bytes + 16))
    ∷ where_so (has_ipv6 bytes) (eight_at bytes (network_at bytes + 24))
    ∷ where_so (has_ipv6 bytes) (eight_at bytes (network_at bytes + 32))
    ∷ []
packet_by bytes true six a b c d e k l m is4 is6 =
    let at : ℕ = network_at bytes in
    let protocol : ℕ = slice_index bytes (at + 9) in
    let start : ℕ = at + 4 * header_words bytes at in
    rw is4 (rw (apart bytes is4)
    (transport_by (is_fragment_at bytes at) (has_ports_at bytes protocol start) (protocol == 6 && nat_le (start + 14) (length bytes))
    _ _ _ _ _ _ _ _ _ _ _ _ _ _ _ _ _ _ _ _))
packet_by bytes false true a b c d e k l m is4 is6 =
    let at : ℕ = network_at bytes in
    let protocol : ℕ = slice_index bytes (at + 6) in
    let start : ℕ = at + 40 in
    rw is4 (rw is6
    (transport_by false (has_ports_at bytes protocol start) (protocol == 6 && nat_le (start + 14) (length bytes))
    _ _ _ _ _ _ _ _ _ _ _ _ _ _ _ _ _ _ _ _))
packet_by bytes false false a b c d e k l m is4 is6 = rw is4 (rw is6 refl)

-- a number whose condition holds
here : (condition : Bool) (number : ℕ) → condition ≡ true → number ≡ where_so condition number
here condition number e = rw e refl

-- two lists that differ in their first two elements alone
heads : {a b x y : ℕ} {rest : List ℕ} → a ≡ x → b ≡ y → a ∷ b ∷ rest ≡ x ∷ y ∷ rest
heads {a} {b} {x} {y} {rest} e f = ap (λ n. n ∷ b ∷ rest) e ∙ ap (λ n. x ∷ n ∷ rest) f

-- all layers, on the values of an empty key
all : (bytes : List ℕ) → 14 ≤ length bytes → with_packet bytes (with_tags bytes (network_at bytes) (with_addresses bytes zeros)) ≡ frame_values bytes
unfolding frame_values
all bytes long =
    let there : has_ethernet bytes ≡ true = le-leb 14 (length bytes) long in
    ap (with_packet bytes) (tags_by bytes (has_first_tag bytes) (has_tag_at bytes 16) (six_at bytes 0) (six_at bytes 6))
    ∙ packet_by bytes _ _ _ _ _ _ _ _ _ _ refl refl
    ∙ heads (here (has_ethernet bytes) (six_at bytes 0) there) (here (has_ethernet bytes) (six_at bytes 6) there)

-- the lists of values that stand after each of the layers
pub layers : (bytes v0 v1 v2 v3 : List ℕ) (start : ℕ) → 14 ≤ length bytes → v0 ≡ zeros → v1 ≡ with_addresses bytes v0 →
    start ≡ network_at bytes → v2 ≡ with_tags bytes start v1 → v3 ≡ with_packet bytes v2 → v3 ≡ frame_values bytes
layers bytes v0 v1 v2 v3 start long empty addresses place tags packet =
    packet ∙ ap (with_packet bytes)
    (tags ∙ ap (λ at. with_tags bytes at v1) place ∙ ap (with_tags bytes (network_at bytes)) (addresses ∙ ap (with_addresses bytes) empty))
    ∙ all bytes long
