-- The four pieces of a trace, written one after the other.
use Rattle.std.proofs.Common.{◌≡◌, ◌∙◌, ℕ, List, ◌++◌, Option, sym, subst, append_assoc}
use Rattle.std.specs.Prelude.{Result, Ok, Err, OnOk}
use Rattle.tc_base.specs.Outside.{Appended, AppendsUpTo}
use Rattle.tc_base.proofs.Appends.{Appended-then, AppendsUpTo-then, AppendsUpTo-front, AppendsUpTo-more, AppendsUpTo-last}

module _ (whole stop packets decided closing : List ℕ) (is : whole ≡ stop ++ (packets ++ (decided ++ closing))) where
  -- behind the packets, and behind the filters
  two : whole ≡ (stop ++ packets) ++ (decided ++ closing)
  two = is ∙ sym (append_assoc stop packets (decided ++ closing))

  three : whole ≡ ((stop ++ packets) ++ decided) ++ closing
  three = two ∙ sym (append_assoc (stop ++ packets) decided closing)

  pub at_stop : (a b : Option (List ℕ)) → AppendsUpTo a b stop → AppendsUpTo a b whole
  at_stop a b first = subst (AppendsUpTo a b) (sym is) (AppendsUpTo-more a b stop (packets ++ (decided ++ closing)) first)

  pub at_packets : (a b c : Option (List ℕ)) → Appended a b stop → AppendsUpTo b c packets → AppendsUpTo a c whole
  at_packets a b c first second = subst (AppendsUpTo a c) (sym is) (AppendsUpTo-then a b c stop packets (decided ++ closing) first second)

  pub behind_packets : (a b c : Option (List ℕ)) → Appended a b stop → Appended b c packets → AppendsUpTo a c whole
  behind_packets a b c first second =
      subst (AppendsUpTo a c) (sym two) (AppendsUpTo-front a c (stop ++ packets) (decided ++ closing) (Appended-then a b c stop packets first second))

  pub at_decided : (a b c d : Option (List ℕ)) → Appended a b stop → Appended b c packets → AppendsUpTo c d decided → AppendsUpTo a d whole
  at_decided a b c d first second third =
      subst (AppendsUpTo a d) (sym two) (AppendsUpTo-then a c d (stop ++ packets) decided closing (Appended-then a b c stop packets first second) third)

  before_closing : (a b c d : Option (List ℕ)) → Appended a b stop → Appended b c packets → Appended c d decided → Appended a d ((stop ++ packets) ++ decided)
  before_closing a b c d first second third = Appended-then a c d (stop ++ packets) decided (Appended-then a b c stop packets first second) third

  pub at_closing : (a b c d e : Option (List ℕ)) → Appended a b stop → Appended b c packets → Appended c d decided → AppendsUpTo d e closing → AppendsUpTo a e whole
  at_closing a b c d e first second third fourth =
      subst (AppendsUpTo a e) (sym three) (AppendsUpTo-last a d e ((stop ++ packets) ++ decided) closing (before_closing a b c d first second third) fourth)

  pub all_written : {T E : Type 0} (result : Result T E) (a b c d e : Option (List ℕ)) → Appended a b stop → Appended b c packets → Appended c d decided → OnOk result (Appended d e closing)
      → OnOk result (Appended a e whole)
  all_written (Ok done) a b c d e first second third fourth =
      subst (Appended a e) (sym three) (Appended-then a d e ((stop ++ packets) ++ decided) closing (before_closing a b c d first second third) fourth)
  all_written (Err refused) a b c d e first second third fourth = tt

-- the same piece by another name
pub renamed : {T E : Type 0} (result : Result T E) (a b : Option (List ℕ)) (one other : List ℕ) → one ≡ other → OnOk result (Appended a b one) → OnOk result (Appended a b other)
renamed (Ok done) a b one other same wrote = subst (Appended a b) same wrote
renamed (Err refused) a b one other same wrote = tt
