use Rattle.asset_cycles.specs.Cyclic.{cycle_labels}
use Rattle.asset_cycles.proofs.CycleLemmas.{label_own}
use Rattle.asset_cycles.proofs.MemberLemmas.{member_has, has_member, has_own}
use Rattle.asset_cycles.proofs.laws.members_have_their_label.Goals as goal

pub returns-clause-members : goal.returns-clause-members
returns-clause-members c = λ labels label n. (member_has labels label n, has_member labels label n)

pub returns-clause-listed : goal.returns-clause-listed
returns-clause-listed c = λ arrows count u label is. has_own (cycle_labels arrows count) label (label_own arrows count u label is)
