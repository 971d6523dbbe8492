use Rattle.signal_bank.proofs.BagKinds.{bag_is_of_its_kind}
use Rattle.signal_bank.proofs.laws.bag_is_of_its_kind.Goals as goal

pub returns : goal.returns
returns c = bag_is_of_its_kind
