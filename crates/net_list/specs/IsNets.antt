-- What nets keep: the form of their text, that each place they name is there, and that kinds fit.
use Rattle.net_list.specs.declared.record.NetRecords.{NetRecords}
use Rattle.net_list.specs.Form.{HasForm}
use Rattle.net_list.specs.Range.{AllInRange}
use Rattle.net_list.specs.Kinds.{KindsFit}

pub record IsNets (N : NetRecords) : Type 0 where
  pub form : HasForm N
  pub range : AllInRange N
  pub kinds : KindsFit N
