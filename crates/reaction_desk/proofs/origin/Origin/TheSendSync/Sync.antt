use denote.RattleType.{RattleType}
use denote.Param.Send.{IsSend, IsSync, part_keyless}
use Rattle.reaction_desk.specs.contracts.origin.Origin.{the_row}

origin_send : (T : RattleType) → IsSend (the_row T)
origin_send T = record { owned = λ d vs. ((λ vss. (tt, ((λ uss. (tt, tt)), tt))), tt); leaving = λ k f vs. tt }

pub sync : (T : RattleType) → IsSync (the_row T)
sync T = record { shared = λ d b o κ q. part_keyless (the_row T) (origin_send T) q d b o }
