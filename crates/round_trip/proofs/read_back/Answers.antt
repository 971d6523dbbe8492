use Rattle.std.proofs.Common.{sym, subst, ◌∙◌}
use Rattle.std.specs.Str.{IsUtf8}
use Rattle.module_reader.specs.Reading.{HasTree}
use Rattle.round_trip.proofs.Trips.{read_back}
use Rattle.round_trip.proofs.spelling.Printed.{printed_is_utf8}
use Rattle.round_trip.proofs.read_back.Goals as goal

pub unreachable-requires : goal.unreachable-requires
unreachable-requires c =
    let utf8 = subst IsUtf8 (sym (c.as_slice.ensures.value ∙ c.in-Ok.ensures))
    (printed_is_utf8 c.args.modules.now c.parts-parts.ensures.source) in
    c.in_default-from_utf8.ensures.cases.0 utf8

pub returns-clause-same : goal.returns-clause-same
returns-clause-same c =
    let text = c.in-Ok-from_utf8.ensures.cases.0 ∙ c.as_slice.ensures.value ∙ c.in-Ok.ensures in
    (read_back c.args.modules.now c.parts-parts.ensures.source c.read.result
    (λ tree h. c.read.ensures.only tree (subst (λ t. HasTree t tree) (sym text) h))).0

pub returns-clause-fault : goal.returns-clause-fault
returns-clause-fault c =
    let text = c.in-Ok-from_utf8.ensures.cases.0 ∙ c.as_slice.ensures.value ∙ c.in-Ok.ensures in
    (read_back c.args.modules.now c.parts-parts.ensures.source c.read.result
    (λ tree h. c.read.ensures.only tree (subst (λ t. HasTree t tree) (sym text) h))).1
