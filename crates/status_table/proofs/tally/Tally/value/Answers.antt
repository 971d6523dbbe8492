use Rattle.std.proofs.Common.{◌∙◌, sym, ap}
use Rattle.host_expr.specs.declared.cell.Cell.TheVariants as cell
use Rattle.status_table.specs.Tallies.{value_of}
use Rattle.status_table.proofs.Combining.{value_whole, value_open}
use Rattle.status_table.proofs.tally.Tally.value.Goals as goal

pub returns-then-is_whole : goal.returns-then-is_whole
returns-then-is_whole c =
    λ w m d e.
    ap cell.Known (c.into_value.ensures ∙ ap (λ t. value_of c.args.kind t.running) e)
    ∙ value_whole c.args.kind w c.args.before m d
    (sym (c.is_whole.ensures c.args.kind w m d e) ∙ c.if-is_whole.true)
    (λ z. c.if-self-eq0.false (ap (λ t. t.can) e ∙ z))

pub returns : goal.returns
returns c =
    λ w m d e.
    value_open c.args.kind w c.args.before m d
    (sym (c.is_whole.ensures c.args.kind w m d e) ∙ c.if-is_whole.false)
    (λ z. c.if-self-eq0.false (ap (λ t. t.can) e ∙ z))
