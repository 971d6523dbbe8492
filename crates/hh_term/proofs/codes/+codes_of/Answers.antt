use Rattle.std.proofs.Common.{ap, sym, ◌∙◌}
use Rattle.hh_term.proofs.FlagSets.{greater_cong}
use Rattle.hh_term.specs.Views.{statement_of, node_statement}
use Rattle.hh_term.specs.Codes.{static_codes, greater_of}
use Rattle.hh_term.specs.Flags.{codes_in}
use Rattle.hh_term.proofs.codes.+codes_of.Goals as goal

pub returns-in-Par : goal.returns-in-Par
returns-in-Par t c =
    λ k. c.take_greater.ensures k
    ∙ greater_cong (codes_in c.codes_of-in-Par.new.codes)
    (static_codes (statement_of c.deref-in-Par.result.now)) (codes_in c.codes_of-in-Par-2.new.codes)
    (static_codes
    (statement_of c.deref-in-Par-2.result.now)) c.codes_of-in-Par.ensures c.codes_of-in-Par-2.ensures k
    ∙ ap (λ x. greater_of (static_codes (statement_of x))
    (static_codes (statement_of c.deref-in-Par-2.result.now)) k) c.deref-in-Par.ensures
    ∙ ap (λ x. greater_of (static_codes (statement_of c.in-Par.p.value))
    (static_codes (statement_of x)) k) c.deref-in-Par-2.ensures
    ∙ ap (λ x. static_codes (node_statement x) k) (sym c.in-Par.is)
