use Rattle.std.proofs.Common.{◌∙◌, false, arith}
use Rattle.std.proofs.lemmas.List.{length-set}
use Rattle.hh_base.specs.declared.value.Value.TheVariants as value
use Rattle.host_expr.specs.Environment.{unsolved}
use Rattle.net_propagate.proofs.Stepping.{clear_on, all_clear}
use Rattle.net_propagate.proofs.nothing.forget_cells.Goals as goal

pub cells-preserved : goal.cells-preserved
cells-preserved c =
    record {
      room = length-set c.cells.cells.items c.cells.signal c.unseen.result ∙ c.cells.invariant.room;
      clear = clear_on (unsolved false value.Unit) c.unseen.result c.cells.cells.items c.cells.signal
          (let a = c.cells.invariant.room in
          let e = c.len-signal-end.ensures in
          let t = c.cells-test.true in
          let f = c.cells.auto.signal-end in
          omega (arith, a, e, t, f)) c.unseen.ensures c.cells.invariant.clear;
    }

pub returns-clause-blank : goal.returns-clause-blank
returns-clause-blank c =
    λ s. all_clear (unsolved false value.Unit) c.cells.cells.items c.cells.signal s
    (let a = c.cells.invariant.room in
    let e = c.len-signal-end.ensures in
    let t = c.cells-test.false in
    let f = c.cells.auto.signal-end in
    omega (arith, a, e, t, f)) c.cells.invariant.clear
