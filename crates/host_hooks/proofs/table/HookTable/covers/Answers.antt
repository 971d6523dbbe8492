use Rattle.std.proofs.Common.{arith, length, refl}
use Rattle.std.proofs.lemmas.Option.{slice_get_read}
use Rattle.host_hooks.specs.Allowed.{IsCovered}
use Rattle.host_hooks.specs.Stored.{promises_of}
use Rattle.host_hooks.proofs.Answering.{all_more, all_seen}
use Rattle.host_hooks.proofs.table.HookTable.covers.Goals as goal

pub loop-place-init : goal.loop-place-init
loop-place-init g c = λ k d l. absurd (omega arith)

pub loop-place-preserved : goal.loop-place-preserved
loop-place-preserved g c =
    all_more (IsCovered (promises_of c.args.self.now)) c.args.bodies.now c.loop-place.place
    c.index-bodies-place.result c.loop-place-test.true c.index-bodies-place.is c.loop-place.invariant
    (c.is_covered.ensures.0 c.if-not-is_covered.false)

pub returns-then-not-is_covered-clause-first : goal.returns-then-not-is_covered-clause-first
returns-then-not-is_covered-clause-first g c = record {
  before = c.loop-place.invariant;
  body = c.index-bodies-place.result;
  at = slice_get_read c.args.bodies.now (length c.args.bodies.now) c.loop-place.place
      c.index-bodies-place.result refl c.loop-place-test.true c.index-bodies-place.is;
  uncovered = λ covered. absurd (let yes = c.is_covered.ensures.1 covered in let no =
      c.if-not-is_covered.true in cc);
}

pub returns-clause-ok : goal.returns-clause-ok
returns-clause-ok g c = all_seen (IsCovered (promises_of c.args.self.now)) c.args.bodies.now
    c.loop-place.place c.loop-place.auto.place-end c.loop-place-test.false c.loop-place.invariant
