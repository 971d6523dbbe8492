use Rattle.std.proofs.Common.{◌<◌, ◌≤◌, length, length-drop, arith, subst, List, ℕ, take}
use Rattle.std.proofs.lemmas.Result.{err_from_is_err_and}
use Rattle.hh_io.specs.SinkState.{Puts, CutsOff}
use Rattle.hh_io.proofs.ByteLaws.{rest-drop, Puts-step, CutsOff-step}
use Rattle.hh_io.proofs.sink.put_all.Goals as goal

pub returns-in_err-put-clause-cut_off : goal.returns-in_err-put-clause-cut_off
returns-in_err-put-clause-cut_off g c =
    let p = err_from_is_err_and c.from_residual.result c.from_residual.ensures.1 in
    let cut = subst (λ (bs : List ℕ). CutsOff (g.K.Sink.state c.loop-put.sink) (g.K.Sink.state c.write.new.self) bs c.in_err-put.field-0.0) (rest-drop c.loop-put.put c.args.bytes.now) c.in_err-put.ensures.cut_off in
    rw (p.1, p.2) (CutsOff-step _ _ _ c.args.bytes.now c.loop-put.put _ c.loop-put.invariant.within c.loop-put.invariant.added cut)

pub loop-put-preserved : goal.loop-put-preserved
loop-put-preserved g c =
    let put = c.loop-put.put in
    let came = c.in_ok-put.field-0 in
    let rest = rest-drop put c.args.bytes.now in
    let added = subst (λ (bs : List ℕ). Puts (g.K.Sink.state c.loop-put.sink) (g.K.Sink.state c.write.new.self) (take came bs)) rest c.in_ok-put.ensures.added in
    let some : 0 < came = c.in_ok-put.ensures.some in
    record {
      within = let bound = subst (λ (bs : List ℕ). came ≤ length bs) rest c.in_ok-put.ensures.bound in omega (arith, bound, length-drop put c.args.bytes.now);
      added = Puts-step _ _ _ c.args.bytes.now put came c.loop-put.invariant.added added;
      untouched = λ none. absurd (let no_more : ⊥ = omega arith in no_more);
    }
