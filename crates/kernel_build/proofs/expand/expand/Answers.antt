use Rattle.std.proofs.lemmas.Result.{err_from_is_err_and}
use Rattle.kernel_expand.specs.Expansion.{expansion_of}
use Rattle.kernel_build.proofs.Accepting.{by_size, is_small, no_memory}
use Rattle.kernel_build.proofs.expand.expand.Goals as goal

pub returns-in_err-sizes : goal.returns-in_err-sizes
returns-in_err-sizes c =
    let q = err_from_is_err_and c.from_residual.result c.from_residual.ensures.1 in
    (no_memory c.args.linked.now c.from_residual.result q.0 q.1 q.2).expands

pub accept-requires : goal.accept-requires
accept-requires c = is_small c.args.linked.now c.in_ok-sizes.sizes c.in_ok-sizes.ensures c.in-None.ensures

pub returns-in-Some : goal.returns-in-Some
returns-in-Some c = by_size (expansion_of c.args.linked.now) c.in_ok-sizes.sizes c.in-Some.fault
    c.in_ok-sizes.ensures c.in-Some.ensures

pub returns-in-None : goal.returns-in-None
returns-in-None c = c.accept.ensures.expands
