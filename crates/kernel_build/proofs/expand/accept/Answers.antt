use Rattle.std.proofs.lemmas.Result.{err_from_is_err_and}
use Rattle.kernel_build.proofs.Accepting.{accepted, by_loop, keeps_rules, no_memory}
use Rattle.kernel_build.proofs.expand.accept.Goals as goal

pub returns-in_err-written : goal.returns-in_err-written
returns-in_err-written c =
    let q = err_from_is_err_and c.from_residual.result c.from_residual.ensures.1 in
    no_memory c.args.linked.now c.from_residual.result q.0 q.1 q.2

pub new-requires : goal.new-requires
new-requires c =
    let w = c.in_ok-written.written in
    keeps_rules c.args.linked.now w.signals.items w.interface w.bodies.items w.sites.items w.term c.requires
    c.in_ok-written.ensures.written c.accepted_keep_rules.ensures c.in_ok-written.ensures.linked c.in-None.ensures

pub returns-in-Some : goal.returns-in-Some
returns-in-Some c =
    let w = c.in_ok-written.written in
    by_loop c.args.linked.now w.signals.items w.interface w.bodies.items w.sites.items w.term c.requires
    c.in_ok-written.ensures.written c.in-Some.pos c.in-Some.ensures

pub returns-in-None : goal.returns-in-None
returns-in-None c =
    let w = c.in_ok-written.written in
    accepted c.args.linked.now w.signals.items w.interface w.bodies.items w.sites.items w.term c.requires
    c.in_ok-written.ensures.written c.new.result c.in-None.ensures c.new.ensures.kernel c.new.ensures.placed
