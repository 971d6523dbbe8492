use Rattle.std.proofs.Common.{◌≡◌, ◌++◌, List, map, sym, ap, ◌∙◌, subst}
use Rattle.exec_instance.specs.declared.answer.Answer.{Answer}
use Rattle.notify_inbox.specs.Calls.{posts_in, posters_of, take_view}
use Rattle.reaction_desk.specs.Closing.{Posted}
use Rattle.reaction_desk.proofs.Finals.{posted}
use Rattle.reaction_desk.proofs.desk.Desk.close.Goals as goal

pub returns-clause-posted : goal.returns-clause-posted
returns-clause-posted g c =
    let M = g.M.Reactor in let d = c.args.self in let S = M.state d.logged.first.value in let T = M.state d.logged.machine in
    let lists = map posts_in c.args.passes.now.items in let n = posters_of c.args.inbox.now in
    let had : c.add_all.new.into.items ≡ T.pending ++ d.waiting =
    c.add_all.ensures.items ∙ (λ i. d.logged.copied i ++ c.into_vec.ensures i) in
    let end : Posted d.logged.log c.drain.new.into.items lists n =
    posted M.machine S T d.logged.log d.logged.legal d.logged.stands c.requires.none (take_view d.first_pass.value) (take_view d.pass) c.gather.new.pass c.drain.new.pass n d.waiting c.add_all.new.into.items c.drain.new.into.items lists
    c.args.inbox.now.most c.requires.taker d.took c.gather.ensures.gathered had c.drain.ensures.drained in
    subst (λ (l : List Answer). Posted d.logged.log l lists n) (sym c.from_vec-left.ensures) end
