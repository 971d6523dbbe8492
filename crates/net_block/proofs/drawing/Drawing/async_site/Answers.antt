use Rattle.std.proofs.Common.{◌∙◌, ◌<◌, sym, subst, Some, length, [], ◌∷◌}
use Rattle.std.specs.List.{AllByRecursion}
use Rattle.net_block.specs.Block.{optional}
use Rattle.net_block.specs.Drawn.{Drawn, drawn}
use Rattle.net_block.proofs.Siting.{async_drawn, with_exec}
use Rattle.net_block.proofs.drawing.Drawing.async_site.Goals as goal

pub answer-requires : goal.answer-requires
answer-requires c =
    subst (λ (z : Drawn). AllByRecursion (λ s. s < length z.emitters) (optional (λ s. s) c.args.site.now.signal))
    (sym c.in_ok-gates.ensures.drawn) c.requires

pub returns : goal.returns
returns c =
    let g = c.in_ok-gates.gates in
    let drew = c.in_ok-gates.ensures in
    let middle = record c.site_gates.new.self { execs = c.push.new.self } in
    record {
      sel = drew.rests;
      codes = c.in_ok-codes.ensures ∙ (λ i. Some (drew.ends i) ∷ Some (drew.pauses i) ∷ []);
      drawn = async_drawn (drawn c.args.self.now) (drawn c.site_gates.new.self) (drawn middle) (drawn c.answer.new.self) c.args.pos
          c.args.number c.args.site.now c.in_ok-copy.copy c.args.wires g drew c.in_ok-copy.ensures
          (with_exec (drawn c.site_gates.new.self) _ c.push.new.self.items c.in_ok-push.ensures.items) c.in_ok-answer.ensures;
    }
