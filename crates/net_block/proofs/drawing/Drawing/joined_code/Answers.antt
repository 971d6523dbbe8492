use Rattle.net_block.specs.Drawn.{drawn}
use Rattle.net_block.proofs.Merging.{joins_code}
use Rattle.net_block.proofs.drawing.Drawing.joined_code.Goals as goal

pub returns : goal.returns
returns c =
    joins_code (drawn c.args.self.now) (drawn c.joined.new.self) (drawn c.joined-2.new.self) (drawn c.let_through.new.self)
    (drawn c.let_through-2.new.self) (drawn c.either.new.self) c.args.wires c.args.first c.args.second
    c.in_ok-first.first c.in_ok-second.second c.in_ok-code.code c.in_ok-left.left c.in_ok-right.right
    c.in_ok-left.ensures c.in_ok-right.ensures c.in_ok-first.ensures c.in_ok-second.ensures c.in_ok-code.ensures
