-- Without positions a term is its statement, and a program its kernel.
use Rattle.std.proofs.Common.{◌≡◌, refl}
use Rattle.hh_base.specs.declared.value.Pos.{Pos}
use Rattle.hh_term.specs.declared.term.TermNode.{TermNode}
use Rattle.hh_term.specs.declared.term.TermNode.TheVariants as term
use Rattle.hh_term.specs.Views.{node_statement}
use Rattle.hh_term.specs.Placed.{unplaced, placed_node}
use Rattle.hh_term.specs.Lawful.{TermsAreUnplaced, ProgramsAreUnplaced}

nodes_are_unplaced : (at : Pos) (n : TermNode) → unplaced (placed_node at n) ≡ node_statement n
nodes_are_unplaced at term.Nothing = refl
nodes_are_unplaced at term.Pause = refl
nodes_are_unplaced at (term.Emit s e) = refl
nodes_are_unplaced at (term.If' e _ a p _ b q) = rw (nodes_are_unplaced a p, nodes_are_unplaced b q) refl
nodes_are_unplaced at (term.Suspend' e _ a p) = rw (nodes_are_unplaced a p) refl
nodes_are_unplaced at (term.Seq' _ a p _ b q) = rw (nodes_are_unplaced a p, nodes_are_unplaced b q) refl
nodes_are_unplaced at (term.Par' _ a p _ b q) = rw (nodes_are_unplaced a p, nodes_are_unplaced b q) refl
nodes_are_unplaced at (term.Loop' _ a p) = rw (nodes_are_unplaced a p) refl
nodes_are_unplaced at (term.Trap' _ a p) = rw (nodes_are_unplaced a p) refl
nodes_are_unplaced at (term.Exit k) = refl
nodes_are_unplaced at (term.Local' s _ a p) = rw (nodes_are_unplaced a p) refl
nodes_are_unplaced at (term.Async n) = refl

pub terms_are_unplaced : TermsAreUnplaced
terms_are_unplaced t = nodes_are_unplaced t.pos t.node

pub programs_are_unplaced : ProgramsAreUnplaced
programs_are_unplaced p = rw (terms_are_unplaced p.term) refl
