-- Statements and programs with where each of their nodes stands in the input. What the semantics goes
-- over is what is left
-- without the positions. (This project's own.)
use Rattle.std.specs.Prelude.{ℕ, Option, List, map}
use Rattle.hh_base.specs.declared.value.Pos.{Pos}
use Rattle.host_expr.specs.declared.expr.Expr.{Expr}
use Rattle.host_expr.specs.Expression.{expression_of, optional_expression}
use Rattle.hh_term.specs.declared.program.SignalDecl.{SignalDecl}
use Rattle.hh_term.specs.declared.program.BodyDecl.{BodyDecl}
use Rattle.hh_term.specs.declared.program.Site.{Site}
use Rattle.hh_term.specs.declared.term.Term.{Term}
use Rattle.hh_term.specs.declared.term.TermNode.{TermNode}
use Rattle.hh_term.specs.declared.term.TermNode.TheVariants as term
use Rattle.hh_term.specs.Statement as statement
use Rattle.hh_term.specs.Statement.{Statement}
use Rattle.hh_term.specs.Kernel.{Kernel}
use Rattle.hh_term.specs.Views.{body_of, site_of}

-- a kernel statement at its position; its expressions are those of the code, whose nodes have positions
-- of their own
pub data Placed : Type 0 where
  Nothing : (at : Pos) → Placed
  Pause : (at : Pos) → Placed
  Emit : (at : Pos) (s : ℕ) (e : Option (Expr ℕ)) → Placed
  If : (at : Pos) (e : Expr ℕ) (p q : Placed) → Placed
  Suspend : (at : Pos) (e : Expr ℕ) (p : Placed) → Placed
  Seq : (at : Pos) (p q : Placed) → Placed
  Par : (at : Pos) (p q : Placed) → Placed
  Loop : (at : Pos) (p : Placed) → Placed
  Trap : (at : Pos) (p : Placed) → Placed
  Exit : (at : Pos) (k : ℕ) → Placed
  Local : (at : Pos) (s : ℕ) (p : Placed) → Placed
  Async : (at : Pos) (n : ℕ) → Placed

-- the statement without positions
abbrev pub unplaced : Placed → Statement
unplaced (Nothing at) = statement.Nothing
unplaced (Pause at) = statement.Pause
unplaced (Emit at s e) = statement.Emit s (optional_expression e)
unplaced (If at e p q) = statement.If (expression_of e) (unplaced p) (unplaced q)
unplaced (Suspend at e p) = statement.Suspend (expression_of e) (unplaced p)
unplaced (Seq at p q) = statement.Seq (unplaced p) (unplaced q)
unplaced (Par at p q) = statement.Par (unplaced p) (unplaced q)
unplaced (Loop at p) = statement.Loop (unplaced p)
unplaced (Trap at p) = statement.Trap (unplaced p)
unplaced (Exit at k) = statement.Exit k
unplaced (Local at s p) = statement.Local s (unplaced p)
unplaced (Async at n) = statement.Async n

-- a term of the code, without where it lies in memory
abbrev pub placed_node : Pos → TermNode → Placed
placed_node at term.Nothing = Nothing at
placed_node at term.Pause = Pause at
placed_node at (term.Emit s e) = Emit at s e
placed_node at (term.If' e _ a p _ b q) = If at e (placed_node a p) (placed_node b q)
placed_node at (term.Suspend' e _ a p) = Suspend at e (placed_node a p)
placed_node at (term.Seq' _ a p _ b q) = Seq at (placed_node a p) (placed_node b q)
placed_node at (term.Par' _ a p _ b q) = Par at (placed_node a p) (placed_node b q)
placed_node at (term.Loop' _ a p) = Loop at (placed_node a p)
placed_node at (term.Trap' _ a p) = Trap at (placed_node a p)
placed_node at (term.Exit k) = Exit at k
placed_node at (term.Local' s _ a p) = Local at s (placed_node a p)
placed_node at (term.Async n) = Async at n

abbrev pub placed_term : Term → Placed
placed_term t = placed_node t.pos t.node

-- a kernel program with its positions: declarations and sites as the code has them
pub record PlacedKernel : Type 0 where
  pub signals : List SignalDecl
  pub interface : ℕ
  pub bodies : List BodyDecl
  pub sites : List Site
  pub statement : Placed

abbrev pub unplaced_kernel : PlacedKernel → Kernel
unplaced_kernel P =
    record {
      signals = P.signals;
      interface = P.interface;
      bodies = map body_of P.bodies;
      sites = map site_of P.sites;
      statement = unplaced P.statement;
    }

-- what declarations and a term of the code make
abbrev pub placed_from : List SignalDecl → ℕ → List BodyDecl → List Site → Term → PlacedKernel
placed_from signals interface bodies sites term =
    record {
      signals = signals;
      interface = interface;
      bodies = bodies;
      sites = sites;
      statement = placed_term term;
    }
