-- What each arm of the walk writes out is what its piece makes.
use Rattle.std.proofs.Common.{◌≡◌, ℕ, ◌≤◌, Option, Some, None, List, map, length, take, take_all, sym, ap, ◌∙◌}
use Rattle.hh_base.specs.declared.value.Pos.{Pos}
use Rattle.host_expr.specs.declared.expr.Expr.{Expr}
use Rattle.module_tree.specs.declared.source.BlockNode.{BlockNode, out-BlockNode}
use Rattle.module_tree.specs.declared.source.Statement.{Statement}
use Rattle.module_tree.specs.declared.source.StatementNode.{StatementNode, out-StatementNode}
use Rattle.module_tree.specs.declared.source.Binding.{Binding}
use Rattle.hh_term.specs.declared.term.Term.{Term}
use Rattle.hh_term.specs.Placed.{Placed, Nothing, If, placed_term}
use Rattle.kernel_expand.specs.declared.forms.Join.TheVariants as join
use Rattle.kernel_expand.specs.Forms as form
use Rattle.kernel_expand.specs.Interpretation as tree
use Rattle.kernel_expand.specs.Interpretation.{Kernel}
use Rattle.kernel_expand.specs.Numbering.{Around, Numbered, Piece, inside_run, behind_run, no_traps}
use Rattle.statement_build.specs.declared.chain.Body.{Body}
use Rattle.statement_build.specs.declared.chain.Level.{Level}
use Rattle.statement_build.specs.declared.shapes.Wrap.{Wrap}
use Rattle.statement_build.specs.declared.steps.Step.{Step}
use Rattle.statement_build.specs.Building.{around_of}
use Rattle.statement_build.specs.Levels.{runs_in, kernel_in, body_piece, tail}
use Rattle.statement_build.specs.Shapes.{closed, wrapped}
use Rattle.statement_build.specs.Steps.{made}
use Rattle.kernel_build.specs.Writing.{run_piece, forked_piece, both_pieces, choice_piece}
use Rattle.statement_build.proofs.Folded.{block_is, node_is}
use Rattle.kernel_build.proofs.Gathered.{in_sequence, in_parallel}
use Rattle.statement_build.proofs.Walking.{walked}

pub inside_written : (pos : Pos) (w : Wrap) (p : Piece) (m o : Numbered) (body t : Term)
    → (placed_term body, o) ≡ p (around_of w.inner.around) m → placed_term t ≡ closed pos o w (placed_term body)
    → (placed_term t, o) ≡ wrapped pos w p m
inside_written pos w p m o body t is e = (λ i. (e i, o))
    ∙ ap (λ (z : Placed × Numbered). (closed pos z.1 w z.0, z.1)) is

pub both_written : (l : Level) (p q : BlockNode ℕ) (a : Around) (n o r : Numbered) (then other : Term)
    → (placed_term then, o) ≡ tree.of_block (kernel_in l) p a n
    → (placed_term other, r) ≡ tree.of_block (kernel_in l) q a o
    → ((placed_term then, placed_term other), r) ≡ both_pieces l p q a n
both_written l p q a n o r then other first second =
    let g = tree.of_block (kernel_in l) q a in
    ap (λ (z : Placed × Numbered). ((placed_term then, z.0), z.1)) second
    ∙ ap (λ (x : Placed × Numbered). ((x.0, (g x.1).0), (g x.1).1)) first

pub choice_written : (l : Level) (pos : Pos) (d : Expr ℕ) (p q : BlockNode ℕ) (a : Around) (n r : Numbered)
    (then other : Placed) (t : Term) → ((then, other), r) ≡ both_pieces l p q a n
    → placed_term t ≡ If pos d then other → (placed_term t, r) ≡ choice_piece l pos d p q a n
choice_written l pos d p q a n r then other t is e = (λ i. (e i, r))
    ∙ ap (λ (z : (Placed × Placed) × Numbered). (If pos d z.0.0 z.0.1, z.1)) is

-- the body of a module
pub body_written : (b : Option Body) (f : Body) (a : Around) (n : Numbered) (x : Placed × Numbered) → b ≡ Some f
    → a ≡ no_traps → x ≡ tree.of_block (kernel_in f.level) f.block.now a n → x ≡ body_piece b no_traps n
body_written b f a n x is none e = e ∙ ap (λ z. tree.of_block (kernel_in f.level) f.block.now z n) none
    ∙ ap (λ o. body_piece o no_traps n) (sym is)

pub no_body_written : (b : Option Body) (n : Numbered) (t : Placed) → b ≡ None → t ≡ Nothing (record { 0 = 0 })
    → (t, n) ≡ body_piece b no_traps n
no_body_written b n t is e = (λ i. (e i, n)) ∙ ap (λ o. body_piece o no_traps n) (sym is)

pub run_written : (l : Level) (place : ℕ) (bindings : List (Binding ℕ)) (a : Around) (n inner end left : Numbered)
    (t : Term) (piece : Placed × Numbered) → inner ≡ inside_run bindings n
    → tail n (runs_in l place no_traps inner) ≡ tail n piece → (placed_term t, end) ≡ piece
    → left ≡ behind_run n end → (placed_term t, left) ≡ run_piece l place bindings a n
run_written l place bindings a n inner end left t piece entered followed written e =
    (λ i. (placed_term t, e i)) ∙ ap (tail n) written ∙ sym followed
    ∙ ap (λ z. tail n (runs_in l place no_traps z)) entered

-- what a statement comes to is what its node means
pub node_written : (l : Level) (node : StatementNode ℕ) (what : Statement ℕ) (s : Step) (a : Around)
    (n m : Numbered) (x : Placed × Numbered) → what ≡ (out-StatementNode ℕ node).what
    → tree.of_statement (kernel_in l) what (out-StatementNode ℕ node).pos a n
    ≡ made (runs_in l) (out-StatementNode ℕ node).pos s a m
    → x ≡ made (runs_in l) (out-StatementNode ℕ node).pos s a m → x ≡ tree.of_node (kernel_in l) node a n
node_written l node what s a n m x is means e = e ∙ sym means
    ∙ ap (λ w. tree.of_statement (kernel_in l) w (out-StatementNode ℕ node).pos a n) is
    ∙ ap (λ (p : Piece). p a n) (sym (node_is (kernel_in l) node))

-- what one of the steps makes
pub step_written : (l : Level) (pos : Pos) (s r : Step) (a : Around) (n : Numbered) (x : Placed × Numbered)
    → s ≡ r → x ≡ made (runs_in l) pos r a n → x ≡ made (runs_in l) pos s a n
step_written l pos s r a n x is e = e ∙ ap (λ z. made (runs_in l) pos z a n) (sym is)

pub block_written : (l : Level) (b core : BlockNode ℕ) (a : Around) (n m : Numbered) (ts : List Term)
    (xs : List (StatementNode ℕ)) (i : ℕ) (t : Term)
    → ((k : Kernel Piece) → tree.of_block k b ≡ tree.of_block k core) → xs ≡ (out-BlockNode ℕ core).statements
    → (map placed_term ts, m) ≡ walked (map (tree.of_node (kernel_in l)) (take i xs)) a n → length xs ≤ i
    → placed_term t ≡ form.joined join.Sequence (out-BlockNode ℕ core).pos (map placed_term ts)
    → (placed_term t, m) ≡ tree.of_block (kernel_in l) b a n
block_written l b core a n m ts xs i t same is before all e =
    let f = tree.of_node (kernel_in l) in
    in_sequence (runs_in l) (out-BlockNode ℕ core).pos (map f (out-BlockNode ℕ core).statements) a n m ts t e
    (before ∙ ap (λ zs. walked (map f zs) a n) (take_all i xs all ∙ is))
    ∙ ap (λ (p : Piece). p a n) (sym (same (kernel_in l) ∙ block_is (kernel_in l) core))

pub branches_written : (l : Level) (pos : Pos) (bs : List (BlockNode ℕ)) (a : Around) (n m : Numbered)
    (ts : List Term) (i : ℕ) (t : Term)
    → (map placed_term ts, m) ≡ walked (map (tree.of_block (kernel_in l)) (take i bs)) a n → length bs ≤ i
    → placed_term t ≡ form.joined join.Parallel pos (map placed_term ts)
    → (placed_term t, m) ≡ forked_piece l pos bs a n
branches_written l pos bs a n m ts i t before all e =
    let f = tree.of_block (kernel_in l) in
    in_parallel (runs_in l) pos (map f bs) a n m ts t e
    (before ∙ ap (λ zs. walked (map f zs) a n) (take_all i bs all))
