-- The kernel's statements as a meaning of the rows: what a row is, where its parts are statements already.
-- (Berry's kernel, The Constructive Semantics of Pure Esterel; the rows are those of HipHop.js.)
use Rattle.std.specs.Prelude.{ℕ, None, []}
use Rattle.host_expr.specs.declared.expr.Expr.{Expr}
use Rattle.host_expr.specs.Environment.{Env}
use Rattle.host_expr.specs.declared.cell.Cell.{Cell}
use Rattle.host_expr.specs.Evaluation.{eval_of}
use Rattle.host_expr.specs.Expression.{Now, expression_of, optional_expression}
use Rattle.hh_term.specs.Statement.{Statement, Nothing, Pause, Emit, If, Suspend, Seq, Par, Loop, Trap, Exit}
use Rattle.hh_term.specs.Statement.{Local}
use Rattle.kernel_expand.specs.Operations.{Operations}

-- where the signal C of a count has this number; of what no row makes, nothing is said
abbrev pub kernel : ℕ → Operations Statement
kernel c =
    record {
      nothing = Nothing;
      pause = Pause;
      emit = λ s e. Emit s (optional_expression e);
      choice = λ d p q. If (expression_of d) p q;
      suspend = λ d p. Suspend (expression_of d) p;
      seq = λ p q. Seq p q;
      par = λ p q. Par p q;
      loop = λ p. Loop p;
      local = λ d p. p;
      async = λ a. Nothing;
      trap = λ p. Trap p;
      exit = Exit 0;
      named_trap = λ p. p;
      leave = λ t. Nothing;
      counter = λ p. Local c p;
      suspend_counted = λ p. Suspend (Now c) p;
      emit_counter = Emit c None;
      run = λ m bindings. Nothing;
    }

-- for rows that count nothing
abbrev pub plain : Operations Statement
plain = kernel 0

-- what a delay's test is in a reaction
abbrev pub test : Expr ℕ → Env → Cell
test d E = eval_of (expression_of d) E []
