use Rattle.std.proofs.Common.{ℕ, sym, ap, ◌∙◌, arith}
use Rattle.module_tree.specs.declared.source.Statement.{size-Statement}
use Rattle.module_tree.specs.declared.source.Statement.TheVariants as v
use Rattle.kernel_expand.specs.Interpretation as tree
use Rattle.kernel_expand.specs.Numbering.{Piece, numbering}
use Rattle.statement_build.specs.Building.{numbered_of, around_of}
use Rattle.statement_build.specs.Shapes.{wrapped}
use Rattle.statement_build.proofs.Statements.{then_is, loop_is, await_is, every_is, abort_is, weak_abort_is}
use Rattle.statement_build.proofs.Statements.{suspend_is, trap_is}
use Rattle.statement_build.proofs.Walking as walk
use Rattle.statement_build.proofs.builder.Builder.begin.Goals as goal

pub returns-in_ok-looped-in-Loop-clause-means :
    goal.returns-in_ok-looped-in-Loop-clause-means
returns-in_ok-looped-in-Loop-clause-means c = λ f.
    let pos = c.args.at.pos in
    let a = around_of c.args.around.now in
    let n = numbered_of c.args.self.now in
    ap (λ w. tree.of_statement (numbering f) w pos a n) (c.in-Loop.is)
    ∙ ap (λ (p : Piece). p a n) (loop_is (numbering f) pos c.in-Loop.block)
    ∙ c.in_ok-looped-in-Loop.ensures f (tree.of_block (numbering f) c.in-Loop.block)

pub returns-in-Fork-clause-less : goal.returns-in-Fork-clause-less
returns-in-Fork-clause-less c =
    let same = ap (size-Statement ℕ) (c.in-Fork.is ∙ ap v.Fork (sym c.as_slice.ensures)) in
    omega (arith, same)

pub returns-in_ok-awaited-in-Await-clause-means : goal.returns-in_ok-awaited-in-Await-clause-means
returns-in_ok-awaited-in-Await-clause-means c = λ f.
    let pos = c.args.at.pos in
    let a = around_of c.args.around.now in
    let n = numbered_of c.args.self.now in
    ap (λ w. tree.of_statement (numbering f) w pos a n) c.in-Await.is
    ∙ ap (λ (p : Piece). p a n) (await_is (numbering f) pos c.in-Await.delay)
    ∙ walk.await_is f pos c.in-Await.delay a n ∙ (λ i. (sym c.in_ok-awaited-in-Await.ensures i, n))

pub returns-in_ok-every-in-Every-clause-means :
    goal.returns-in_ok-every-in-Every-clause-means
returns-in_ok-every-in-Every-clause-means c = λ f.
    let pos = c.args.at.pos in
    let a = around_of c.args.around.now in
    let n = numbered_of c.args.self.now in
    ap (λ w. tree.of_statement (numbering f) w pos a n) (c.in-Every.is)
    ∙ ap (λ (p : Piece). p a n) (every_is (numbering f) pos c.in-Every.delay c.in-Every.block)
    ∙ c.in_ok-every-in-Every.ensures f (tree.of_block (numbering f) c.in-Every.block)

pub returns-in_ok-abort-in-Abort-clause-means :
    goal.returns-in_ok-abort-in-Abort-clause-means
returns-in_ok-abort-in-Abort-clause-means c = λ f.
    let pos = c.args.at.pos in
    let a = around_of c.args.around.now in
    let n = numbered_of c.args.self.now in
    ap (λ w. tree.of_statement (numbering f) w pos a n) (c.in-Abort.is)
    ∙ ap (λ (p : Piece). p a n) (abort_is (numbering f) pos c.in-Abort.delay c.in-Abort.block)
    ∙ c.in_ok-abort-in-Abort.ensures f (tree.of_block (numbering f) c.in-Abort.block)
    ∙ ap (λ w. wrapped pos w (tree.of_block (numbering f) c.in-Abort.block) (numbered_of c.abort.new.self)) (sym c.plain-in-Abort.ensures)

pub returns-in_ok-weak_abort-in-WeakAbort-clause-means :
    goal.returns-in_ok-weak_abort-in-WeakAbort-clause-means
returns-in_ok-weak_abort-in-WeakAbort-clause-means c = λ f.
    let pos = c.args.at.pos in
    let a = around_of c.args.around.now in
    let n = numbered_of c.args.self.now in
    ap (λ w. tree.of_statement (numbering f) w pos a n) (c.in-WeakAbort.is)
    ∙ ap (λ (p : Piece). p a n) (weak_abort_is (numbering f) pos c.in-WeakAbort.delay c.in-WeakAbort.block)
    ∙ c.in_ok-weak_abort-in-WeakAbort.ensures f (tree.of_block (numbering f) c.in-WeakAbort.block)
    ∙ ap (λ w. wrapped pos w (tree.of_block (numbering f) c.in-WeakAbort.block) (numbered_of c.args.self.now)) (sym c.plain-in-WeakAbort.ensures)

pub returns-in_ok-suspended-in-Suspend-clause-means :
    goal.returns-in_ok-suspended-in-Suspend-clause-means
returns-in_ok-suspended-in-Suspend-clause-means c = λ f.
    let pos = c.args.at.pos in
    let a = around_of c.args.around.now in
    let n = numbered_of c.args.self.now in
    ap (λ w. tree.of_statement (numbering f) w pos a n) (c.in-Suspend.is)
    ∙ ap (λ (p : Piece). p a n) (suspend_is (numbering f) pos c.in-Suspend.immediate c.in-Suspend.test c.in-Suspend.block)
    ∙ c.in_ok-suspended-in-Suspend.ensures f (tree.of_block (numbering f) c.in-Suspend.block)
    ∙ ap (λ w. wrapped pos w (tree.of_block (numbering f) c.in-Suspend.block) (numbered_of c.args.self.now)) (sym c.plain-in-Suspend.ensures)

pub returns-in_ok-trap-in-Trap-clause-means :
    goal.returns-in_ok-trap-in-Trap-clause-means
returns-in_ok-trap-in-Trap-clause-means c = λ f.
    let pos = c.args.at.pos in
    let a = around_of c.args.around.now in
    let n = numbered_of c.args.self.now in
    ap (λ w. tree.of_statement (numbering f) w pos a n) (c.in-Trap.is)
    ∙ ap (λ (p : Piece). p a n) (trap_is (numbering f) pos c.in-Trap.field-0 c.in-Trap.block)
    ∙ c.in_ok-trap-in-Trap.ensures f (tree.of_block (numbering f) c.in-Trap.block)
    ∙ ap (λ w. wrapped pos w (tree.of_block (numbering f) c.in-Trap.block) (numbered_of c.trap.new.self)) (sym c.plain-in-Trap.ensures)

pub returns-in_ok-then-in-None-clause-means : goal.returns-in_ok-then-in-None-clause-means
returns-in_ok-then-in-None-clause-means c = λ f.
    let pos = c.args.at.pos in
    let a = around_of c.args.around.now in
    let n = numbered_of c.args.self.now in
    ap (λ w. tree.of_statement (numbering f) w pos a n)
    (c.in-If.is ∙ ap (v.If c.in-If.test c.in-If.then) c.in-None.is)
    ∙ ap (λ (p : Piece). p a n) (then_is (numbering f) pos c.in-If.test c.in-If.then)
    ∙ c.in_ok-then-in-None.ensures f (tree.of_block (numbering f) c.in-If.then)
    ∙ ap (λ w. wrapped pos w (tree.of_block (numbering f) c.in-If.then) n) (sym c.plain.ensures)
