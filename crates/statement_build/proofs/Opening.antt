-- What stands round a body, as the rows of its statement say it.
use Rattle.std.proofs.Common.{◌≡◌, ℕ, List, ◌∷◌, Option, true, false, None, Some, sym, ap, ◌∙◌, Bor, Vec, Global}
use Rattle.std.specs.List.{range_with_len}
use Rattle.std.specs.Prelude.{length}
use Rattle.hh_base.specs.declared.value.Pos.{Pos}
use Rattle.host_expr.specs.declared.expr.Expr.{Expr}
use Rattle.module_tree.specs.declared.source.ExprAt.{ExprAt}
use Rattle.module_tree.specs.declared.source.SignalNode.{SignalNode}
use Rattle.module_tree.specs.declared.source.Later.{Later}
use Rattle.module_tree.specs.declared.source.Later.TheVariants as later
use Rattle.module_tree.specs.declared.source.Delay.{Delay}
use Rattle.module_tree.specs.declared.source.Delay.TheVariants as delay
use Rattle.hh_term.specs.declared.term.Term.{Term}
use Rattle.hh_term.specs.Placed.{Placed, Nothing, Pause, If, Suspend, Seq, Loop, Trap, placed_term}
use Rattle.kernel_expand.specs.Forms as form
use Rattle.kernel_expand.specs.Rows as row
use Rattle.kernel_expand.specs.Interpretation as tree
use Rattle.kernel_expand.specs.Interpretation.{test_of}
use Rattle.kernel_expand.specs.Numbering as numbers
use Rattle.kernel_expand.specs.Numbering.{Numbered, Piece, in_numbers, in_trap, numbering, counter_signal, with_signal}
use Rattle.kernel_expand.specs.Numbering.{with_trap}
use Rattle.statement_build.specs.declared.around.Around.{Around}
use Rattle.statement_build.specs.declared.shapes.Shape.{Shape}
use Rattle.statement_build.specs.declared.shapes.Shape.TheVariants as shape
use Rattle.statement_build.specs.declared.shapes.Plain.TheVariants as plain
use Rattle.statement_build.specs.declared.shapes.Suspend.TheVariants as suspend
use Rattle.statement_build.specs.declared.shapes.Abort.TheVariants as abort
use Rattle.statement_build.specs.declared.shapes.Inner.{Inner}
use Rattle.statement_build.specs.declared.shapes.Wrap.{Wrap}
use Rattle.statement_build.specs.Building.{around_of, declared_all}
use Rattle.statement_build.specs.Forms as more
use Rattle.statement_build.specs.Shapes.{wrapped, inside}
use Rattle.statement_build.proofs.Walking.{await_is, weak_abort_is, abort_count_is, locals_is}

abbrev pub of_shape : Around → Shape → Inner
of_shape around shape = record { around = around; shape = shape }

abbrev pub with_counter : ℕ → numbers.Around → numbers.Around
with_counter s a = record { traps = a.traps; counter = s }

module _ (f : ℕ → Piece) (pos : Pos) (n : Numbered) (a : numbers.Around) (inner : Around) (p : Piece) where
  pub abort_once_is : (x : Bor (ExprAt ℕ)) (guard : Expr ℕ) → around_of inner ≡ in_trap None a
      → guard ≡ in_numbers n (test_of x.now)
      → tree.abort (numbering f pos) (delay.Later (later.Once x.now)) p a n
      ≡ inside pos (of_shape inner (shape.Abort (abort.Once guard x))) p n
  abort_once_is x guard e g i =
      let y = p (sym e i) n in
      (form.beside pos (Suspend pos (sym g i) y.0) (form.waits pos (in_numbers y.1 (test_of x.now))), y.1)

  pub abort_now_is : (x : Bor (ExprAt ℕ)) (first guard : Expr ℕ) → around_of inner ≡ in_trap None a
      → first ≡ in_numbers n (test_of x.now) → guard ≡ in_numbers n (test_of x.now)
      → tree.abort (numbering f pos) (delay.Immediate x.now) p a n
      ≡ inside pos (of_shape inner (shape.Abort (abort.Now first guard x))) p n
  abort_now_is x first guard e h g i =
      let y = p (sym e i) n in (
        If pos (sym h i) (Nothing pos) (form.beside pos (Suspend pos (sym g i) y.0) (form.waits pos
            (in_numbers y.1 (test_of x.now)))),
        y.1,
      )

  pub abort_count_wraps : (x : Bor (ExprAt ℕ)) (times counter : ℕ) (m : Numbered)
      → around_of inner ≡ record { traps = None ∷ a.traps; counter = counter }
      → counter ≡ length n.signals → m ≡ with_signal (counter_signal pos) n
      → tree.abort (numbering f pos) (delay.Later (later.Count times x.now)) p a n
      ≡ inside pos (of_shape inner (shape.Abort (abort.Count counter times x))) p m
  abort_count_wraps x times counter m e s g =
      abort_count_is f pos times (test_of x.now) p a n
      ∙ (λ i. let y = p (record { traps = None ∷ a.traps; counter = sym s i }) (sym g i) in
      (more.counts pos (sym s i) times (in_numbers y.1 (test_of x.now)) y.0, y.1))
      ∙ (λ i. let y = p (sym e i) m in
      (more.counts pos counter times (in_numbers y.1 (test_of x.now)) y.0, y.1))

  pub weak_abort_wraps : (d : Bor (Delay ℕ)) → around_of inner ≡ in_trap None a
      → tree.weak_abort (numbering f pos) d.now p a n ≡ inside pos (of_shape inner (shape.Abort (abort.Weak d))) p n
  weak_abort_wraps d e = weak_abort_is f pos d.now p a n
      ∙ (λ i. let y = p (sym e i) n in (form.beside pos y.0 (more.watches pos d.now y.1), y.1))

  pub suspend_wraps : (x : Expr ℕ) (guard : Expr ℕ) → around_of inner ≡ a → guard ≡ in_numbers n x
      → tree.suspend (numbering f pos) false x p a n ≡ inside pos (of_shape inner (shape.Suspend (suspend.Later guard))) p n
  suspend_wraps x guard e g i = let y = p (sym e i) n in (Suspend pos (sym g i) y.0, y.1)

  pub suspend_now_wraps : (x : Expr ℕ) (guard first : Expr ℕ) → around_of inner ≡ a → guard ≡ in_numbers n x
      → first ≡ in_numbers n x
      → tree.suspend (numbering f pos) true x p a n ≡ inside pos (of_shape inner (shape.Suspend (suspend.Now guard first))) p n
  suspend_now_wraps x guard first e g h i =
      let y = p (sym e i) n in
      (Suspend pos (sym g i) (Seq pos (If pos (sym h i) (Pause pos) (Nothing pos)) y.0), y.1)

  pub then_wraps : (x : Expr ℕ) (test : Expr ℕ) → around_of inner ≡ a → test ≡ in_numbers n x
      → (numbering f pos).choice x p (numbering f pos).nothing a n
      ≡ inside pos (of_shape inner (shape.Plain (plain.Then test))) p n
  then_wraps x test e g i = let y = p (sym e i) n in (If pos (sym g i) y.0 (Nothing pos), y.1)

  pub locals_wraps : (ds : List SignalNode) (ss : Vec ℕ Global) (m : Numbered) → around_of inner ≡ a
      → ss.items ≡ range_with_len (length n.signals) (length ds) → m ≡ declared_all ds n
      → tree.locals (numbering f pos) ds p a n ≡ inside pos (of_shape inner (shape.Plain (plain.Locals ss))) p m
  locals_wraps ds ss m e s g = locals_is f pos ds p a n
      ∙ (λ i. let y = p (sym e i) (sym g i) in (more.nested pos (sym s i) y.0, y.1))

  pub trap_wraps : (m : Numbered) → around_of inner ≡ in_trap (Some n.traps) a → m ≡ with_trap n
      → (numbering f pos).named_trap p a n ≡ inside pos (of_shape inner (shape.Plain plain.Trap)) p m
  trap_wraps m e g i = let y = p (sym e i) (sym g i) in (Trap pos y.0, y.1)

  pub alone_wraps : around_of inner ≡ a → p a n ≡ inside pos (of_shape inner (shape.Plain plain.Body)) p n
  alone_wraps e i = p (sym e i) n

-- ---- in a loop, with a halt behind the body

abbrev pub renewed : Inner → Option Term → Wrap
renewed inner before = record { inner = inner; halts = true; looped = true; before = before }

module _ (f : ℕ → Piece) (pos : Pos) where
  abbrev IsAbort : Later ℕ → Inner → numbers.Around → Numbered → Numbered → Type 0
  IsAbort d inner a n m = (q : Piece) → tree.abort (numbering f pos) (delay.Later d) q a n ≡ inside pos inner q m

  pub do_every_wraps : (d : Later ℕ) (inner : Inner) (p : Piece) (a : numbers.Around) (n m : Numbered)
      → IsAbort d inner a n m
      → tree.do_every (numbering f pos) d p a n ≡ wrapped pos (renewed inner None) p m
  do_every_wraps (later.Once x) inner p a n m is =
      ap (λ (y : Placed × Numbered). (Loop pos y.0, y.1))
      (is ((numbering f pos).seq p (row.halt (numbering f pos))))
  do_every_wraps (later.Count i x) inner p a n m is =
      ap (λ (y : Placed × Numbered). (Loop pos y.0, y.1))
      (is ((numbering f pos).seq p (row.halt (numbering f pos))))

  behind_wait : (d : Delay ℕ) (inner : Inner) (first : Term) (p q : Piece) (a : numbers.Around) (n m : Numbered)
      → placed_term first ≡ more.awaited pos d n → q a n ≡ wrapped pos (renewed inner None) p m
      → (numbering f pos).seq (tree.await (numbering f pos) d) q a n
      ≡ wrapped pos (renewed inner (Some first)) p m
  behind_wait d inner first p q a n m e is =
      ap (λ (w : Placed × Numbered). (Seq pos w.0 (q a w.1).0, (q a w.1).1)) (await_is f pos d a n)
      ∙ (λ i. (Seq pos (sym e i) (is i).0, (is i).1))

  pub every_later_wraps : (d : Later ℕ) (inner : Inner) (first : Term) (p : Piece) (a : numbers.Around)
      (n m : Numbered) → placed_term first ≡ more.awaited pos (delay.Later d) n → IsAbort d inner a n m
      → tree.every (numbering f pos) (delay.Later d) p a n ≡ wrapped pos (renewed inner (Some first)) p m
  every_later_wraps (later.Once x) inner first p a n m e is =
      behind_wait (delay.Later (later.Once x)) inner first p (tree.do_every (numbering f pos) (later.Once x) p)
      a n m e
      (do_every_wraps (later.Once x) inner p a n m is)
  every_later_wraps (later.Count i x) inner first p a n m e is =
      behind_wait (delay.Later (later.Count i x)) inner first p
      (tree.do_every (numbering f pos) (later.Count i x) p) a n m e
      (do_every_wraps (later.Count i x) inner p a n m is)

  pub every_now_wraps : (x : ExprAt ℕ) (inner : Inner) (first : Term) (p : Piece) (a : numbers.Around)
      (n m : Numbered) → placed_term first ≡ more.awaited pos (delay.Immediate x) n
      → IsAbort (later.Once x) inner a n m
      → tree.every (numbering f pos) (delay.Immediate x) p a n ≡ wrapped pos (renewed inner (Some first)) p m
  every_now_wraps x inner first p a n m e is =
      behind_wait (delay.Immediate x) inner first p (tree.do_every (numbering f pos) (later.Once x) p) a n m e
      (do_every_wraps (later.Once x) inner p a n m is)
