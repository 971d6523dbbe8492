-- What the derived statements expand to, one line for each. `d` is the test of a delay, `p` the statement's
-- body, and `exit` leaves the trap that the row makes. (The statements are those of HipHop.js, Berry and
-- Serrano, PLDI 2020; the rows are this project's own.)
use Rattle.std.specs.Prelude.{ℕ, Option, List, [], ◌∷◌, replicate}
use Rattle.host_expr.specs.declared.expr.Expr.{Expr}
use Rattle.kernel_expand.specs.Operations.{Operations}
use Rattle.kernel_expand.specs.Halves.{in_halves}

-- statements one after the other, and branches side by side
abbrev pub listed : {X : Type 0} → Operations X → List X → X
listed k = in_halves k.seq k.nothing

abbrev pub forked : {X : Type 0} → Operations X → List X → X
forked k = in_halves k.par k.nothing

abbrev pub halt : {X : Type 0} → Operations X → X
halt k = k.loop k.pause

abbrev pub sustain : {X : Type 0} → Operations X → ℕ → Option (Expr ℕ) → X
sustain k s e = k.loop (k.seq (k.emit s e) k.pause)

-- exits in the first later instant in which d holds
abbrev pub waiting : {X : Type 0} → Operations X → Expr ℕ → X
waiting k d = k.loop (k.seq k.pause (k.choice d k.exit k.nothing))

-- exits in the first instant in which d holds
abbrev pub waiting_now : {X : Type 0} → Operations X → Expr ℕ → X
waiting_now k d = k.loop (k.seq (k.choice d k.exit k.nothing) k.pause)

abbrev pub await : {X : Type 0} → Operations X → Expr ℕ → X
await k d = k.trap (waiting k d)

abbrev pub await_immediate : {X : Type 0} → Operations X → Expr ℕ → X
await_immediate k d = k.trap (waiting_now k d)

abbrev pub await_count : {X : Type 0} → Operations X → ℕ → Expr ℕ → X
await_count k n d = listed k (replicate n (await k d))

abbrev pub abort : {X : Type 0} → Operations X → Expr ℕ → X → X
abort k d p = k.trap (k.par (k.seq (k.suspend d p) k.exit) (waiting k d))

abbrev pub abort_immediate : {X : Type 0} → Operations X → Expr ℕ → X → X
abort_immediate k d p = k.choice d k.nothing (abort k d p)

abbrev pub abort_count : {X : Type 0} → Operations X → ℕ → Expr ℕ → X → X
abort_count k n d p =
    k.trap (k.counter (k.par (k.seq (k.suspend_counted p) k.exit)
    (listed k (await_count k n d ∷ k.emit_counter ∷ k.exit ∷ []))))

abbrev pub weak_abort : {X : Type 0} → Operations X → Expr ℕ → X → X
weak_abort k d p = k.trap (k.par (k.seq p k.exit) (waiting k d))

abbrev pub weak_abort_immediate : {X : Type 0} → Operations X → Expr ℕ → X → X
weak_abort_immediate k d p = k.trap (k.par (k.seq p k.exit) (waiting_now k d))

abbrev pub weak_abort_count : {X : Type 0} → Operations X → ℕ → Expr ℕ → X → X
weak_abort_count k n d p = k.trap (k.par (k.seq p k.exit) (k.seq (await_count k n d) k.exit))

abbrev pub suspend_immediate : {X : Type 0} → Operations X → Expr ℕ → X → X
suspend_immediate k d p = k.suspend d (k.seq (k.choice d k.pause k.nothing) p)

abbrev pub do_every : {X : Type 0} → Operations X → Expr ℕ → X → X
do_every k d p = k.loop (abort k d (k.seq p (halt k)))

abbrev pub do_every_count : {X : Type 0} → Operations X → ℕ → Expr ℕ → X → X
do_every_count k n d p = k.loop (abort_count k n d (k.seq p (halt k)))

abbrev pub every : {X : Type 0} → Operations X → Expr ℕ → X → X
every k d p = k.seq (await k d) (do_every k d p)

abbrev pub every_immediate : {X : Type 0} → Operations X → Expr ℕ → X → X
every_immediate k d p = k.seq (await_immediate k d) (do_every k d p)

abbrev pub every_count : {X : Type 0} → Operations X → ℕ → Expr ℕ → X → X
every_count k n d p = k.seq (await_count k n d) (do_every_count k n d p)
