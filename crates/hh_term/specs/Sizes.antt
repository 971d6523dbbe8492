-- Size, copied size, height and the number of traps round a statement. (This project's own.)
use Rattle.std.specs.Prelude.{ℕ, ◌+◌, ◌*◌, max, Option, Some, None, List, sum_by, slice_get}
use Rattle.hh_base.specs.declared.value.Value.{Value}
use Rattle.hh_base.specs.declared.value.Value.TheVariants as value
use Rattle.host_expr.specs.Expression.{Expression}
use Rattle.host_expr.specs.Measures.{text_blocks, size_of_expression}
use Rattle.hh_term.specs.Statement.{Statement, Nothing, Pause, Emit, If, Suspend, Seq, Par, Loop, Trap}
use Rattle.hh_term.specs.Statement.{Exit, Local, Async}
use Rattle.hh_term.specs.Kernel.{Kernel, AsyncSite, first_at}

abbrev pub size_of_optional : Option Expression → ℕ
size_of_optional None = 0
size_of_optional (Some e) = size_of_expression e

abbrev pub value_blocks : Value → ℕ
value_blocks (value.Text t) = text_blocks t
value_blocks _ = 0

abbrev pub handler_blocks : Option (List ℕ) → ℕ
handler_blocks None = 0
handler_blocks (Some t) = text_blocks t

-- the arguments and the handlers of an async site
abbrev pub size_of_site : Option AsyncSite → ℕ
size_of_site None = 0
size_of_site (Some a) =
    sum_by size_of_expression a.args + handler_blocks a.kill + handler_blocks a.suspend
    + handler_blocks a.resume

-- one for each node, with its expressions; a local's first value counts at its node
abbrev pub size_of : Kernel → Statement → ℕ
size_of K Nothing = 1
size_of K Pause = 1
size_of K (Emit s e) = 1 + size_of_optional e
size_of K (If e p q) = 1 + size_of_expression e + size_of K p + size_of K q
size_of K (Suspend e p) = 1 + size_of_expression e + size_of K p
size_of K (Seq p q) = 1 + size_of K p + size_of K q
size_of K (Par p q) = 1 + size_of K p + size_of K q
size_of K (Loop p) = 1 + size_of K p
size_of K (Trap p) = 1 + size_of K p
size_of K (Exit k) = 1
size_of K (Local s p) = 1 + value_blocks (first_at K s) + size_of K p
size_of K (Async n) = 1 + size_of_site (slice_get K.sites n)

-- the same where each loop's body stands twice, in a sequence
abbrev pub copied_size_of : Kernel → Statement → ℕ
copied_size_of K Nothing = 1
copied_size_of K Pause = 1
copied_size_of K (Emit s e) = 1 + size_of_optional e
copied_size_of K (If e p q) = 1 + size_of_expression e + copied_size_of K p + copied_size_of K q
copied_size_of K (Suspend e p) = 1 + size_of_expression e + copied_size_of K p
copied_size_of K (Seq p q) = 1 + copied_size_of K p + copied_size_of K q
copied_size_of K (Par p q) = 1 + copied_size_of K p + copied_size_of K q
copied_size_of K (Loop p) = 2 + 2 * copied_size_of K p
copied_size_of K (Trap p) = 1 + copied_size_of K p
copied_size_of K (Exit k) = 1
copied_size_of K (Local s p) = 1 + value_blocks (first_at K s) + copied_size_of K p
copied_size_of K (Async n) = 1 + size_of_site (slice_get K.sites n)

-- a loop counts two, as its body is copied
abbrev pub height_of : Statement → ℕ
height_of (If e p q) = 1 + max (height_of p) (height_of q)
height_of (Suspend e p) = 1 + height_of p
height_of (Seq p q) = 1 + max (height_of p) (height_of q)
height_of (Par p q) = 1 + max (height_of p) (height_of q)
height_of (Loop p) = 2 + height_of p
height_of (Trap p) = 1 + height_of p
height_of (Local s p) = 1 + height_of p
height_of _ = 1

-- the greatest number of traps round one node
abbrev pub traps_round : Statement → ℕ
traps_round (If e p q) = max (traps_round p) (traps_round q)
traps_round (Suspend e p) = traps_round p
traps_round (Seq p q) = max (traps_round p) (traps_round q)
traps_round (Par p q) = max (traps_round p) (traps_round q)
traps_round (Loop p) = traps_round p
traps_round (Trap p) = 1 + traps_round p
traps_round (Local s p) = traps_round p
traps_round _ = 0
