-- Completion codes: 0 ends, 1 pauses, k + 2 exits the trap that is k traps outward; and the codes with
-- which a statement may
-- complete, read off its text. (Berry, The Constructive Semantics of Pure Esterel; the code of async is
-- this project's own.)
use Rattle.std.specs.Prelude.{ℕ, zero, suc, ◌+◌, Bool, false, ◌||◌, ◌&&◌, eqb}
use Rattle.hh_term.specs.Statement.{Statement, Nothing, Pause, Emit, If, Suspend, Seq, Par, Loop, Trap}
use Rattle.hh_term.specs.Statement.{Exit, Local, Async}

-- A set of codes, as the test for being in it.
abbrev pub CodeSet : Type 0
CodeSet = ℕ → Bool

abbrev pub only : ℕ → CodeSet
only k c = eqb c k

abbrev pub either : CodeSet → CodeSet → CodeSet
either K L c = K c || L c

-- the set without 0
abbrev pub without_end : CodeSet → CodeSet
without_end K zero = false
without_end K (suc c) = K (suc c)

-- the codes of the first part but 0, and those of the second where the first may end
abbrev pub in_turn : CodeSet → CodeSet → CodeSet
in_turn K L c = without_end K c || (K 0 && L c)

-- some code of the set is at most c
abbrev pub up_to : CodeSet → ℕ → Bool
up_to K zero = K zero
up_to K (suc c) = K (suc c) || up_to K c

-- the greater code of each pair
abbrev pub greater_of : CodeSet → CodeSet → CodeSet
greater_of K L c = (K c && up_to L c) || (up_to K c && L c)

-- what a trap makes of codes
abbrev pub lowered : CodeSet → CodeSet
lowered K zero = K 0 || K 2
lowered K (suc zero) = K 1
lowered K (suc (suc c)) = K (suc (suc (suc c)))

-- the codes with which the statement may complete
abbrev pub static_codes : Statement → CodeSet
static_codes Nothing = only 0
static_codes Pause = only 1
static_codes (Emit s e) = only 0
static_codes (If e p q) = either (static_codes p) (static_codes q)
static_codes (Suspend e p) = static_codes p
static_codes (Seq p q) = in_turn (static_codes p) (static_codes q)
static_codes (Par p q) = greater_of (static_codes p) (static_codes q)
static_codes (Loop p) = without_end (static_codes p)
static_codes (Trap p) = lowered (static_codes p)
static_codes (Exit k) = only (k + 2)
static_codes (Local s p) = static_codes p
static_codes (Async n) = only 1
