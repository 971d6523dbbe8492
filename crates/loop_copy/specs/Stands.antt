-- A mark of the copied term stands for a mark of the term. (This project's own.)
use Rattle.std.specs.Prelude.{◌≡◌}
use Rattle.hh_term.specs.Statement.{Statement, Pause, If, Suspend, Seq, Par, Loop, Trap, Local, Async}
use Rattle.hh_term.specs.Selection.{Selection, AtPause, AtAsync, First, Second, Both, Inside, Scope}
use Rattle.hh_term.specs.Selection.{Control, Fresh, At, Ended}

-- the second mark, of the copied term, is the first, with each loop's mark in one of its two halves
abbrev pub Stands : Statement → Selection → Selection → Type 0
Stands Pause AtPause AtPause = Unit {0}
Stands (Async n) (AtAsync id args queue held) (AtAsync id' args' queue' held') =
    (id ≡ id') × (args ≡ args') × (queue ≡ queue') × (held ≡ held')
Stands (If e p q) (First m) (First c) = Stands p m c
Stands (If e p q) (Second m) (Second c) = Stands q m c
Stands (Suspend e p) (Inside m) (Inside c) = Stands p m c
Stands (Seq p q) (First m) (First c) = Stands p m c
Stands (Seq p q) (Second m) (Second c) = Stands q m c
Stands (Par p q) (First m) (First c) = Stands p m c
Stands (Par p q) (Second m) (Second c) = Stands q m c
Stands (Par p q) (Both m n) (Both c d) = Stands p m c × Stands q n d
Stands (Loop p) (Inside m) (Inside (First c)) = Stands p m c
Stands (Loop p) (Inside m) (Inside (Second c)) = Stands p m c
Stands (Trap p) (Inside m) (Inside c) = Stands p m c
Stands (Local s p) (Scope m b v) (Scope c b' v') = Stands p m c × (b ≡ b') × (v ≡ v')
Stands _ _ _ = ⊥

-- the same of the controls of the two
abbrev pub StandsFor : Statement → Control → Control → Type 0
StandsFor p Fresh Fresh = Unit {0}
StandsFor p (At m) (At c) = Stands p m c
StandsFor p Ended Ended = Unit {0}
StandsFor p _ _ = ⊥
