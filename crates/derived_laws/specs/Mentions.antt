-- A signal that a statement does not mention: it neither reads nor emits nor declares it, and no async of it
-- answers by it. (This project's own.)
use Rattle.std.specs.Prelude.{◌≡◌, ℕ, ◌==◌, false, Option, Some, None, List, [], ◌∷◌}
use Rattle.host_expr.specs.Expression.{Expression, Now, Pre, NowVal, PreVal, Not, Neg, Arith, Compare, And, Or}
use Rattle.host_expr.specs.Expression.{Choose}
use Rattle.hh_term.specs.Statement.{Statement, Emit, If, Suspend, Seq, Par, Loop, Trap, Local, Async}
use Rattle.hh_term.specs.MustCan.{Table}

abbrev pub IsOther : ℕ → ℕ → Type 0
IsOther c s = (s == c) ≡ false

abbrev pub Unread : ℕ → Expression → Type 0
Unread c (Now s) = IsOther c s
Unread c (Pre s) = IsOther c s
Unread c (NowVal s) = IsOther c s
Unread c (PreVal s) = IsOther c s
Unread c (Not a) = Unread c a
Unread c (Neg p a) = Unread c a
Unread c (Arith p op a b) = Unread c a × Unread c b
Unread c (Compare rel a b) = Unread c a × Unread c b
Unread c (And a b) = Unread c a × Unread c b
Unread c (Or a b) = Unread c a × Unread c b
Unread c (Choose a b e) = Unread c a × Unread c b × Unread c e
Unread c _ = Unit {0}

abbrev pub OptionUnread : ℕ → Option Expression → Type 0
OptionUnread c None = Unit {0}
OptionUnread c (Some e) = Unread c e

abbrev pub AllUnread : ℕ → List Expression → Type 0
AllUnread c [] = Unit {0}
AllUnread c (e ∷ es) = Unread c e × AllUnread c es

abbrev pub IsOtherTarget : ℕ → Option ℕ → Type 0
IsOtherTarget c None = Unit {0}
IsOtherTarget c (Some s) = IsOther c s

abbrev pub Unmentioned : Table → ℕ → Statement → Type 0
Unmentioned T c (Emit s e) = IsOther c s × OptionUnread c e
Unmentioned T c (If e p q) = Unread c e × Unmentioned T c p × Unmentioned T c q
Unmentioned T c (Suspend e p) = Unread c e × Unmentioned T c p
Unmentioned T c (Seq p q) = Unmentioned T c p × Unmentioned T c q
Unmentioned T c (Par p q) = Unmentioned T c p × Unmentioned T c q
Unmentioned T c (Loop p) = Unmentioned T c p
Unmentioned T c (Trap p) = Unmentioned T c p
Unmentioned T c (Local s p) = IsOther c s × Unmentioned T c p
Unmentioned T c (Async n) = IsOtherTarget c (T.target n) × AllUnread c (T.args n)
Unmentioned T c _ = Unit {0}
