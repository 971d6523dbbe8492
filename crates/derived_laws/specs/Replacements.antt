-- A statement with its signals and its asyncs' sites replaced, and what is then said of what it does. Two
-- signals may be replaced by one. (The renaming of a module's interface by `run`, Berry, The Esterel v5
-- Language Primer; values and sites are this project's own.)
use Rattle.std.specs.Prelude.{◌≡◌, ℕ, ◌==◌, map, option_map}
use Rattle.host_expr.specs.Expression.{Expression, Now, Pre, NowVal, PreVal, Not, Neg, Arith, Compare, And, Or}
use Rattle.host_expr.specs.Expression.{Choose}
use Rattle.host_expr.specs.Environment.{Env}
use Rattle.hh_term.specs.Statement.{Statement, Emit, If, Suspend, Seq, Par, Loop, Trap, Local, Async}
use Rattle.hh_term.specs.MustCan.{Table, MustCan, Bag}
use Rattle.hh_term.specs.Touches.{Touch}
use Rattle.hh_term.specs.Step.{Stepped}

abbrev pub expression_with : (ℕ → ℕ) → Expression → Expression
expression_with f (Now s) = Now (f s)
expression_with f (Pre s) = Pre (f s)
expression_with f (NowVal s) = NowVal (f s)
expression_with f (PreVal s) = PreVal (f s)
expression_with f (Not a) = Not (expression_with f a)
expression_with f (Neg p a) = Neg p (expression_with f a)
expression_with f (Arith p op a b) = Arith p op (expression_with f a) (expression_with f b)
expression_with f (Compare rel a b) = Compare rel (expression_with f a) (expression_with f b)
expression_with f (And a b) = And (expression_with f a) (expression_with f b)
expression_with f (Or a b) = Or (expression_with f a) (expression_with f b)
expression_with f (Choose a b c) = Choose (expression_with f a) (expression_with f b) (expression_with f c)
expression_with f e = e

-- by f for the signals, local ones too, and by g for the sites
abbrev pub statement_with : (ℕ → ℕ) → (ℕ → ℕ) → Statement → Statement
statement_with f g (Emit s e) = Emit (f s) (option_map (expression_with f) e)
statement_with f g (If e p q) = If (expression_with f e) (statement_with f g p) (statement_with f g q)
statement_with f g (Suspend e p) = Suspend (expression_with f e) (statement_with f g p)
statement_with f g (Seq p q) = Seq (statement_with f g p) (statement_with f g q)
statement_with f g (Par p q) = Par (statement_with f g p) (statement_with f g q)
statement_with f g (Loop p) = Loop (statement_with f g p)
statement_with f g (Trap p) = Trap (statement_with f g p)
statement_with f g (Local s p) = Local (f s) (statement_with f g p)
statement_with f g (Async n) = Async (g n)
statement_with f g p = p

-- each signal has the status and the value of that in its place
abbrev pub seen_by : (ℕ → ℕ) → Env → Env
seen_by f E s = E (f s)

-- emissions of a signal are emissions of that in its place
abbrev pub bag_with : (ℕ → ℕ) → Bag → Bag
bag_with f = map (λ e. (f e.0, e.1))

abbrev pub must_can_with : (ℕ → ℕ) → MustCan → MustCan
must_can_with f a = record { must = bag_with f a.must; code = a.code; can = bag_with f a.can; codes = a.codes }

abbrev pub touch_with : (ℕ → ℕ) → Touch → Touch
touch_with g t = record t { site = g t.site }

-- code, next mark and faults are as they are
abbrev pub stepped_with : (ℕ → ℕ) → (ℕ → ℕ) → Stepped → Stepped
stepped_with f g a =
    record {
      bag = bag_with f a.bag;
      code = a.code;
      next = a.next;
      touches = map (touch_with g) a.touches;
      faults = a.faults;
      doubled = map f a.doubled;
    }

-- no other signal is replaced by what replaces this one
abbrev pub IsAlone : (ℕ → ℕ) → ℕ → Type 0
IsAlone f s = (t : ℕ) → (f t == f s) ≡ (t == s)

-- a local signal is declared in both, and stays apart from all others
pub record SameSignal (T T' : Table) (f : ℕ → ℕ) (s : ℕ) : Type 0 where
  pub alone : IsAlone f s
  pub kind : T'.kind (f s) ≡ T.kind s
  pub first : T'.first (f s) ≡ T.first s
  pub word : T'.word (f s) ≡ T.word s
  pub position : T'.position (f s) ≡ T.position s

pub record SameSite (T T' : Table) (f g : ℕ → ℕ) (n : ℕ) : Type 0 where
  pub target : T'.target (g n) ≡ option_map f (T.target n)
  pub args : T'.args (g n) ≡ map (expression_with f) (T.args n)
  pub params : T'.params (g n) ≡ T.params n

-- what the statement declares, T' declares in its place
abbrev pub Declares : Table → Table → (ℕ → ℕ) → (ℕ → ℕ) → Statement → Type 0
Declares T T' f g (If e p q) = Declares T T' f g p × Declares T T' f g q
Declares T T' f g (Suspend e p) = Declares T T' f g p
Declares T T' f g (Seq p q) = Declares T T' f g p × Declares T T' f g q
Declares T T' f g (Par p q) = Declares T T' f g p × Declares T T' f g q
Declares T T' f g (Loop p) = Declares T T' f g p
Declares T T' f g (Trap p) = Declares T T' f g p
Declares T T' f g (Local s p) = SameSignal T T' f s × Declares T T' f g p
Declares T T' f g (Async n) = SameSite T T' f g n
Declares T T' f g _ = Unit {0}
