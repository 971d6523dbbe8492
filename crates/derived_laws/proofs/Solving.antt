-- A local signal, solved where its emissions do not depend on it.
use Rattle.std.proofs.Common.{◌≡◌, refl, sym, ap, subst, ◌∙◌, ℕ, Bool, true, false, cond, Option, Some, None, List}
use Rattle.std.proofs.Common.{[], ◌∷◌, ◌++◌, arith, append-nil}
use Rattle.std.specs.Prelude.{◌==◌, ◌&&◌}
use Rattle.std.proofs.lemmas.Bool.Decides.{nat_tests}
use Rattle.hh_base.specs.declared.value.Pos.{Pos}
use Rattle.hh_base.specs.declared.value.FaultKind.{FaultKind}
use Rattle.hh_base.specs.declared.value.FaultKind.TheVariants.{Overflow}
use Rattle.hh_base.specs.declared.value.Value.{Value}
use Rattle.hh_base.specs.declared.value.Value.TheVariants as value
use Rattle.hh_base.specs.declared.value.CombineWord.{CombineWord}
use Rattle.hh_base.specs.declared.value.CombineWord.TheVariants as word
use Rattle.host_expr.specs.declared.cell.Cell.{Cell}
use Rattle.host_expr.specs.declared.cell.Cell.TheVariants as cell
use Rattle.host_expr.specs.declared.cell.SigCell.{SigCell}
use Rattle.host_expr.specs.Expression.{Now}
use Rattle.host_expr.specs.Environment.{Env, is_known, is_decided, is_present, unsolved, put}
use Rattle.host_expr.specs.Evaluation.{eval_of, truth}
use Rattle.host_expr.specs.Combination.{is_several, is_overflowed}
use Rattle.hh_term.specs.Codes.{CodeSet, only, in_turn}
use Rattle.hh_term.specs.MustCan.{Table, MustCan, Bag, Index, Executed, Possible, gives, is_end, sequence}
use Rattle.hh_term.specs.MustCan.{cells_of, without, status_by, value_by, round, solve}
use Rattle.hh_term.specs.MustCan.{held as held_by}
use Rattle.hh_term.specs.Step.{Stepped, ◌>>=◌, wrapped, leave, scope_mark, local_step, doubled_by, overflow_by}

pub same_number : (c : ℕ) → (c == c) ≡ true
same_number c = grind (arith, nat_tests)

-- ---- the cells of a signal

pub cells_append : (s : ℕ) (xs ys : Bag) → cells_of s (xs ++ ys) ≡ cells_of s xs ++ cells_of s ys
cells_append s [] ys = refl
cells_append s (e ∷ xs) ys = at (e.0 == s) (cells_append s xs ys)
  where
    at : (b : Bool) → cells_of s (xs ++ ys) ≡ cells_of s xs ++ cells_of s ys
        → cond b (e.1 ∷ cells_of s (xs ++ ys)) (cells_of s (xs ++ ys))
        ≡ cond b (e.1 ∷ cells_of s xs) (cells_of s xs) ++ cells_of s ys
    at true h = ap (λ zs. e.1 ∷ zs) h
    at false h = h

pub without_none : (s : ℕ) (xs : Bag) → cells_of s xs ≡ [] → without s xs ≡ xs
without_none s [] h = refl
without_none s (e ∷ xs) h = at (e.0 == s) (without_none s xs) h
  where
    at : (b : Bool) → (cells_of s xs ≡ [] → without s xs ≡ xs) → cond b (e.1 ∷ cells_of s xs) (cells_of s xs) ≡ []
        → cond b (without s xs) (e ∷ without s xs) ≡ e ∷ xs
    at true g h = cc
    at false g h = ap (λ zs. e ∷ zs) (g h)

abbrev pub NoCells : ℕ → MustCan → Type 0
NoCells c a = (cells_of c a.must ≡ []) × (cells_of c a.can ≡ [])

pub give_must : (k : ℕ) (i : Index) → (gives [] k i).must ≡ []
give_must k Executed = refl
give_must k Possible = refl

pub give_can : (k : ℕ) (i : Index) → (gives [] k i).can ≡ []
give_can k Executed = refl
give_can k Possible = refl

abbrev pub no_bag : Bag
no_bag = []

pub none_if : (b : Bool) → cond b no_bag no_bag ≡ no_bag
none_if true = refl
none_if false = refl

-- ---- the branch that is suspended, and what counts beside it

abbrev pub first_of : MustCan → MustCan
first_of a = sequence a (λ j. gives [] 2 j)

abbrev pub unit : Cell
unit = cell.Known value.Unit

abbrev pub second_of : ℕ → MustCan → MustCan
second_of c a = sequence (sequence a (λ j. gives ((c, unit) ∷ []) 0 j)) (λ j. gives [] 2 j)

pub first_none : (c : ℕ) (a : MustCan) → NoCells c a → NoCells c (first_of a)
first_none c a h = (
  cells_append c a.must (gives [] 2 (is_end a.code)).must
      ∙ ap (λ z. z ++ cells_of c (gives [] 2 (is_end a.code)).must) h.0
      ∙ ap (cells_of c) (give_must 2 (is_end a.code)),
  cells_append c a.can (cond (a.codes 0) (gives [] 2 (is_end a.code)).can [])
      ∙ ap (λ z. z ++ cells_of c (cond (a.codes 0) (gives [] 2 (is_end a.code)).can [])) h.1
      ∙ ap (λ z. cells_of c (cond (a.codes 0) z [])) (give_can 2 (is_end a.code))
      ∙ ap (cells_of c) (none_if (a.codes 0)),
)

pub held_none : (c : ℕ) (x : Cell) (i : Index) (p : Index → MustCan) → ((j : Index) → NoCells c (p j))
    → NoCells c (held_by x i p)
held_none c cell.Unknown i p h =
    (refl, cells_append c (p Possible).can [] ∙ append-nil (cells_of c (p Possible).can) ∙ (h Possible).1)
held_none c (cell.Known v) i p h = at (truth v)
  where
    at : (b : Bool) → NoCells c (cond b (gives [] 1 i) (p i))
    at true = (ap (cells_of c) (give_must 1 i), ap (cells_of c) (give_can 1 i))
    at false = h i
held_none c (cell.Faulted o k) i p h = h i

-- what counts, where it goes on and where it ends
pub record Counts (a : MustCan) (k : ℕ) : Type 0 where
  pub must : a.must ≡ []
  pub can : a.can ≡ []
  pub code : a.code ≡ Some k
  pub ends : a.codes 0 ≡ only k 0

abbrev plainly : ℕ → CodeSet → MustCan
plainly code K = record { must = []; code = Some code; can = []; codes = K }

is_plain : (a : MustCan) (code : ℕ) → Counts a code → a ≡ plainly code a.codes
is_plain a code h =
    λ i. record { must = h.must i; code = h.code i; can = h.can i; codes = a.codes }

no_cells : (c : ℕ) (K : CodeSet) → K 0 ≡ false → NoCells c (second_of c (plainly 1 K))
no_cells c K e = (
  refl,
  ap (λ b. cells_of c (cond b ((c, unit) ∷ []) [] ++ cond (in_turn K (only 0) 0) [] [])) e
      ∙ ap (cells_of c) (none_if (in_turn K (only 0) 0)),
)

one_cell : (c : ℕ) (K : CodeSet) → K 0 ≡ true
    → (cells_of c (second_of c (plainly 0 K)).must ≡ unit ∷ []) × (cells_of c (second_of c (plainly 0 K)).can ≡ unit ∷ [])
one_cell c K e = (
  ap (λ b. cond b (unit ∷ []) []) (same_number c),
  ap (λ b. cells_of c (cond b ((c, unit) ∷ []) [] ++ cond (in_turn K (only 0) 0) [] [])) e
      ∙ ap (λ z. cells_of c ((c, unit) ∷ z)) (none_if (in_turn K (only 0) 0))
      ∙ ap (λ b. cond b (unit ∷ []) []) (same_number c),
)

pub goes_none : (c : ℕ) (a : MustCan) → Counts a 1 → NoCells c (second_of c a)
goes_none c a h = subst (λ x. NoCells c (second_of c x)) (sym (is_plain a 1 h)) (no_cells c a.codes h.ends)

pub ends_one : (c : ℕ) (a : MustCan) → Counts a 0
    → (cells_of c (second_of c a).must ≡ unit ∷ []) × (cells_of c (second_of c a).can ≡ unit ∷ [])
ends_one c a h =
    subst (λ x. (cells_of c (second_of c x).must ≡ unit ∷ []) × (cells_of c (second_of c x).can ≡ unit ∷ []))
    (sym (is_plain a 0 h)) (one_cell c a.codes h.ends)

-- ---- two rounds

abbrev pub solved_cell : Table → ℕ → Bool → Value → List Cell → List Cell → SigCell
solved_cell T c b v ms cs =
    record {
      status = status_by ms cs;
      value = value_by (T.kind c) (T.word c) v ms cs;
      pre = b;
      preval = v;
    }

-- the cells are these whatever is known of the signal
pub record Steady (c : ℕ) (p : Env → MustCan) (E : Env) (ms cs : List Cell) : Type 0 where
  pub must : (x : SigCell) → cells_of c (p (put E c x)).must ≡ ms
  pub can : (x : SigCell) → cells_of c (p (put E c x)).can ≡ cs

one_round : (T : Table) (c : ℕ) (p : Env → MustCan) (E : Env) (ms cs : List Cell) → Steady c p E ms cs
    → (x : SigCell) → round T c p E x ≡ solved_cell T c x.pre x.preval ms cs
one_round T c p E ms cs h x =
    λ i. record {
      status = status_by (h.must x i) (h.can x i);
      value = value_by (T.kind c) (T.word c) x.preval (h.must x i) (h.can x i);
      pre = x.pre;
      preval = x.preval;
    }

pub solves : (T : Table) (c : ℕ) (p : Env → MustCan) (E : Env) (ms cs : List Cell) → Steady c p E ms cs
    → (b : Bool) (v : Value) → solve T c p E (unsolved b v) ≡ solved_cell T c b v ms cs
solves T c p E ms cs h b v =
    ap (round T c p E) (one_round T c p E ms cs h (unsolved b v))
    ∙ one_round T c p E ms cs h (solved_cell T c b v ms cs)

pub local_by : (T : Table) (c : ℕ) (p : Env → MustCan) (q : Env → Option Stepped) (E : Env) (x d : SigCell)
    → solve T c p E x ≡ d → (is_decided d.status && is_known d.value) ≡ true
    → local_step T c p q E x ≡ (q (put E c d)) >>= (λ a. Some (leave T c (wrapped (scope_mark d) a)))
local_by T c p q E x d e f =
    ap (λ (y : SigCell). cond (is_decided y.status && is_known y.value)
    (q (put E c y) >>= (λ a. Some (leave T c (wrapped (scope_mark y) a)))) None) e
    ∙ ap (λ b. cond b (q (put E c d) >>= (λ a. Some (leave T c (wrapped (scope_mark d) a)))) None) f

abbrev pub no_step : Option Stepped
no_step = None

nothing_if : (b : Bool) → cond b no_step no_step ≡ no_step
nothing_if true = refl
nothing_if false = refl

pub local_none : (T : Table) (c : ℕ) (p : Env → MustCan) (q : Env → Option Stepped) (E : Env) (x : SigCell)
    → ((y : SigCell) → q (put E c y) ≡ None) → local_step T c p q E x ≡ None
local_none T c p q E x h =
    let d : SigCell = solve T c p E x in
    ap (λ o. cond (is_decided d.status && is_known d.value)
    (o >>= (λ a. Some (leave T c (wrapped (scope_mark d) a)))) None) (h d)
    ∙ nothing_if (is_decided d.status && is_known d.value)

-- what the row's test of it is
pub now_is : (c : ℕ) (E : Env) (d : SigCell) → eval_of (Now c) (put E c d) []
    ≡ cond (is_decided d.status) (cell.Known (value.Bool (is_present d.status))) cell.Unknown
now_is c E d =
    ap (λ b. cond (is_decided (cond b d (E c)).status)
    (cell.Known (value.Bool (is_present (cond b d (E c)).status))) cell.Unknown) (same_number c)

-- ---- what is said of it where its scope is left

abbrev overflow_of : Table → ℕ → List (Pos × FaultKind)
overflow_of T c = (T.position c, Overflow) ∷ []

pub nothing_over : (T : Table) (c : ℕ) → overflow_by T c [] ≡ []
nothing_over T c = at (T.word c)
  where
    at : (w : Option CombineWord) → cond (is_overflowed w []) (overflow_of T c) [] ≡ []
    at None = refl
    at (Some word.Plus) = refl
    at (Some word.Min) = refl
    at (Some word.Max) = refl
    at (Some word.And) = refl
    at (Some word.Or) = refl

pub one_over : (T : Table) (c : ℕ) (v : Value) → overflow_by T c (v ∷ []) ≡ []
one_over T c v = at (T.word c)
  where
    at : (w : Option CombineWord) → cond (is_overflowed w (v ∷ [])) (overflow_of T c) [] ≡ []
    at None = refl
    at (Some word.Plus) = refl
    at (Some word.Min) = refl
    at (Some word.Max) = refl
    at (Some word.And) = refl
    at (Some word.Or) = refl

pub nothing_doubled : (T : Table) (c : ℕ) → doubled_by T c [] ≡ []
nothing_doubled T c = at (T.word c)
  where
    at : (w : Option CombineWord) → cond (is_several (T.kind c) w []) (c ∷ []) [] ≡ []
    at None = refl
    at (Some w) = refl

pub one_doubled : (T : Table) (c : ℕ) (v : Value) → doubled_by T c (v ∷ []) ≡ []
one_doubled T c v = at (T.word c)
  where
    at : (w : Option CombineWord) → cond (is_several (T.kind c) w (v ∷ [])) (c ∷ []) [] ≡ []
    at None = refl
    at (Some w) = refl
