-- What counts emits nothing while it waits.
use Rattle.std.proofs.Common.{◌≡◌, ap, ◌∙◌, ℕ, Bool, true, false, cond, List, [], ◌∷◌, ◌++◌, replicate}
use Rattle.host_expr.specs.declared.cell.Cell.{Cell}
use Rattle.host_expr.specs.declared.cell.Cell.TheVariants as cell
use Rattle.host_expr.specs.declared.expr.Expr.{Expr}
use Rattle.host_expr.specs.Environment.{Env}
use Rattle.host_expr.specs.Evaluation.{truth}
use Rattle.hh_term.specs.Statement.{Statement, Nothing, Seq}
use Rattle.hh_term.specs.Selection.{Selection, Start, Resume}
use Rattle.hh_term.specs.MustCan.{Table, MustCan, Index, Possible, must_can, gives, is_end, sequence, chosen}
use Rattle.kernel_expand.specs.Rows as row
use Rattle.kernel_expand.proofs.Alike.{halves_alike}
use Rattle.derived_laws.specs.Statements.{plain, test}
use Rattle.derived_laws.specs.Waits.{awaiting}
use Rattle.derived_laws.specs.Counts.{one_after_other, turns, Turn, now, later}
use Rattle.derived_laws.proofs.Solving.{give_can, none_if}
use Rattle.derived_laws.proofs.Turns.{Either, left, right, either, each}

sequence_silent : (a : MustCan) (f : Index → MustCan) → a.can ≡ [] → ((j : Index) → (f j).can ≡ [])
    → (sequence a f).can ≡ []
sequence_silent a f h g =
    ap (λ z. z ++ cond (a.codes 0) (f (is_end a.code)).can []) h
    ∙ ap (λ z. cond (a.codes 0) z []) (g (is_end a.code)) ∙ none_if (a.codes 0)

chosen_silent : (x : Cell) (i : Index) (p q : Index → MustCan) → ((j : Index) → (p j).can ≡ [])
    → ((j : Index) → (q j).can ≡ []) → (chosen x i p q).can ≡ []
chosen_silent cell.Unknown i p q h g = ap (λ z. z ++ (q Possible).can) (h Possible) ∙ g Possible
chosen_silent (cell.Known v) i p q h g = at (truth v)
  where
    at : (b : Bool) → (cond b (p i) (q i)).can ≡ []
    at true = h i
    at false = g i
chosen_silent (cell.Faulted o k) i p q h g = g i

exits_silent : (x : Cell) (i : Index) → (chosen x i (λ j. gives [] 2 j) (λ j. gives [] 0 j)).can ≡ []
exits_silent x i =
    chosen_silent x i (λ j. gives [] 2 j) (λ j. gives [] 0 j) (λ j. give_can 2 j) (λ j. give_can 0 j)

pub record Silent (T : Table) (p : Statement) (ms : List Selection) : Type 0 where
  pub start : (i : Index) (E : Env) → (must_can T p Start i E).can ≡ []
  pub resume : (i : Index) (E : Env) (m : Selection) (rest : List Selection) → Turn ms m rest
      → (must_can T p (Resume m) i E).can ≡ []

none_silent : (T : Table) → Silent T Nothing []
none_silent T = record { start = λ i E. give_can 0 i; resume = λ i E m rest t. elim t [ ] }

one_silent : (T : Table) (d : Expr ℕ) → Silent T (row.await plain d) (awaiting ∷ [])
one_silent T d = record { start = start; resume = resume }
  where
    start : (i : Index) (E : Env) → (must_can T (row.await plain d) Start i E).can ≡ []
    start i E =
        sequence_silent (gives [] 1 i) (λ j. chosen (test d E) j (λ k. gives [] 2 k) (λ k. gives [] 0 k))
        (give_can 1 i) (exits_silent (test d E))

    resume : (i : Index) (E : Env) (m : Selection) (rest : List Selection) → Turn (awaiting ∷ []) m rest
        → (must_can T (row.await plain d) (Resume m) i E).can ≡ []
    resume i E m rest (now k ms) =
        sequence_silent
        (sequence (gives [] 0 i) (λ j. chosen (test d E) j (λ k. gives [] 2 k) (λ k. gives [] 0 k)))
        (λ j. sequence (gives [] 1 j) (λ j. chosen (test d E) j (λ k. gives [] 2 k) (λ k. gives [] 0 k)))
        (sequence_silent (gives [] 0 i) (λ j. chosen (test d E) j (λ k. gives [] 2 k) (λ k. gives [] 0 k))
        (give_can 0 i) (exits_silent (test d E)))
        (λ j. start j E)
    resume i E m rest (later k n ms r t) = elim t [ ]

seq_silent : (T : Table) (p : Statement) (ms : List Selection) (q : Statement) (ns : List Selection)
    → Silent T p ms → Silent T q ns → Silent T (Seq p q) (one_after_other ms ns)
seq_silent T p ms q ns h g = record { start = start; resume = λ i E m rest t. resume i E m rest (either ms ns m rest t) }
  where
    start : (i : Index) (E : Env) → (must_can T (Seq p q) Start i E).can ≡ []
    start i E =
        sequence_silent (must_can T p Start i E) (λ j. must_can T q Start j E) (h.start i E) (λ j. g.start j E)

    resume : (i : Index) (E : Env) (m : Selection) (rest : List Selection) → Either ms ns m rest
        → (must_can T (Seq p q) (Resume m) i E).can ≡ []
    resume i E m rest (left n r t) =
        sequence_silent (must_can T p (Resume n) i E) (λ j. must_can T q Start j E) (h.resume i E n r t)
        (λ j. g.start j E)
    resume i E m rest (right n r t) = g.resume i E n r t

pub count_silent : (T : Table) (n : ℕ) (d : Expr ℕ) → Silent T (row.await_count plain n d) (turns n)
count_silent T n d =
    halves_alike (Silent T) (λ p q. Seq p q) one_after_other Nothing [] (none_silent T) (seq_silent T)
    (replicate n (row.await plain d)) (replicate n (awaiting ∷ []))
    (each (Silent T) n (row.await plain d) (awaiting ∷ []) (one_silent T d))
