-- Must and Can with replaced signals.
use Rattle.std.proofs.Common.{◌≡◌, refl, sym, ap, ◌∙◌, ℕ, ◌+◌, Bool, true, false, cond, Option, Some, None, List}
use Rattle.std.proofs.Common.{[], ◌∷◌, ◌++◌}
use Rattle.std.proofs.lemmas.List.{map-append}
use Rattle.std.specs.Prelude.{◌==◌, option_map}
use Rattle.hh_base.specs.declared.item.Item.{Item}
use Rattle.hh_base.specs.declared.value.Value.{Value}
use Rattle.host_expr.specs.declared.cell.Cell.{Cell}
use Rattle.host_expr.specs.declared.cell.Cell.TheVariants as cell
use Rattle.host_expr.specs.declared.cell.SigCell.{SigCell}
use Rattle.host_expr.specs.Environment.{Env, unsolved, put}
use Rattle.host_expr.specs.Evaluation.{eval_of, truth}
use Rattle.hh_term.specs.Statement.{Statement, Nothing, Pause, Emit, If, Suspend, Seq, Par, Loop, Trap, Exit, Local}
use Rattle.hh_term.specs.Statement.{Async}
use Rattle.hh_term.specs.Selection.{AtAsync, First, Second, Both, Inside, Scope, Task, Start, Resume}
use Rattle.hh_term.specs.MustCan.{Table, MustCan, Bag, Index, Executed, Possible, must_can, emitted, gives, is_end}
use Rattle.hh_term.specs.MustCan.{one_of, go_on, sequence, parallel, trapped, chosen, held, answered, answer_bag}
use Rattle.hh_term.specs.MustCan.{answer_code, cells_of, without, hide, raised, round, solve, scoped, status_by}
use Rattle.hh_term.specs.MustCan.{value_by}
use Rattle.hh_term.specs.Codes.{either, in_turn, greater_of}
use Rattle.hh_term.specs.MustCan.{greater}
use Rattle.derived_laws.specs.Replacements.{statement_with, seen_by, bag_with, must_can_with}
use Rattle.derived_laws.specs.Replacements.{IsAlone, SameSignal, Declares}
use Rattle.derived_laws.proofs.ReplacedExpressions.{evaluates, emits}

module _ (f : ℕ → ℕ) where
  abbrev B : Bag → Bag
  B = bag_with f

  abbrev M : MustCan → MustCan
  M = must_can_with f

  pub joined_bags : (xs ys : Bag) → B xs ++ B ys ≡ B (xs ++ ys)
  joined_bags xs ys = sym (map-append (λ e. (f e.0, e.1)) xs ys)

  if_bag : (b : Bool) (xs : Bag) → cond b (B xs) [] ≡ B (cond b xs [])
  if_bag true xs = refl
  if_bag false xs = refl

  gives_with : (bag : Bag) (k : ℕ) (i : Index) → gives (B bag) k i ≡ M (gives bag k i)
  gives_with bag k Executed = refl
  gives_with bag k Possible = refl

  sequence_with : (a : MustCan) (p : Index → MustCan) → sequence (M a) (λ j. M (p j)) ≡ M (sequence a p)
  sequence_with a p =
      let b = p (is_end a.code) in
      λ i. record {
        must = joined_bags a.must b.must i;
        code = go_on a.code b.code;
        can = (ap (λ z. B a.can ++ z) (if_bag (a.codes 0) b.can) ∙ joined_bags a.can (cond (a.codes 0) b.can [])) i;
        codes = in_turn a.codes b.codes;
      }

  parallel_with : (a b : MustCan) → parallel (M a) (M b) ≡ M (parallel a b)
  parallel_with a b =
      λ i. record {
        must = joined_bags a.must b.must i;
        code = greater a.code b.code;
        can = joined_bags a.can b.can i;
        codes = greater_of a.codes b.codes;
      }

  one_of_with : (a b : MustCan) → one_of (M a) (M b) ≡ M (one_of a b)
  one_of_with a b = λ i. record { must = []; code = None; can = joined_bags a.can b.can i; codes = either a.codes b.codes }

  if_with : (b : Bool) (x y : MustCan) → cond b (M x) (M y) ≡ M (cond b x y)
  if_with true x y = refl
  if_with false x y = refl

  chosen_with : (c : Cell) (i : Index) (p q : Index → MustCan)
      → chosen c i (λ j. M (p j)) (λ j. M (q j)) ≡ M (chosen c i p q)
  chosen_with cell.Unknown i p q = one_of_with (p Possible) (q Possible)
  chosen_with (cell.Known v) i p q = if_with (truth v) (p i) (q i)
  chosen_with (cell.Faulted o k) i p q = refl

  held_with : (c : Cell) (i : Index) (p : Index → MustCan) → held c i (λ j. M (p j)) ≡ M (held c i p)
  held_with cell.Unknown i p = one_of_with (p Possible) (gives [] 1 Possible)
  held_with (cell.Known v) i p =
      ap (λ x. cond (truth v) x (M (p i))) (gives_with [] 1 i) ∙ if_with (truth v) (gives [] 1 i) (p i)
  held_with (cell.Faulted o k) i p = refl

  pub answer_with : (s : Option ℕ) (v : Value) → answer_bag (option_map f s) v ≡ B (answer_bag s v)
  answer_with None v = refl
  answer_with (Some s) v = refl

  answered_with : (s : Option ℕ) (queue : List Item) (i : Index)
      → answered (option_map f s) queue i ≡ M (answered s queue i)
  answered_with s [] i = gives_with [] 1 i
  answered_with s (a ∷ queue) i =
      ap (λ x. gives x (answer_code a.last) i) (answer_with s a.value)
      ∙ gives_with (answer_bag s a.value) (answer_code a.last) i

  -- ---- a signal that stays apart

  module _ (s : ℕ) (alone : IsAlone f s) where
    pub cells_with : (bag : Bag) → cells_of (f s) (B bag) ≡ cells_of s bag
    cells_with [] = refl
    cells_with (e ∷ bag) = λ i. cond (alone e.0 i) (e.1 ∷ cells_with bag i) (cells_with bag i)

    pub without_with : (bag : Bag) → without (f s) (B bag) ≡ B (without s bag)
    without_with [] = refl
    without_with (e ∷ bag) =
        (λ i. cond (alone e.0 i) (without_with bag i) ((f e.0, e.1) ∷ without_with bag i)) ∙ either_way (e.0 == s)
      where
        either_way : (b : Bool) → cond b (B (without s bag)) ((f e.0, e.1) ∷ B (without s bag))
            ≡ B (cond b (without s bag) (e ∷ without s bag))
        either_way true = refl
        either_way false = refl

    hide_with : (a : MustCan) → hide (f s) (M a) ≡ M (hide s a)
    hide_with a = λ i. record { must = without_with a.must i; code = a.code; can = without_with a.can i; codes = a.codes }

    pub put_with : (E : Env) (c : SigCell) → seen_by f (put E (f s) c) ≡ put (seen_by f E) s c
    put_with E c = λ i t. cond (alone t i) c (E (f t))

  module _ (T T' : Table) (s : ℕ) (same : SameSignal T T' f s) where
    raised_with : (c : SigCell) (a : MustCan) → raised T' (f s) c (M a) ≡ raised T s c a
    raised_with c a =
        λ i. record {
          status = status_by (cells_with s same.alone a.must i) (cells_with s same.alone a.can i);
          value = value_by (same.kind i) (same.word i) c.preval (cells_with s same.alone a.must i)
              (cells_with s same.alone a.can i);
          pre = c.pre;
          preval = c.preval;
        }

    module _ (p q : Env → MustCan) (h : (F : Env) → q F ≡ M (p (seen_by f F))) (E : Env) where
      body_with : (c : SigCell) → q (put E (f s) c) ≡ M (p (put (seen_by f E) s c))
      body_with c = h (put E (f s) c) ∙ ap (λ F. M (p F)) (put_with s same.alone E c)

      round_with : (c : SigCell) → round T' (f s) q E c ≡ round T s p (seen_by f E) c
      round_with c = ap (raised T' (f s) c) (body_with c) ∙ raised_with c (p (put (seen_by f E) s c))

      pub solve_with : (c : SigCell) → solve T' (f s) q E c ≡ solve T s p (seen_by f E) c
      solve_with c = ap (round T' (f s) q E) (round_with c) ∙ round_with (round T s p (seen_by f E) c)

      scoped_with : (c : SigCell) → scoped T' (f s) q E c ≡ M (scoped T s p (seen_by f E) c)
      scoped_with c =
          ap (λ (x : SigCell). hide (f s) (q (put E (f s) x))) (solve_with c)
          ∙ ap (hide (f s)) (body_with (solve T s p (seen_by f E) c))
          ∙ hide_with s same.alone (p (put (seen_by f E) s (solve T s p (seen_by f E) c)))

  -- ---- statements

  module _ (g : ℕ → ℕ) (T T' : Table) where
    abbrev R : Statement → Statement
    R = statement_with f g

    pub must_can_replaced : (p : Statement) (t : Task) (i : Index) (E : Env) → Declares T T' f g p
        → must_can T' (R p) t i E ≡ M (must_can T p t i (seen_by f E))
    must_can_replaced Nothing t i E d = gives_with [] 0 i
    must_can_replaced Pause Start i E d = gives_with [] 1 i
    must_can_replaced Pause (Resume m) i E d = gives_with [] 0 i
    must_can_replaced (Emit s e) t i E d =
        ap (λ c. gives ((f s, c) ∷ []) 0 i) (emits f E e) ∙ gives_with ((s, emitted e (seen_by f E)) ∷ []) 0 i
    must_can_replaced (Exit k) t i E d = gives_with [] (k + 2) i
    must_can_replaced (Async n) Start i E d = gives_with [] 1 i
    must_can_replaced (Async n) (Resume (AtAsync id args queue suspended)) i E d =
        ap (λ o. answered o queue i) d.target ∙ answered_with (T.target n) queue i
    must_can_replaced (Async n) (Resume _) i E d = gives_with [] 0 i
    must_can_replaced (If e p q) Start i E d =
        (λ k. chosen (evaluates f E e k) i (λ j. must_can_replaced p Start j E d.0 k)
        (λ j. must_can_replaced q Start j E d.1 k))
        ∙ chosen_with (eval_of e (seen_by f E) []) i (λ j. must_can T p Start j (seen_by f E))
        (λ j. must_can T q Start j (seen_by f E))
    must_can_replaced (If e p q) (Resume (First m)) i E d = must_can_replaced p (Resume m) i E d.0
    must_can_replaced (If e p q) (Resume (Second m)) i E d = must_can_replaced q (Resume m) i E d.1
    must_can_replaced (If e p q) (Resume _) i E d = gives_with [] 0 i
    must_can_replaced (Suspend e p) Start i E d = must_can_replaced p Start i E d
    must_can_replaced (Suspend e p) (Resume (Inside m)) i E d =
        (λ k. held (evaluates f E e k) i (λ j. must_can_replaced p (Resume m) j E d k))
        ∙ held_with (eval_of e (seen_by f E) []) i (λ j. must_can T p (Resume m) j (seen_by f E))
    must_can_replaced (Suspend e p) (Resume _) i E d = gives_with [] 0 i
    must_can_replaced (Seq p q) Start i E d =
        (λ k. sequence (must_can_replaced p Start i E d.0 k) (λ j. must_can_replaced q Start j E d.1 k))
        ∙ sequence_with (must_can T p Start i (seen_by f E)) (λ j. must_can T q Start j (seen_by f E))
    must_can_replaced (Seq p q) (Resume (First m)) i E d =
        (λ k. sequence (must_can_replaced p (Resume m) i E d.0 k) (λ j. must_can_replaced q Start j E d.1 k))
        ∙ sequence_with (must_can T p (Resume m) i (seen_by f E)) (λ j. must_can T q Start j (seen_by f E))
    must_can_replaced (Seq p q) (Resume (Second m)) i E d = must_can_replaced q (Resume m) i E d.1
    must_can_replaced (Seq p q) (Resume _) i E d = gives_with [] 0 i
    must_can_replaced (Par p q) Start i E d =
        (λ k. parallel (must_can_replaced p Start i E d.0 k) (must_can_replaced q Start i E d.1 k))
        ∙ parallel_with (must_can T p Start i (seen_by f E)) (must_can T q Start i (seen_by f E))
    must_can_replaced (Par p q) (Resume (First m)) i E d =
        (λ k. parallel (must_can_replaced p (Resume m) i E d.0 k) (gives_with [] 0 i k))
        ∙ parallel_with (must_can T p (Resume m) i (seen_by f E)) (gives [] 0 i)
    must_can_replaced (Par p q) (Resume (Second m)) i E d =
        (λ k. parallel (gives_with [] 0 i k) (must_can_replaced q (Resume m) i E d.1 k))
        ∙ parallel_with (gives [] 0 i) (must_can T q (Resume m) i (seen_by f E))
    must_can_replaced (Par p q) (Resume (Both m n)) i E d =
        (λ k. parallel (must_can_replaced p (Resume m) i E d.0 k) (must_can_replaced q (Resume n) i E d.1 k))
        ∙ parallel_with (must_can T p (Resume m) i (seen_by f E)) (must_can T q (Resume n) i (seen_by f E))
    must_can_replaced (Par p q) (Resume _) i E d = gives_with [] 0 i
    must_can_replaced (Loop p) Start i E d = must_can_replaced p Start i E d
    must_can_replaced (Loop p) (Resume (Inside m)) i E d =
        (λ k. sequence (must_can_replaced p (Resume m) i E d k) (λ j. must_can_replaced p Start j E d k))
        ∙ sequence_with (must_can T p (Resume m) i (seen_by f E)) (λ j. must_can T p Start j (seen_by f E))
    must_can_replaced (Loop p) (Resume _) i E d = gives_with [] 0 i
    must_can_replaced (Trap p) Start i E d = ap trapped (must_can_replaced p Start i E d)
    must_can_replaced (Trap p) (Resume (Inside m)) i E d = ap trapped (must_can_replaced p (Resume m) i E d)
    must_can_replaced (Trap p) (Resume _) i E d = gives_with [] 0 i
    must_can_replaced (Local s p) Start i E d =
        ap (λ v. scoped T' (f s) (must_can T' (R p) Start i) E (unsolved false v)) d.0.first
        ∙ scoped_with T T' s d.0 (must_can T p Start i) (must_can T' (R p) Start i)
        (λ F. must_can_replaced p Start i F d.1) E (unsolved false (T.first s))
    must_can_replaced (Local s p) (Resume (Scope m b v)) i E d =
        scoped_with T T' s d.0 (must_can T p (Resume m) i) (must_can T' (R p) (Resume m) i)
        (λ F. must_can_replaced p (Resume m) i F d.1) E (unsolved b v)
    must_can_replaced (Local s p) (Resume _) i E d = gives_with [] 0 i
