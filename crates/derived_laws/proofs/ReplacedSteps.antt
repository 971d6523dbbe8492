-- The step with replaced signals.
use Rattle.std.proofs.Common.{◌≡◌, refl, sym, ap, ◌∙◌, ℕ, Bool, true, false, cond, max, ◌&&◌, Option, Some, None}
use Rattle.std.proofs.Common.{List, [], ◌∷◌, ◌++◌, map}
use Rattle.std.proofs.lemmas.List.{map-append}
use Rattle.std.specs.Prelude.{◌==◌, option_map, zip}
use Rattle.hh_base.specs.declared.item.Item.{Item}
use Rattle.hh_base.specs.declared.value.Value.{Value}
use Rattle.host_expr.specs.declared.cell.Cell.{Cell}
use Rattle.host_expr.specs.declared.cell.Cell.TheVariants as cell
use Rattle.host_expr.specs.declared.cell.SigCell.{SigCell}
use Rattle.host_expr.specs.Environment.{Env, is_known, is_decided, unsolved, put}
use Rattle.host_expr.specs.Combination.{is_several, counts_as}
use Rattle.host_expr.specs.Evaluation.{eval_of, truth}
use Rattle.hh_term.specs.Statement.{Statement, Nothing, Pause, Emit, If, Suspend, Seq, Par, Loop, Trap, Exit, Local}
use Rattle.hh_term.specs.Statement.{Async}
use Rattle.hh_term.specs.Selection.{Selection, AtAsync, First, Second, Both, Inside, Scope, Task, Start}
use Rattle.hh_term.specs.Selection.{Resume}
use Rattle.hh_term.specs.MustCan.{Table, MustCan, Executed, must_can, solve, emitted, answer_bag, all_known}
use Rattle.hh_term.specs.Touches.{Touch, stopped, held_mark, held_touches}
use Rattle.hh_term.specs.Step.{Stepped, ◌>>=◌, completes, rests, closed, wrapped, wrap, with_fault, joined}
use Rattle.hh_term.specs.Step.{both_marks, beside, trap_step, on_test, emit_step, then_start, doubled_by, overflow_by}
use Rattle.hh_term.specs.Step.{values_of, leave, scope_mark, local_step, add_faults, argument_value, start_async}
use Rattle.hh_term.specs.Step.{async_step, answer_step, resume_async, step}
use Rattle.derived_laws.specs.Replacements.{statement_with, seen_by, must_can_with}
use Rattle.derived_laws.specs.Replacements.{touch_with, stepped_with, SameSignal, SameSite, Declares}
use Rattle.derived_laws.proofs.ReplacedExpressions.{evaluates, emits, arguments}
use Rattle.derived_laws.proofs.ReplacedBags.{joined_bags, answer_with, cells_with, without_with, put_with, solve_with}
use Rattle.derived_laws.proofs.ReplacedBags.{must_can_replaced}

module _ (f g : ℕ → ℕ) where
  abbrev S : Stepped → Stepped
  S = stepped_with f g

  abbrev O : Option Stepped → Option Stepped
  O = option_map S

  joined_touches : (ts us : List Touch) → map (touch_with g) ts ++ map (touch_with g) us
      ≡ map (touch_with g) (ts ++ us)
  joined_touches ts us = sym (map-append (touch_with g) ts us)

  stopped_touches : (ts : List Touch) → map stopped (map (touch_with g) ts) ≡ map (touch_with g) (map stopped ts)
  stopped_touches [] = refl
  stopped_touches (t ∷ ts) = ap (λ us. stopped (touch_with g t) ∷ us) (stopped_touches ts)

  closed_with : (a : Stepped) → closed (S a) ≡ S (closed a)
  closed_with a = by_code (a.code == 1)
    where
      by_code : (b : Bool) → cond b (S a) (record (S a) { next = None; touches = map stopped (S a).touches })
          ≡ S (cond b a (record a { next = None; touches = map stopped a.touches }))
      by_code true = refl
      by_code false = ap (λ ts. record (S a) { next = None; touches = ts }) (stopped_touches a.touches)

  joined_with : (a b : Stepped) → joined (S a) (S b) ≡ S (joined a b)
  joined_with a b =
      λ i. record {
        bag = joined_bags f a.bag b.bag i;
        code = b.code;
        next = b.next;
        touches = joined_touches a.touches b.touches i;
        faults = a.faults ++ b.faults;
        doubled = sym (map-append f a.doubled b.doubled) i;
      }

  beside_with : (a b : Stepped) → beside (S a) (S b) ≡ S (beside a b)
  beside_with a b =
      ap (λ (j : Stepped). closed (record j { code = max a.code b.code; next = both_marks a.next b.next }))
      (joined_with a b)
      ∙ closed_with (record (joined a b) { code = max a.code b.code; next = both_marks a.next b.next })

  wrap_with : (h : Selection → Selection) (o : Option Stepped) → wrap h (O o) ≡ O (wrap h o)
  wrap_with h None = refl
  wrap_with h (Some a) = refl

  fault_with : (c : Cell) (a : Stepped) → with_fault c (S a) ≡ S (with_fault c a)
  fault_with cell.Unknown a = refl
  fault_with (cell.Known v) a = refl
  fault_with (cell.Faulted o k) a = refl

  if_with : (b : Bool) (p q : Option Stepped) → cond b (O p) (O q) ≡ O (cond b p q)
  if_with true p q = refl
  if_with false p q = refl

  test_with : (c : Cell) (p q : Option Stepped) → on_test c (O p) (O q) ≡ O (on_test c p q)
  test_with cell.Unknown p q = refl
  test_with (cell.Known v) p q = if_with (truth v) p q
  test_with (cell.Faulted o k) p None = refl
  test_with (cell.Faulted o k) p (Some a) = refl

  -- by the code of the first
  second_with : (h k : Selection → Selection) (a : Stepped) (b : Bool) (q : Option Stepped)
      → cond b (O q >>= (λ y. Some (joined (S a) (wrapped k y)))) (Some (wrapped h (S a)))
      ≡ O (cond b (q >>= (λ y. Some (joined a (wrapped k y)))) (Some (wrapped h a)))
  second_with h k a true None = refl
  second_with h k a true (Some y) = ap Some (joined_with a (wrapped k y))
  second_with h k a false q = refl

  then_with : (h k : Selection → Selection) (p q : Option Stepped)
      → then_start h k (O p) (O q) ≡ O (then_start h k p q)
  then_with h k None q = refl
  then_with h k (Some a) q = second_with h k a (a.code == 0) q

  one_with : (h : Stepped → Stepped) → ((a : Stepped) → h (S a) ≡ S (h a)) → (o : Option Stepped)
      → (O o >>= (λ a. Some (h a))) ≡ O (o >>= (λ a. Some (h a)))
  one_with h e None = refl
  one_with h e (Some a) = ap Some (e a)

  two_with : (p q : Option Stepped) → (O p >>= (λ a. O q >>= (λ b. Some (beside a b))))
      ≡ O (p >>= (λ a. q >>= (λ b. Some (beside a b))))
  two_with None q = refl
  two_with (Some a) None = refl
  two_with (Some a) (Some b) = ap Some (beside_with a b)

  emit_with : (s : ℕ) (c : Cell) → emit_step (f s) c ≡ O (emit_step s c)
  emit_with s cell.Unknown = refl
  emit_with s (cell.Known v) = refl
  emit_with s (cell.Faulted p k) = refl

  faults_with : (cs : List Cell) (a : Stepped) → add_faults cs (S a) ≡ S (add_faults cs a)
  faults_with [] a = refl
  faults_with (c ∷ cs) a = ap (with_fault c) (faults_with cs a) ∙ fault_with c (add_faults cs a)

  held_with : (p : Statement) (m : Selection)
      → held_touches (statement_with f g p) m ≡ map (touch_with g) (held_touches p m)
  held_with (If e p q) (First m) = held_with p m
  held_with (If e p q) (Second m) = held_with q m
  held_with (Suspend e p) (Inside m) = held_with p m
  held_with (Seq p q) (First m) = held_with p m
  held_with (Seq p q) (Second m) = held_with q m
  held_with (Par p q) (First m) = held_with p m
  held_with (Par p q) (Second m) = held_with q m
  held_with (Par p q) (Both m n) =
      (λ i. held_with p m i ++ held_with q n i) ∙ joined_touches (held_touches p m) (held_touches q n)
  held_with (Loop p) (Inside m) = held_with p m
  held_with (Trap p) (Inside m) = held_with p m
  held_with (Local s p) (Scope m b v) = held_with p m
  held_with (Async n) (AtAsync id args queue suspended) = refl
  held_with _ _ = refl

  module _ (T T' : Table) where
    -- ---- scopes

    module _ (s : ℕ) (same : SameSignal T T' f s) where
      values_with : (a : Stepped) → values_of T' (f s) (S a).bag ≡ values_of T s a.bag
      values_with a = λ i. map (counts_as (same.kind i)) (cells_with f s same.alone a.bag i)

      doubled_with : (vs : List Value) → doubled_by T' (f s) vs ≡ map f (doubled_by T s vs)
      doubled_with vs = (λ i. cond (is_several (same.kind i) (same.word i) vs) (f s ∷ []) [])
          ∙ either_way (is_several (T.kind s) (T.word s) vs)
        where
          either_way : (b : Bool) → cond b (f s ∷ []) [] ≡ map f (cond b (s ∷ []) [])
          either_way true = refl
          either_way false = refl

      overflow_with : (vs : List Value) → overflow_by T' (f s) vs ≡ overflow_by T s vs
      overflow_with vs = λ i. overflow_by (record T { word = λ u. same.word i; position = λ u. same.position i }) s vs

      leave_with : (a : Stepped) → leave T' (f s) (S a) ≡ S (leave T s a)
      leave_with a =
          let vs = values_of T s a.bag in
          λ i. record {
            bag = without_with f s same.alone a.bag i;
            code = a.code;
            next = a.next;
            touches = map (touch_with g) a.touches;
            faults = (ap (overflow_by T' (f s)) (values_with a) ∙ overflow_with vs) i ++ a.faults;
            doubled = (ap (λ ds. ds ++ map f a.doubled) (ap (doubled_by T' (f s)) (values_with a) ∙ doubled_with vs)
                ∙ sym (map-append f (doubled_by T s vs) a.doubled)) i;
          }

      left_with : (d : SigCell) (o : Option Stepped) → (O o >>= (λ a. Some (leave T' (f s) (wrapped (scope_mark d) a))))
          ≡ O (o >>= (λ a. Some (leave T s (wrapped (scope_mark d) a))))
      left_with d None = refl
      left_with d (Some a) = ap Some (leave_with (wrapped (scope_mark d) a))

      decided_with : (d : SigCell) (b : Bool) (o : Option Stepped) →
          cond b (O o >>= (λ a. Some (leave T' (f s) (wrapped (scope_mark d) a)))) None
          ≡ O (cond b (o >>= (λ a. Some (leave T s (wrapped (scope_mark d) a)))) None)
      decided_with d true o = left_with d o
      decided_with d false o = refl

      module _ (p p' : Env → MustCan) (q q' : Env → Option Stepped)
          (must : (F : Env) → p' F ≡ must_can_with f (p (seen_by f F))) (steps : (F : Env) → q' F ≡ O (q (seen_by f F)))
          (E : Env) where
        at_cell : (d : SigCell) →
            cond (is_decided d.status && is_known d.value)
            (q' (put E (f s) d) >>= (λ a. Some (leave T' (f s) (wrapped (scope_mark d) a)))) None
            ≡ O (cond (is_decided d.status && is_known d.value)
            (q (put (seen_by f E) s d) >>= (λ a. Some (leave T s (wrapped (scope_mark d) a)))) None)
        at_cell d =
            ap (λ o. cond (is_decided d.status && is_known d.value)
            (o >>= (λ a. Some (leave T' (f s) (wrapped (scope_mark d) a)))) None)
            (steps (put E (f s) d) ∙ ap (λ F. O (q F)) (put_with f s same.alone E d))
            ∙ decided_with d (is_decided d.status && is_known d.value) (q (put (seen_by f E) s d))

        local_with : (c : SigCell) → local_step T' (f s) p' q' E c ≡ O (local_step T s p q (seen_by f E) c)
        local_with c =
            ap (λ (d : SigCell). cond (is_decided d.status && is_known d.value)
            (q' (put E (f s) d) >>= (λ a. Some (leave T' (f s) (wrapped (scope_mark d) a)))) None)
            (solve_with f T T' s same p p' must E c)
            ∙ at_cell (solve T s p (seen_by f E) c)

    -- ---- asyncs

    module _ (n : ℕ) (same : SameSite T T' f g n) where
      known_with : (cs : List Cell) (b : Bool) (args : List Value) →
          cond b (Some (add_faults cs (start_async (g n) args))) None
          ≡ O (cond b (Some (add_faults cs (start_async n args))) None)
      known_with cs true args = ap Some (faults_with cs (start_async n args))
      known_with cs false args = refl

      starts_with : (cs : List Cell) → async_step T' (g n) cs ≡ O (async_step T n cs)
      starts_with cs =
          ap (λ ks. cond (all_known cs)
          (Some (add_faults cs (start_async (g n) (map argument_value (zip ks cs))))) None) same.params
          ∙ known_with cs (all_known cs) (map argument_value (zip (T.params n) cs))

      answered_with : (id : ℕ) (args : List Value) (rest : List Item) (v : Value) (b : Bool) →
          record (answer_step T' (g n) id args b rest) { bag = answer_bag (T'.target (g n)) v }
          ≡ S (record (answer_step T n id args b rest) { bag = answer_bag (T.target n) v })
      answered_with id args rest v true =
          ap (λ xs. record (answer_step T' (g n) id args true rest) { bag = xs })
          (ap (λ o. answer_bag o v) same.target ∙ answer_with f (T.target n) v)
      answered_with id args rest v false =
          ap (λ xs. record (answer_step T' (g n) id args false rest) { bag = xs })
          (ap (λ o. answer_bag o v) same.target ∙ answer_with f (T.target n) v)

      resumes_with : (id : ℕ) (args : List Value) (queue : List Item)
          → resume_async T' (g n) id args queue ≡ S (resume_async T n id args queue)
      resumes_with id args [] = refl
      resumes_with id args (a ∷ rest) = answered_with id args rest a.value a.last

    -- ---- statements

    abbrev R : Statement → Statement
    R = statement_with f g

    pub step_replaced : (p : Statement) (t : Task) (E : Env) → Declares T T' f g p
        → step T' (R p) t E ≡ O (step T p t (seen_by f E))
    step_replaced Nothing t E d = refl
    step_replaced Pause Start E d = refl
    step_replaced Pause (Resume m) E d = refl
    step_replaced (Emit s e) t E d = ap (emit_step (f s)) (emits f E e) ∙ emit_with s (emitted e (seen_by f E))
    step_replaced (Exit k) t E d = refl
    step_replaced (If e p q) Start E d =
        (λ k. on_test (evaluates f E e k) ((ap (wrap First) (step_replaced p Start E d.0)
        ∙ wrap_with First (step T p Start (seen_by f E))) k)
        ((ap (wrap Second) (step_replaced q Start E d.1) ∙ wrap_with Second (step T q Start (seen_by f E))) k))
        ∙ test_with (eval_of e (seen_by f E) []) (wrap First (step T p Start (seen_by f E)))
        (wrap Second (step T q Start (seen_by f E)))
    step_replaced (If e p q) (Resume (First m)) E d =
        ap (wrap First) (step_replaced p (Resume m) E d.0) ∙ wrap_with First (step T p (Resume m) (seen_by f E))
    step_replaced (If e p q) (Resume (Second m)) E d =
        ap (wrap Second) (step_replaced q (Resume m) E d.1) ∙ wrap_with Second (step T q (Resume m) (seen_by f E))
    step_replaced (If e p q) (Resume _) E d = refl
    step_replaced (Suspend e p) Start E d =
        ap (wrap Inside) (step_replaced p Start E d) ∙ wrap_with Inside (step T p Start (seen_by f E))
    step_replaced (Suspend e p) (Resume (Inside m)) E d =
        (λ k. on_test (evaluates f E e k) (Some (rests (Inside (held_mark m)) (held_with p m k)))
        ((ap (wrap Inside) (step_replaced p (Resume m) E d)
        ∙ wrap_with Inside (step T p (Resume m) (seen_by f E))) k))
        ∙ test_with (eval_of e (seen_by f E) []) (Some (rests (Inside (held_mark m)) (held_touches p m)))
        (wrap Inside (step T p (Resume m) (seen_by f E)))
    step_replaced (Suspend e p) (Resume _) E d = refl
    step_replaced (Seq p q) Start E d =
        (λ k. then_start First Second (step_replaced p Start E d.0 k) (step_replaced q Start E d.1 k))
        ∙ then_with First Second (step T p Start (seen_by f E)) (step T q Start (seen_by f E))
    step_replaced (Seq p q) (Resume (First m)) E d =
        (λ k. then_start First Second (step_replaced p (Resume m) E d.0 k) (step_replaced q Start E d.1 k))
        ∙ then_with First Second (step T p (Resume m) (seen_by f E)) (step T q Start (seen_by f E))
    step_replaced (Seq p q) (Resume (Second m)) E d =
        ap (wrap Second) (step_replaced q (Resume m) E d.1) ∙ wrap_with Second (step T q (Resume m) (seen_by f E))
    step_replaced (Seq p q) (Resume _) E d = refl
    step_replaced (Par p q) Start E d =
        (λ k. (step_replaced p Start E d.0 k) >>= (λ a. (step_replaced q Start E d.1 k) >>= (λ b. Some (beside a b))))
        ∙ two_with (step T p Start (seen_by f E)) (step T q Start (seen_by f E))
    step_replaced (Par p q) (Resume (First m)) E d =
        ap (λ x. x >>= (λ a. Some (beside a (completes 0)))) (step_replaced p (Resume m) E d.0)
        ∙ one_with (λ a. beside a (completes 0)) (λ a. beside_with a (completes 0)) (step T p (Resume m) (seen_by f E))
    step_replaced (Par p q) (Resume (Second m)) E d =
        ap (λ x. x >>= (λ b. Some (beside (completes 0) b))) (step_replaced q (Resume m) E d.1)
        ∙ one_with (λ b. beside (completes 0) b) (λ b. beside_with (completes 0) b) (step T q (Resume m) (seen_by f E))
    step_replaced (Par p q) (Resume (Both m n)) E d =
        (λ k. (step_replaced p (Resume m) E d.0 k)
        >>= (λ a. (step_replaced q (Resume n) E d.1 k) >>= (λ b. Some (beside a b))))
        ∙ two_with (step T p (Resume m) (seen_by f E)) (step T q (Resume n) (seen_by f E))
    step_replaced (Par p q) (Resume _) E d = refl
    step_replaced (Loop p) Start E d =
        ap (wrap Inside) (step_replaced p Start E d) ∙ wrap_with Inside (step T p Start (seen_by f E))
    step_replaced (Loop p) (Resume (Inside m)) E d =
        (λ k. then_start Inside Inside (step_replaced p (Resume m) E d k) (step_replaced p Start E d k))
        ∙ then_with Inside Inside (step T p (Resume m) (seen_by f E)) (step T p Start (seen_by f E))
    step_replaced (Loop p) (Resume _) E d = refl
    step_replaced (Trap p) Start E d =
        ap (λ x. x >>= (λ a. Some (trap_step a))) (step_replaced p Start E d)
        ∙ one_with trap_step (λ a. refl) (step T p Start (seen_by f E))
    step_replaced (Trap p) (Resume (Inside m)) E d =
        ap (λ x. x >>= (λ a. Some (trap_step a))) (step_replaced p (Resume m) E d)
        ∙ one_with trap_step (λ a. refl) (step T p (Resume m) (seen_by f E))
    step_replaced (Trap p) (Resume _) E d = refl
    step_replaced (Local s p) Start E d =
        ap (λ v. local_step T' (f s) (must_can T' (R p) Start Executed) (step T' (R p) Start) E (unsolved false v)) d.0.first
        ∙ local_with s d.0 (must_can T p Start Executed) (must_can T' (R p) Start Executed) (step T p Start)
        (step T' (R p) Start) (λ F. must_can_replaced f g T T' p Start Executed F d.1)
        (λ F. step_replaced p Start F d.1) E (unsolved false (T.first s))
    step_replaced (Local s p) (Resume (Scope m b v)) E d =
        local_with s d.0 (must_can T p (Resume m) Executed) (must_can T' (R p) (Resume m) Executed)
        (step T p (Resume m)) (step T' (R p) (Resume m))
        (λ F. must_can_replaced f g T T' p (Resume m) Executed F d.1)
        (λ F. step_replaced p (Resume m) F d.1) E (unsolved b v)
    step_replaced (Local s p) (Resume _) E d = refl
    step_replaced (Async n) Start E d =
        ap (λ es. async_step T' (g n) (map (λ e. eval_of e E []) es)) d.args
        ∙ ap (async_step T' (g n)) (arguments f E (T.args n))
        ∙ starts_with n d (map (λ e. eval_of e (seen_by f E) []) (T.args n))
    step_replaced (Async n) (Resume (AtAsync id args queue suspended)) E d = ap Some (resumes_with n d id args queue)
    step_replaced (Async n) (Resume _) E d = refl
