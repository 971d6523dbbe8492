-- What a walk meets in a statement, from what it meets in the parts.
use Rattle.std.proofs.Common.{◌≡◌, refl, sym, ap, ◌∙◌, subst, ℕ, ◌<◌, Bool, true, false, Option, None, List}
use Rattle.std.proofs.Common.{[], ◌⊎◌, ⊎_elim, ◌∷◌, length}
use Rattle.hh_base.specs.declared.item.Item.{Item}
use Rattle.hh_base.specs.declared.value.Value.{Value}
use Rattle.host_expr.specs.Expression.{Expression}
use Rattle.host_expr.specs.Environment.{Env, env_of, put}
use Rattle.host_expr.specs.Evaluation.{eval_of}
use Rattle.hh_term.specs.Statement.{Statement, If, Suspend, Par, Async}
use Rattle.hh_term.specs.Selection.{Selection, AtAsync, First, Second, Inside, Task, Start, Resume}
use Rattle.hh_term.specs.Codes.{only, either, in_turn, greater_of, lowered}
use Rattle.hh_term.specs.Flags.{Agrees, codes_in}
use Rattle.hh_term.specs.MustCan.{Table, Index, Possible, gives, sequence, is_end, go_on, parallel, greater}
use Rattle.hh_term.specs.MustCan.{trapped, lower_code, hide, raised}
use Rattle.status_table.specs.declared.state.Pass.{Pass}
use Rattle.status_table.specs.declared.state.Outer.{Outer}
use Rattle.status_table.specs.declared.walk.Verdict.TheVariants as verdict
use Rattle.status_table.specs.Flat.{Cells, cell_with, flat}
use Rattle.status_table.specs.Standing.{Pick, Stands}
use Rattle.status_table.specs.Putting.{Puts}
use Rattle.status_table.specs.Walking.{index_of, code_of, tested, first_bag, first_code, Counted, Met}
use Rattle.status_table.specs.Walking.{Entered, Left, Visited}
use Rattle.status_table.proofs.FlatLaws.{flat_fair}
use Rattle.status_table.proofs.Reading.{put_is_set}
use Rattle.status_table.proofs.Meeting.{met_weaker, met_leaf, met_sequence, met_stop, met_parallel}
use Rattle.status_table.proofs.Meeting.{met_one_of, met_trapped, met_hide, chosen_holds, chosen_fails}
use Rattle.status_table.proofs.Meeting.{chosen_open, held_holds, held_fails, held_open, counted_none}

-- what a walk meets of p, in an environment that is given
abbrev pub MetAt : Table → Cells → Statement → ℕ → ℕ → Task → Index → Env → Option ℕ → List Bool → Pass → Pass
    → Type 0
MetAt T τ p d l t i E c K b0 b1 = Met T τ (flat T τ p d l t i E) (Stands T τ p d l t i E)
    (λ s n v. Puts T τ p d l t i E s n v) c K b0 b1

pub moved : (T : Table) (τ : Cells) (p : Statement) (d l : ℕ) (t : Task) (sure : Bool) (j : Index) (E : Env)
    (c : Option ℕ) (K : List Bool) (b0 b1 : Pass) → Visited T τ p d l t sure c K b0 b1 → env_of
    b0.cells.signals.items ≡ E → index_of sure ≡ j → MetAt T τ p d l t j E c K b0 b1
moved T τ p d l t sure j E c K b0 b1 h e f =
    subst (λ x. MetAt T τ p d l t j x c K b0 b1) e
    (subst (λ i. MetAt T τ p d l t i (env_of b0.cells.signals.items) c K b0 b1) f h)

module _ (T : Table) (τ : Cells) where
  -- the whole in a statement that is known by an equation
  pub known_as : (st p : Statement) (d l : ℕ) (t : Task) (sure : Bool) (c c' : Option ℕ) (K : List Bool)
      (b0 b1 : Pass) → st ≡ p → c' ≡ c → Visited T τ p d l t sure c K b0 b1 → Visited T τ st d l t sure c' K
      b0 b1
  known_as st p d l t sure c c' K b0 b1 e f h =
      subst (λ x. Visited T τ x d l t sure c' K b0 b1) (sym e)
      (subst (λ x. Visited T τ p d l t sure x K b0 b1) (sym f) h)

  pub resumed_as : (st p : Statement) (t u : Task) (d l : ℕ) (sure : Bool) (c c' : Option ℕ) (K : List Bool)
      (b0 b1 : Pass) → st ≡ p → t ≡ u → c' ≡ c → Visited T τ p d l u sure c K b0 b1 → Visited T τ st d l t
      sure c' K b0 b1
  resumed_as st p t u d l sure c c' K b0 b1 e k f h = known_as st p d l t sure c c' K b0 b1 e f
      (subst (λ x. Visited T τ p d l x sure c K b0 b1) (sym k) h)

  pub in_turn_met : (p q : Statement) (d1 d2 l1 l2 : ℕ) (t1 : Task) (sure behind : Bool) (c1 c2 : Option ℕ)
      (K1 K2 K : List Bool) (b0 b1 b2 : Pass) →
      Visited T τ p d1 l1 t1 sure c1 K1 b0 b1 → codes_in K1 0 ≡ true → index_of behind ≡ is_end c1 → Visited T
      τ q d2 l2 Start behind c2 K2 b1 b2 → Agrees K (in_turn (codes_in K1) (codes_in K2)) →
      let E = env_of b0.cells.signals.items in
      let a = flat T τ p d1 l1 t1 (index_of sure) E in
      Met T τ (sequence a (λ j. flat T τ q d2 l2 Start j E))
      (Stands T τ p d1 l1 t1 (index_of sure) E × Pick (a.codes 0)
      (Stands T τ q d2 l2 Start (is_end a.code) E) (Unit {0}))
      (λ s n v. Puts T τ p d1 l1 t1 (index_of sure) E s n v ⊎ Pick (a.codes 0)
      (Puts T τ q d2 l2 Start (is_end a.code) E s n v) ⊥) (go_on c1 c2) K b0 b2
  in_turn_met p q d1 d2 l1 l2 t1 sure behind c1 c2 K1 K2 K b0 b1 b2 h e f g hK =
      let E : Env = env_of b0.cells.signals.items in
      met_sequence T τ (flat T τ p d1 l1 t1 (index_of sure) E) (λ j. flat T τ q d2 l2 Start j E)
      (Stands T τ p d1 l1 t1 (index_of sure) E) (λ j. Stands T τ q d2 l2 Start j E)
      (λ s n v. Puts T τ p d1 l1 t1 (index_of sure) E s n v) (λ j s n v. Puts T τ q d2 l2 Start j E s n v)
      c1 c2 K1 K2 K b0 b1 b2 h e
      (moved T τ q d2 l2 Start behind (is_end c1) E c2 K2 b1 b2 g (ap env_of h.signals) f) hK

  pub stopped_met : (p q : Statement) (d1 d2 l1 l2 : ℕ) (t1 : Task) (sure : Bool) (c1 : Option ℕ)
      (K1 : List Bool) (b0 b1 : Pass) →
      Visited T τ p d1 l1 t1 sure c1 K1 b0 b1 → codes_in K1 0 ≡ false →
      let E = env_of b0.cells.signals.items in
      let a = flat T τ p d1 l1 t1 (index_of sure) E in
      Met T τ (sequence a (λ j. flat T τ q d2 l2 Start j E))
      (Stands T τ p d1 l1 t1 (index_of sure) E × Pick (a.codes 0)
      (Stands T τ q d2 l2 Start (is_end a.code) E) (Unit {0}))
      (λ s n v. Puts T τ p d1 l1 t1 (index_of sure) E s n v ⊎ Pick (a.codes 0)
      (Puts T τ q d2 l2 Start (is_end a.code) E s n v) ⊥) c1 K1 b0 b1
  stopped_met p q d1 d2 l1 l2 t1 sure c1 K1 b0 b1 h e =
      let E : Env = env_of b0.cells.signals.items in
      met_stop T τ (flat T τ p d1 l1 t1 (index_of sure) E) (λ j. flat T τ q d2 l2 Start j E)
      (Stands T τ p d1 l1 t1 (index_of sure) E) (λ j. Stands T τ q d2 l2 Start j E)
      (λ s n v. Puts T τ p d1 l1 t1 (index_of sure) E s n v) (λ j s n v. Puts T τ q d2 l2 Start j E s n v)
      c1 K1 b0 b1
      ((flat_fair T τ p d1 l1 t1 E).within (index_of sure)) (flat_fair T τ q d2 l2 Start E).nothing h e

  pub beside_met : (p q : Statement) (d l : ℕ) (t1 t2 : Task) (sure : Bool) (c1 c2 : Option ℕ)
      (K1 K2 K : List Bool) (b0 b1 b2 : Pass) →
      Visited T τ p d l t1 sure c1 K1 b0 b1 → Visited T τ q d l t2 sure c2 K2 b1 b2 → Agrees K
      (greater_of (codes_in K1) (codes_in K2)) →
      let E = env_of b0.cells.signals.items in
      Met T τ (parallel (flat T τ p d l t1 (index_of sure) E) (flat T τ q d l t2 (index_of sure) E))
      (Stands T τ p d l t1 (index_of sure) E × Stands T τ q d l t2 (index_of sure) E)
      (λ s n v. Puts T τ p d l t1 (index_of sure) E s n v ⊎ Puts T τ q d l t2 (index_of sure) E s n v)
      (greater c1 c2) K b0 b2
  beside_met p q d l t1 t2 sure c1 c2 K1 K2 K b0 b1 b2 h g hK =
      let E : Env = env_of b0.cells.signals.items in
      met_parallel T τ (flat T τ p d l t1 (index_of sure) E) (flat T τ q d l t2 (index_of sure) E)
      (Stands T τ p d l t1 (index_of sure) E) (Stands T τ q d l t2 (index_of sure) E)
      (λ s n v. Puts T τ p d l t1 (index_of sure) E s n v)
      (λ s n v. Puts T τ q d l t2 (index_of sure) E s n v) c1 c2 K1 K2 K b0 b1 b2 h
      (moved T τ q d l t2 sure (index_of sure) E c2 K2 b1 b2 g (ap env_of h.signals) refl) hK

  -- ---- tests

  pub if_holds : (e : Expression) (p q : Statement) (d l : ℕ) (sure : Bool) (c : Option ℕ) (K : List Bool)
      (b0 b1 : Pass) → tested (eval_of e (env_of b0.cells.signals.items) []) ≡ verdict.Holds → Visited T τ p d
      l Start sure c K b0 b1 → Visited T τ (If e p q) d l Start sure c K b0 b1
  if_holds e p q d l sure c K b0 b1 v h =
      let E : Env = env_of b0.cells.signals.items in
      chosen_holds T τ c K b0 b1 (eval_of e E []) (index_of sure) (λ j. flat T τ p d l Start j E)
      (λ j. flat T τ q d l Start j E) (λ j. Stands T τ p d l Start j E) (λ j. Stands T τ q d l Start j E)
      (λ j s n v. Puts T τ p d l Start j E s n v) (λ j s n v. Puts T τ q d l Start j E s n v) v h

  pub if_fails : (e : Expression) (p q : Statement) (d l : ℕ) (sure : Bool) (c : Option ℕ) (K : List Bool)
      (b0 b1 : Pass) → tested (eval_of e (env_of b0.cells.signals.items) []) ≡ verdict.Fails → Visited T τ q d
      l Start sure c K b0 b1 → Visited T τ (If e p q) d l Start sure c K b0 b1
  if_fails e p q d l sure c K b0 b1 v h =
      let E : Env = env_of b0.cells.signals.items in
      chosen_fails T τ c K b0 b1 (eval_of e E []) (index_of sure) (λ j. flat T τ p d l Start j E)
      (λ j. flat T τ q d l Start j E) (λ j. Stands T τ p d l Start j E) (λ j. Stands T τ q d l Start j E)
      (λ j s n v. Puts T τ p d l Start j E s n v) (λ j s n v. Puts T τ q d l Start j E s n v) v h

  pub if_open : (e : Expression) (p q : Statement) (d l : ℕ) (sure : Bool) (c1 c2 : Option ℕ)
      (K1 K2 K : List Bool) (b0 b1 b2 : Pass) → tested (eval_of e (env_of b0.cells.signals.items) []) ≡
      verdict.Undecided → Visited T τ p d l Start false c1 K1 b0 b1 → Visited T τ q d l Start false c2 K2 b1
      b2 → Agrees K (either (codes_in K1) (codes_in K2)) → Visited T τ (If e p q) d l Start sure None K b0 b2
  if_open e p q d l sure c1 c2 K1 K2 K b0 b1 b2 v h g hK =
      let E : Env = env_of b0.cells.signals.items in
      chosen_open T τ None K b0 b2 (eval_of e E []) (index_of sure) (λ j. flat T τ p d l Start j E)
      (λ j. flat T τ q d l Start j E) (λ j. Stands T τ p d l Start j E) (λ j. Stands T τ q d l Start j E)
      (λ j s n v. Puts T τ p d l Start j E s n v) (λ j s n v. Puts T τ q d l Start j E s n v) v
      (met_one_of T τ (flat T τ p d l Start Possible E) (flat T τ q d l Start Possible E)
      (Stands T τ p d l Start Possible E) (Stands T τ q d l Start Possible E)
      (λ s n v. Puts T τ p d l Start Possible E s n v) (λ s n v. Puts T τ q d l Start Possible E s n v) c1
      c2 K1 K2 K b0 b1 b2
      (flat_fair T τ p d l Start E).nothing (flat_fair T τ q d l Start E).nothing h
      (moved T τ q d l Start false Possible E c2 K2 b1 b2 g (ap env_of h.signals) refl) hK)

  pub suspend_holds : (e : Expression) (p : Statement) (d l : ℕ) (m : Selection) (sure : Bool) (c : Option ℕ)
      (K : List Bool) (b : Pass) → tested (eval_of e (env_of b.cells.signals.items) []) ≡ verdict.Holds → c ≡
      code_of 1 sure → Agrees K (only 1) → Visited T τ (Suspend e p) d l (Resume (Inside m)) sure c K b b
  suspend_holds e p d l m sure c K b v h g =
      let E : Env = env_of b.cells.signals.items in
      held_holds T τ c K b b (eval_of e E []) (index_of sure) (λ j. flat T τ p d l (Resume m) j E)
      (λ j. Stands T τ p d l (Resume m) j E) (λ j s n v. Puts T τ p d l (Resume m) j E s n v) v
      (met_leaf T τ [] 1 (λ s n v. ⊥) sure c K b b (counted_none T 1 (index_of sure) b) h g)

  pub suspend_fails : (e : Expression) (p : Statement) (d l : ℕ) (m : Selection) (sure : Bool) (c : Option ℕ)
      (K : List Bool) (b0 b1 : Pass) → tested (eval_of e (env_of b0.cells.signals.items) []) ≡ verdict.Fails →
      Visited T τ p d l (Resume m) sure c K b0 b1 → Visited T τ (Suspend e p) d l (Resume (Inside m)) sure c K
      b0 b1
  suspend_fails e p d l m sure c K b0 b1 v h =
      let E : Env = env_of b0.cells.signals.items in
      held_fails T τ c K b0 b1 (eval_of e E []) (index_of sure) (λ j. flat T τ p d l (Resume m) j E)
      (λ j. Stands T τ p d l (Resume m) j E) (λ j s n v. Puts T τ p d l (Resume m) j E s n v) v h

  pub suspend_open : (e : Expression) (p : Statement) (d l : ℕ) (m : Selection) (sure : Bool)
      (c1 c2 : Option ℕ) (K1 K2 K : List Bool) (b0 b1 : Pass) → tested
      (eval_of e (env_of b0.cells.signals.items) []) ≡ verdict.Undecided → Visited T τ p d l (Resume m) false
      c1 K1 b0 b1 → c2 ≡ code_of 1 false → Agrees K2 (only 1) → Agrees K (either (codes_in K1) (codes_in K2))
      → Visited T τ (Suspend e p) d l (Resume (Inside m)) sure None K b0 b1
  suspend_open e p d l m sure c1 c2 K1 K2 K b0 b1 v h f g hK =
      let E : Env = env_of b0.cells.signals.items in
      held_open T τ None K b0 b1 (eval_of e E []) (index_of sure) (λ j. flat T τ p d l (Resume m) j E)
      (λ j. Stands T τ p d l (Resume m) j E) (λ j s n v. Puts T τ p d l (Resume m) j E s n v) v
      (met_one_of T τ (flat T τ p d l (Resume m) Possible E) (gives [] 1 Possible)
      (Stands T τ p d l (Resume m) Possible E) (Unit {0})
      (λ s n v. Puts T τ p d l (Resume m) Possible E s n v) (λ s n v. ⊥) c1 c2 K1 K2 K b0 b1 b1
      (flat_fair T τ p d l (Resume m) E).nothing (record { must = refl; code = refl }) h
      (met_leaf T τ [] 1 (λ s n v. ⊥) false c2 K2 b1 b1 (counted_none T 1 Possible b1) f g) hK)

  pub trap_met : (p : Statement) (d l : ℕ) (t : Task) (sure : Bool) (c1 : Option ℕ) (K1 K : List Bool)
      (b0 b1 : Pass) → Visited T τ p d l t sure c1 K1 b0 b1 → Agrees K (lowered (codes_in K1)) →
      let E = env_of b0.cells.signals.items in
      Met T τ (trapped (flat T τ p d l t (index_of sure) E)) (Stands T τ p d l t (index_of sure) E)
      (λ s n v. Puts T τ p d l t (index_of sure) E s n v) (lower_code c1) K b0 b1
  trap_met p d l t sure c1 K1 K b0 b1 h hK =
      let E : Env = env_of b0.cells.signals.items in
      met_trapped T τ (flat T τ p d l t (index_of sure) E) (Stands T τ p d l t (index_of sure) E)
      (λ s n v. Puts T τ p d l t (index_of sure) E s n v) c1 K1 K b0 b1 h hK

  -- ---- a scope

  pub local_met : (s : ℕ) (p : Statement) (d l : ℕ) (t : Task) (sure : Bool) (pre : Bool) (before : Value)
      (end : Option ℕ) (K : List Bool) (outer : Outer) (b0 b1 b2 b3 : Pass) →
      s < length b0.cells.signals.items → s < length b0.tallies.items →
      let c = cell_with (τ s l) pre before in
      Entered s c outer b0 b1 → Visited T τ p d l t sure end K b1 b2 → Left (T.kind s) s l outer b2 b3 →
      let F = put (env_of b0.cells.signals.items) s c in
      let a = flat T τ p d l t (index_of sure) F in
      Met T τ (hide s a) ((raised T s c a ≡ c) × Stands T τ p d l t (index_of sure) F)
      (λ r n v. ((r ≡ s) × (n ≡ l) × (v ≡ ((raised T s c a).status, (raised T s c a).value))) ⊎ Puts T τ p
      d l t (index_of sure) F r n v) end K b0 b3
  local_met s p d l t sure pre before end K outer b0 b1 b2 b3 ls lt en h le =
      let c = cell_with (τ s l) pre before in
      let F : Env = put (env_of b0.cells.signals.items) s c in
      met_hide T τ s l c (flat T τ p d l t (index_of sure) F) (Stands T τ p d l t (index_of sure) F)
      (λ r n v. Puts T τ p d l t (index_of sure) F r n v) end K outer b0 b1 b2 b3 ls lt refl en
      (moved T τ p d l t sure (index_of sure) F end K b1 b2 h
      (ap env_of en.signals ∙ put_is_set b0.cells.signals.items s c ls) refl) le

  -- ---- a part that rests beside one that ended, and an instance

  pub first_rests : (p q : Statement) (d l : ℕ) (m : Selection) (sure : Bool) (c1 c2 : Option ℕ)
      (K1 K2 K : List Bool) (b0 b1 : Pass) → Visited T τ p d l (Resume m) sure c1 K1 b0 b1 → c2 ≡ code_of 0
      sure → Agrees K2 (only 0) → Agrees K (greater_of (codes_in K1) (codes_in K2)) → Visited T τ (Par p q) d
      l (Resume (First m)) sure (greater c1 c2) K b0 b1
  first_rests p q d l m sure c1 c2 K1 K2 K b0 b1 h e g hK =
      let E : Env = env_of b0.cells.signals.items in
      met_weaker T τ (parallel (flat T τ p d l (Resume m) (index_of sure) E) (gives [] 0 (index_of sure)))
      (Stands T τ p d l (Resume m) (index_of sure) E × Unit {0})
      (Stands T τ p d l (Resume m) (index_of sure) E)
      (λ s n v. Puts T τ p d l (Resume m) (index_of sure) E s n v ⊎ ⊥)
      (λ s n v. Puts T τ p d l (Resume m) (index_of sure) E s n v) (greater c1 c2) K b0 b1 (λ x. x.0)
      (λ s n v x. ⊎_elim (λ y. y) (λ y. absurd y) x)
      (met_parallel T τ (flat T τ p d l (Resume m) (index_of sure) E) (gives [] 0 (index_of sure))
      (Stands T τ p d l (Resume m) (index_of sure) E) (Unit {0})
      (λ s n v. Puts T τ p d l (Resume m) (index_of sure) E s n v) (λ s n v. ⊥) c1 c2 K1 K2 K b0 b1 b1 h
      (met_leaf T τ [] 0 (λ s n v. ⊥) sure c2 K2 b1 b1 (counted_none T 0 (index_of sure) b1) e g) hK)

  pub second_rests : (p q : Statement) (d l : ℕ) (m : Selection) (sure : Bool) (c1 c2 : Option ℕ)
      (K1 K2 K : List Bool) (b0 b1 : Pass) → c1 ≡ code_of 0 sure → Agrees K1 (only 0) → Visited T τ q d l
      (Resume m) sure c2 K2 b0 b1 → Agrees K (greater_of (codes_in K1) (codes_in K2)) → Visited T τ (Par p q)
      d l (Resume (Second m)) sure (greater c1 c2) K b0 b1
  second_rests p q d l m sure c1 c2 K1 K2 K b0 b1 e g h hK =
      let E : Env = env_of b0.cells.signals.items in
      met_weaker T τ (parallel (gives [] 0 (index_of sure)) (flat T τ q d l (Resume m) (index_of sure) E))
      (Unit {0} × Stands T τ q d l (Resume m) (index_of sure) E)
      (Stands T τ q d l (Resume m) (index_of sure) E)
      (λ s n v. ⊥ ⊎ Puts T τ q d l (Resume m) (index_of sure) E s n v)
      (λ s n v. Puts T τ q d l (Resume m) (index_of sure) E s n v) (greater c1 c2) K b0 b1 (λ x. x.1)
      (λ s n v x. ⊎_elim (λ y. absurd y) (λ y. y) x)
      (met_parallel T τ (gives [] 0 (index_of sure)) (flat T τ q d l (Resume m) (index_of sure) E) (Unit {0})
      (Stands T τ q d l (Resume m) (index_of sure) E) (λ s n v. ⊥)
      (λ s n v. Puts T τ q d l (Resume m) (index_of sure) E s n v) c1 c2 K1 K2 K b0 b0 b1
      (met_leaf T τ [] 0 (λ s n v. ⊥) sure c1 K1 b0 b0 (counted_none T 0 (index_of sure) b0) e g) h hK)

  pub async_met : (n : ℕ) (d l : ℕ) (id : ℕ) (args : List Value) (queue : List Item) (suspended sure : Bool)
      (c : Option ℕ) (k : ℕ) (K : List Bool) (b0 b1 : Pass) → k ≡ first_code queue → Counted T
      (gives (first_bag (T.target n) queue) (first_code queue) (index_of sure)) b0 b1 → c ≡ code_of k sure →
      Agrees K (only k) → Visited T τ (Async n) d l (Resume (AtAsync id args queue suspended)) sure c K b0 b1
  async_met n d l id args [] suspended sure c k K b0 b1 e h f g =
      met_leaf T τ [] 1 (λ s n v. ⊥) sure c K b0 b1 h (f ∙ ap (λ x. code_of x sure) e)
      (subst (λ x. Agrees K (only x)) e g)
  async_met n d l id args (a ∷ queue) suspended sure c k K b0 b1 e h f g =
      met_leaf T τ (first_bag (T.target n) (a ∷ queue)) (first_code (a ∷ queue)) (λ s n v. ⊥) sure c K b0 b1 h
      (f ∙ ap (λ x. code_of x sure) e) (subst (λ x. Agrees K (only x)) e g)
