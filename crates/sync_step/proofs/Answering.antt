-- The parts of a reaction make its outcome.
use Rattle.std.proofs.Common.{◌≡◌, refl, sym, ap, ◌∙◌, subst, ℕ, ◌<◌, Option, Some, None, List, [], ◌∷◌}
use Rattle.std.proofs.Common.{◌++◌, ◌==◌, true, length, map, eqb-true, Vec, Global, arith}
use Rattle.std.specs.Vec.{vec_len}
use Rattle.std.specs.Prelude.{fold, flat_map}
use Rattle.std.specs.List.{AllByRecursion, range_with_len}
use Rattle.std.proofs.lemmas.List.{map-append}
use Rattle.hh_base.specs.declared.value.Pos.{Pos}
use Rattle.hh_base.specs.declared.value.FaultKind.{FaultKind}
use Rattle.hh_base.specs.declared.value.Value.{Value}
use Rattle.host_expr.specs.declared.cell.Cells.{Cells}
use Rattle.host_expr.specs.declared.cell.SigCell.{SigCell}
use Rattle.host_expr.specs.Environment.{Env, env_of}
use Rattle.hh_term.specs.IsProgram.{IsProgram}
use Rattle.hh_term.specs.Kernel.{Kernel}
use Rattle.hh_term.specs.MustCan.{Table, table_of, Bag}
use Rattle.hh_term.specs.Reaction.{Last, Outer, Ran, Completed, Outcome, Undecided, Doubled, Faulted, Completes}
use Rattle.hh_term.specs.Reaction.{outers_from, undecided, program_step, concluded, judged}
use Rattle.hh_term.specs.Reaction.{completed, react, leave_all, first_declared, earlier, control_after, now_of, given_bag}
use Rattle.hh_term.specs.Selection.{Control}
use Rattle.hh_term.specs.Step.{Stepped, doubled_by, overflow_by, values_of}
use Rattle.hh_term.specs.Touches.{by_site, numbered}
use Rattle.hh_term.specs.Views.{control_of}
use Rattle.hh_term.specs.declared.program.SignalDecl.{SignalDecl}
use Rattle.last_walk.specs.declared.last_pass.Emitted.{Emitted}
use Rattle.last_walk.specs.declared.last_pass.LastPass.{LastPass}
use Rattle.last_walk.specs.declared.whole.Ran.{Ran as ARan}
use Rattle.last_walk.specs.LastWalk.{touch_of, least, fault_place, place_of_fault, signal_place}
use Rattle.last_walk.specs.LastWalk.{place_of_signal, Noted}
use Rattle.last_walk.specs.Whole.{Begun, RanAs, Runs}
use Rattle.last_walk.proofs.Least.{least_turn}
use Rattle.last_walk.proofs.Noting.{least_both, noted_both}
use Rattle.status_table.specs.TableView.{cells_in}
use Rattle.status_table.specs.WholeProgram.{program_flat_step}
use Rattle.status_rounds.specs.declared.settle.Settled.{Settled}
use Rattle.status_rounds.specs.Given.{given_all, NoneTwice}
use Rattle.status_rounds.specs.Settled.{IsSettled}
use Rattle.sync_step.specs.declared.answer.Stepped.{Stepped as AStepped}
use Rattle.sync_step.specs.declared.answer.StepEnd.{StepEnd}
use Rattle.sync_step.specs.declared.answer.StepEnd.TheVariants as end
use Rattle.sync_step.specs.Reacting.{Concluded, Counted, JudgedAll, Names, control_by, doubles, now_at, overflows}
use Rattle.sync_step.specs.Told.{Tells, IsRefusedFor, completed_in, now_in}
use Rattle.sync_step.proofs.Counting.{counted, nows_are}
use Rattle.sync_step.proofs.Doubled.{AllValued, all_both, doubled_valued, program_valued}
use Rattle.sync_step.proofs.Firsts.{first_fault, first_of, first_signal, no_fault, no_signal}
use Rattle.sync_step.proofs.Left.{doubled_left, faults_left, values_at}
use Rattle.sync_step.proofs.Named.{HasName, all_named, rules_declared}

-- ---- what is refused and what completes

abbrev position_in : Option SignalDecl → Pos
position_in o = (elim o [ Some d ↦ d.pos | None ↦ record { 0 = 0 } ])

abbrev name_in : Option SignalDecl → Option (List ℕ)
name_in o = (elim o [ Some d ↦ d.name | None ↦ None ])

module _ (K : Kernel) (a : AStepped) (doubled : Option ℕ) (named : Names K doubled a.multiple) where
  none_refused : doubled ≡ None → a.multiple ≡ None
  none_refused e = subst (λ o. Names K o a.multiple) e named

  refused : (s : ℕ) (ss : List ℕ) → AllByRecursion (HasName K) (s ∷ ss) →
      place_of_signal (table_of K) doubled ≡ least None (map (signal_place (table_of K)) (s ∷ ss)) →
      IsRefusedFor K (fold (first_declared (table_of K)) s ss) a
  refused s ss all e =
      let t = first_signal (table_of K) doubled s ss e in
      let first : ℕ = fold (first_declared (table_of K)) s ss in
      let h : HasName K first = first_of (table_of K) (HasName K) s ss all.0 all.1 in
      let at : h.declared.pos.0 ≡ signal_place (table_of K) first =
      sym (ap (λ o. (position_in o).0) h.here) in
      record {
        name = h.name;
        told = subst (λ o. Names K o a.multiple) t.1 named first h.declared h.here (at ∙ sym t.2) ∙ h.named;
        declared = ap name_in h.here ∙ h.named;
      }

  by_faults : (fs : List (Pos × FaultKind)) (d : Completed) → a.multiple ≡ None →
      place_of_fault a.fault ≡ least None (map fault_place fs) → completed_in a ≡ d → Tells K
      (elim fs [ f ∷ gs ↦ Faulted (fold earlier f gs).0 (fold earlier f gs).1 | [] ↦ Completes d ]) (end.Stepped a)
  by_faults [] d m e c = (m, no_fault a.fault e, c)
  by_faults (f ∷ fs) d m e c = (m, first_fault a.fault f fs e)

  pub by_doubled : (ds : List ℕ) (fs : List (Pos × FaultKind)) (d : Completed) → AllByRecursion (HasName K) ds →
      place_of_signal (table_of K) doubled ≡ least None (map (signal_place (table_of K)) ds) →
      place_of_fault a.fault ≡ least None (map fault_place fs) → completed_in a ≡ d → Tells K
      (elim ds [
        | s ∷ ss ↦ Doubled (fold (first_declared (table_of K)) s ss)
        | [] ↦ (elim fs [ f ∷ gs ↦ Faulted (fold earlier f gs).0 (fold earlier f gs).1 | [] ↦ Completes d ])
      ]) (end.Stepped a)
  by_doubled [] fs d all e f c = by_faults fs d (none_refused (no_signal (table_of K) doubled e)) f c
  by_doubled (s ∷ ss) fs d all e f c = refused s ss all e

-- ---- what is decided

by_undecided : (K : Kernel) (o : Outcome) (us : List ℕ) (v : Vec ℕ Global) → v.items ≡ us → (v.items ≡ [] → ⊥) → Tells K
    (elim us [ [] ↦ o | s ∷ ss ↦ Undecided (s ∷ ss) ]) (end.Undecided v)
by_undecided K o [] v e f = absurd (f e)
by_undecided K o (s ∷ ss) v e f = e

by_decided : (K : Kernel) (o : Outcome) (us : List ℕ) (x : StepEnd) → us ≡ [] → Tells K o x → Tells K
    (elim us [ [] ↦ o | s ∷ ss ↦ Undecided (s ∷ ss) ]) x
by_decided K o [] x e h = h
by_decided K o (s ∷ ss) x e h = absurd (none e)
  where
    none : s ∷ ss ≡ [] → ⊥
    none q = cc

open_step : (T : Table) (o : Option Ran) (b0 b1 : LastPass) → Runs T o None b0 b1 → o ≡ None
open_step T None b0 b1 h = refl
open_step T (Some r) b0 b1 h = absurd h

record Made (T : Table) (o : Option Ran) (ran : ARan) (b0 b1 : LastPass) : Type 0 where
  pub did : Ran
  pub is : o ≡ Some did
  pub ran_as : RanAs T did ran b0 b1

made_step : (T : Table) (o : Option Ran) (ran : ARan) (b0 b1 : LastPass) → Runs T o (Some ran) b0 b1 → Made T o ran b0 b1
made_step T (Some r) ran b0 b1 h = record { did = r; is = refl; ran_as = h }
made_step T None ran b0 b1 h = absurd h

empty : (xs : List ℕ) → length xs ≡ 0 → xs ≡ []
empty [] e = refl
empty (x ∷ xs) e = absurd (omega (arith, e))

pub none_left : (v : Vec ℕ Global) → true ≡ (vec_len v == 0) → v.items ≡ []
none_left v e =
    let none = eqb-true (vec_len v) 0 (sym e) in
    empty v.items (omega (arith, none, v.ok))

-- a walk keeps the cells, and how many signals it counts
pub record Kept (b1 b2 : LastPass) : Type 0 where
  pub emitted : length b2.emitted.items ≡ length b1.emitted.items
  pub signals : b2.cells.signals.items ≡ b1.cells.signals.items

pub kept : (T : Table) (o : Option Ran) (ran : ARan) (b1 b2 : LastPass) → Runs T o (Some ran) b1 b2 → Kept b1 b2
kept T (Some r) ran b1 b2 h = record { emitted = h.noted.emitted.len; signals = h.noted.signals }
kept T None ran b1 b2 h = absurd h

pub record Opened (cells : Cells) (b0 b1 : LastPass) : Type 0 where
  pub signals : b1.cells.signals.items ≡ cells.signals.items
  pub args : b1.cells.args.items ≡ cells.args.items
  pub emitted : length b1.emitted.items ≡ length cells.signals.items

pub opened : (T : Table) (cells : Cells) (bag : Bag) (b0 b1 : LastPass) → Begun cells b0 → Noted T bag [] [] [] b0 b1 →
    Opened cells b0 b1
opened T cells bag b0 b1 h n = record {
  signals = n.signals ∙ ap (λ z. z.signals.items) h.cells;
  args = n.args ∙ ap (λ z. z.args.items) h.cells;
  emitted = n.emitted.len ∙ h.emitted.len;
}

-- what is met behind may be met before
turned : {A : Type 0} (place : A → ℕ) (xs ys : List A) → least None (map place (xs ++ ys))
    ≡ least None (map place (ys ++ xs))
turned place xs ys =
    ap (least None) (map-append place xs ys) ∙ least_turn None (map place xs) (map place ys)
    ∙ sym (ap (least None) (map-append place ys xs))

left_valued : (T : Table) (os : List Outer) (a : Stepped) → AllValued T a.doubled → AllValued T (leave_all T os a).doubled
left_valued T [] a h = h
left_valued T (o ∷ os) a h =
    let vs : List Value = values_of T o.signal (given_bag o ++ (leave_all T os a).bag) in
    all_both T (doubled_by T o.signal vs) (leave_all T os a).doubled (doubled_valued T o.signal vs)
    (left_valued T os a h)

-- ---- the whole

-- what holds where the program was walked
pub record Walked (K : Kernel) (last : ℕ) (is : List (ℕ × Value)) (s : Settled) (ran : ARan) (em : List Emitted)
    (x : Vec Emitted Global) (b0 b1 b2 b3 : LastPass) (a : AStepped) : Type 0 where
  pub begun : Begun s.cells b0
  pub given : Noted (table_of K) (given_all is) [] [] [] b0 b1
  pub emitted : em ≡ b2.emitted.items
  pub same : b3 ≡ record (record b2 { emitted = x }) { fault = b3.fault; doubled = b3.doubled }
  pub judged : JudgedAll (table_of K) K.interface em (record b2 { emitted = x }) b3
  pub told : Concluded K last ran em b3 a

module _ (K : Kernel) (rules : ∥ IsProgram K ∥₁) (c : Control) (ls : List Last) (many : length ls ≡ K.interface)
    (is : List (ℕ × Value)) (twice : NoneTwice is) (last : ℕ) (s : Settled)
    (h : IsSettled K c (outers_from 0 is ls) s)
  where
    abbrev T : Table
    T = table_of K

    abbrev os : List Outer
    os = outers_from 0 is ls

    abbrev E : Env
    E = env_of s.cells.signals.items

    abbrev outcome_at : Env → Outcome
    outcome_at F =
        (elim (undecided F os) [
          | [] ↦ concluded T os last F (program_step T K.statement c F)
          | u ∷ us ↦ Undecided (u ∷ us)
        ])

    pub told_undecided : (v : Vec ℕ Global) → v.items ≡ undecided E os → (v.items ≡ [] → ⊥) → Tells K
        (react T os K.statement c last) (end.Undecided v)
    told_undecided v e f =
        subst (λ F. Tells K (outcome_at F) (end.Undecided v)) h.env
        (by_undecided K (concluded T os last E (program_step T K.statement c E)) (undecided E os) v e f)

    decided : (x : StepEnd) → undecided E os ≡ [] → Tells K (concluded T os last E (program_step T K.statement c E)) x →
        Tells K (react T os K.statement c last) x
    decided x e t =
        subst (λ F. Tells K (outcome_at F) x) h.env
        (by_decided K (concluded T os last E (program_step T K.statement c E)) (undecided E os) x e t)

    abbrev flat_at : List SigCell → Option Ran
    flat_at cells = program_flat_step T (cells_in s.table) K.statement c (env_of cells)

    pub told_open : (b1 b2 : LastPass) (v : Vec ℕ Global) → undecided E os ≡ [] →
        b1.cells.signals.items ≡ s.cells.signals.items → Runs T (flat_at b1.cells.signals.items) None b1 b2 →
        v.items ≡ [] → Tells K (react T os K.statement c last) (end.Undecided v)
    told_open b1 b2 v e same r none =
        let o : program_step T K.statement c E ≡ None =
        sym h.step ∙ ap flat_at (sym same) ∙ open_step T (flat_at b1.cells.signals.items) b1 b2 r in
        decided (end.Undecided v) e
        (subst (λ z. Tells K (concluded T os last E z) (end.Undecided v)) (sym o) none)

    -- the program was walked
    module _ (ran : ARan) (em : List Emitted) (x : Vec Emitted Global) (b0 b1 b2 b3 : LastPass) (a : AStepped)
        (w : Walked K last is s ran em x b0 b1 b2 b3 a) (r : Ran) (did : RanAs (table_of K) r ran b1 b2)
      where
        whole : Noted T (given_all is ++ r.stepped.bag) r.stepped.touches r.stepped.faults r.stepped.doubled b0 b2
        whole =
            noted_both T (given_all is) r.stepped.bag [] r.stepped.touches [] r.stepped.faults [] r.stepped.doubled
            b0 b1 b2 w.given did.noted

        abbrev values : ℕ → List Value
        values = values_at T is twice r.stepped

        all_counted : (n : ℕ) → n < K.interface → Counted em n (values n)
        all_counted n lt =
            subst (λ z. Counted z n (values n)) (sym w.emitted)
            (counted T (length s.cells.signals.items) (given_all is ++ r.stepped.bag) b0.emitted.items b2.emitted.items
            w.begun.emitted whole.emitted n
            (omega (arith, lt, h.signals, rules_declared K rules)))

        faults_are : place_of_fault b3.fault ≡ least None (map fault_place (leave_all T os r.stepped).faults)
        faults_are =
            let fs : List (Pos × FaultKind) = r.stepped.faults in
            let gs : List (Pos × FaultKind) = overflows T values K.interface in
            least_both fault_place None (place_of_fault b2.fault) (place_of_fault b3.fault) fs gs
            (whole.fault ∙ ap (λ o. least (place_of_fault o) (map fault_place fs)) w.begun.fault)
            (w.judged.fault values all_counted)
            ∙ turned fault_place fs gs
            ∙ ap (λ n. least None (map fault_place (flat_map (λ s. overflow_by T s (values s)) (range_with_len 0 n) ++ fs)))
            (sym many)
            ∙ ap (λ z. least None (map fault_place z)) (sym (faults_left T is twice r.stepped 0 ls))

        doubled_are : place_of_signal T b3.doubled
            ≡ least None (map (signal_place T) (leave_all T os r.stepped).doubled)
        doubled_are =
            let ds : List ℕ = r.stepped.doubled in
            let gs : List ℕ = doubles T values K.interface in
            least_both (signal_place T) None (place_of_signal T b2.doubled) (place_of_signal T b3.doubled) ds gs
            (whole.doubled ∙ ap (λ o. least (place_of_signal T o) (map (signal_place T) ds)) w.begun.doubled)
            (w.judged.doubled values all_counted)
            ∙ turned (signal_place T) ds gs
            ∙ ap (λ n. least None (map (signal_place T) (flat_map (λ s. doubled_by T s (values s)) (range_with_len 0 n) ++ ds)))
            (sym many)
            ∙ ap (λ z. least None (map (signal_place T) z)) (sym (doubled_left T is twice r.stepped 0 ls))

        same_cells : b3.cells.signals.items ≡ s.cells.signals.items
        same_cells =
            ap (λ b. b.cells.signals.items) w.same ∙ whole.signals ∙ ap (λ z. z.signals.items) w.begun.cells

        same_touches : map touch_of b3.touches.items ≡ r.stepped.touches
        same_touches =
            ap (λ b. map touch_of b.touches.items) w.same ∙ whole.touches
            ∙ ap (λ z. map touch_of z ++ r.stepped.touches) w.begun.touches

        completed_are : completed_in a ≡ completed T os last E r
        completed_are =
            let t = w.told in
            let signals : map now_in a.signals.items ≡ map (now_of E r.stepped.bag) os =
            t.signals ∙ ap (λ z. map (now_at (env_of z) em) (range_with_len 0 K.interface)) same_cells
            ∙ ap (λ n. map (now_at E em) (range_with_len 0 n)) (sym many)
            ∙ nows_are T E is twice r.stepped.bag em 0 ls
            (λ n lt. all_counted n (omega (arith, lt, many))) in
            let code : a.code ≡ r.code = t.code ∙ did.code in
            let next : control_of a.next ≡ control_after last r = t.next ∙ ap (control_by last) did.next in
            let touches : map touch_of a.touches.items ≡ numbered last (by_site r.stepped.touches) =
            t.touches ∙ ap (λ z. numbered last (by_site z)) same_touches in
            λ i. record { signals = signals i; code = code i; next = next i; touches = touches i }

        valued_left : AllValued T r.stepped.doubled → AllValued T (leave_all T os r.stepped).doubled
        valued_left all = left_valued T os r.stepped all

        pub judged_told : program_step T K.statement c E ≡ Some r → Tells K (judged T os last E r) (end.Stepped a)
        judged_told e =
            by_doubled K a b3.doubled w.told.multiple (leave_all T os r.stepped).doubled
            (leave_all T os r.stepped).faults (completed T os last E r)
            (all_named K (leave_all T os r.stepped).doubled rules
            (valued_left (program_valued T K.statement c E r e)))
            doubled_are (ap place_of_fault w.told.fault ∙ faults_are) completed_are

    pub told_stepped : (ran : ARan) (em : List Emitted) (x : Vec Emitted Global) (b0 b1 b2 b3 : LastPass) (a : AStepped) →
        undecided E os ≡ [] → b1.cells.signals.items ≡ s.cells.signals.items →
        Runs T (flat_at b1.cells.signals.items) (Some ran) b1 b2 → Walked K last is s ran em x b0 b1 b2 b3 a →
        Tells K (react T os K.statement c last) (end.Stepped a)
    told_stepped ran em x b0 b1 b2 b3 a e same runs w =
        let m = made_step T (flat_at b1.cells.signals.items) ran b1 b2 runs in
        let o : program_step T K.statement c E ≡ Some m.did = sym h.step ∙ ap flat_at (sym same) ∙ m.is in
        decided (end.Stepped a) e
        (subst (λ z. Tells K (concluded T os last E z) (end.Stepped a)) (sym o)
        (judged_told ran em x b0 b1 b2 b3 a w m.did m.ran_as o))
