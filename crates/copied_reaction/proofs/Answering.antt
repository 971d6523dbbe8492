-- What a copied program answers is what the program answers.
use Rattle.std.proofs.Common.{◌≡◌, ℕ, ◌<◌, Bool, true, false, cond, Option, Some, None, List, [], ◌∷◌, ◌++◌}
use Rattle.std.proofs.Common.{map, refl}
use Rattle.std.proofs.Common.{sym, ap, subst, ◌∙◌}
use Rattle.std.specs.Prelude.{fold, nat_lt}
use Rattle.std.specs.List.{AllByRecursion}
use Rattle.hh_base.specs.declared.value.Pos.{Pos}
use Rattle.hh_base.specs.declared.value.FaultKind.{FaultKind}
use Rattle.host_expr.specs.Combination.{counts_as}
use Rattle.host_expr.specs.Environment.{Env}
use Rattle.hh_term.specs.Selection.{Selection, At, Ended}
use Rattle.hh_term.specs.Kernel.{Kernel}
use Rattle.hh_term.specs.IsProgram.{IsProgram}
use Rattle.hh_term.specs.MustCan.{Table, table_of, cells_of, without}
use Rattle.hh_term.specs.Touches.{marks_numbered}
use Rattle.hh_term.specs.Step.{Stepped, leave, doubled_by, overflow_by, values_of}
use Rattle.hh_term.specs.Reaction.{Outer, Ran, Completed, Outcome, Doubled, Faulted, Completes}
use Rattle.hh_term.specs.Reaction.{given_bag, leave_all}
use Rattle.hh_term.specs.Reaction.{now_of, first_declared, earlier, completed}
use Rattle.hh_term.specs.Reaction.{concluded}
use Rattle.loop_copy.specs.Copies.{copied_program, original_site}
use Rattle.loop_copy.specs.Stands.{Stands, StandsFor}
use Rattle.copy_laws.specs.Stepping.{BothOrNone, declared_in}
use Rattle.copy_laws.specs.Lawful.{RunsTheSame}
use Rattle.copy_laws.proofs.Doing.{kind_of}
use Rattle.copy_laws.proofs.Steps.{declared_both, same_overflow, same_doubled, position_of}
use Rattle.copied_reaction.specs.Reacting.{CompletesTheSame, GivesTheSameIds, ReactsTheSame}
use Rattle.copied_reaction.proofs.News.{Ascends, new_sites}
use Rattle.copied_reaction.proofs.Numbering.{same_bag, same_new, numbered_stand}
use Rattle.copied_reaction.proofs.Solving.{declared, same_bags}

-- the signal of least position is declared the same
module _ (K C : Kernel) where
  abbrev T : Table
  T = table_of K

  abbrev U : Table
  U = table_of C

  either_declared : (k : Kernel) (b : Bool) (s t : ℕ) → declared_in k (cond b t s)
      ≡ cond b (declared_in k t) (declared_in k s)
  either_declared k true s t = refl
  either_declared k false s t = refl

  same_first : (s t s' t' : ℕ) → declared_in C s' ≡ declared_in K s → declared_in C t' ≡ declared_in K t
      → declared_in C (first_declared U s' t') ≡ declared_in K (first_declared T s t)
  same_first s t s' t' e f =
      either_declared C (nat_lt (U.position t').0 (U.position s').0) s' t'
      ∙ (λ i. cond (nat_lt (position_of (f i)).0 (position_of (e i)).0) (f i) (e i))
      ∙ sym (either_declared K (nat_lt (T.position t).0 (T.position s).0) s t)

  pub same_least : (ss ts : List ℕ) (s t : ℕ) → declared_in C t ≡ declared_in K s
      → map (declared_in C) ts ≡ map (declared_in K) ss
      → declared_in C (fold (first_declared U) t ts) ≡ declared_in K (fold (first_declared T) s ss)
  same_least [] [] s t e h = e
  same_least (x ∷ ss) (y ∷ ts) s t e h =
      let head : declared_in C y ≡ declared_in K x = cc in
      let tail : map (declared_in C) ts ≡ map (declared_in K) ss = cc in
      same_least ss ts (first_declared T s x) (first_declared U t y) (same_first s x t y e head) tail
  same_least [] (y ∷ ts) s t e h = absurd (let no : ⊥ = cc in no)
  same_least (x ∷ ss) [] s t e h = absurd (let no : ⊥ = cc in no)

module _ (K : Kernel) (r : IsProgram K) where
  abbrev P : Table
  P = table_of K

  abbrev Q : Table
  Q = table_of (copied_program K)

  -- what is left of the steps where the interface is left
  record LeftTheSame (a c : Stepped) : Type 0 where
    pub bag : c.bag ≡ a.bag
    pub faults : c.faults ≡ a.faults
    pub doubled : map (declared_in (copied_program K)) c.doubled ≡ map (declared_in K) a.doubled

  one_left : (s : ℕ) → s < K.interface → (a c : Stepped) → LeftTheSame a c
      → LeftTheSame (leave P s a) (leave Q s c)
  one_left s low a c h =
      let e = declared K r s low in
      let vs : values_of Q s c.bag ≡ values_of P s a.bag
      = λ i. map (counts_as (kind_of (e i))) (cells_of s (h.bag i)) in
      record {
        bag = ap (without s) h.bag;
        faults = ap (λ z. overflow_by Q s z ++ c.faults) vs
            ∙ (λ i. same_overflow K (copied_program K) s s e (values_of P s a.bag) i ++ h.faults i);
        doubled = ap (λ z. map (declared_in (copied_program K)) (doubled_by Q s z ++ c.doubled)) vs
            ∙ declared_both K (copied_program K) (doubled_by P s (values_of P s a.bag)) a.doubled
            (doubled_by Q s (values_of P s a.bag)) c.doubled
            (same_doubled K (copied_program K) s s e (values_of P s a.bag)) h.doubled;
      }

  all_left : (os : List Outer) → AllByRecursion (λ (o : Outer). o.signal < K.interface) os → (a c : Stepped)
      → LeftTheSame a c
      → LeftTheSame (leave_all P os a) (leave_all Q os c)
  all_left [] low a c h = h
  all_left (o ∷ os) low a c h =
      let x = leave_all P os a in
      let y = leave_all Q os c in
      let k = all_left os low.1 a c h in
      one_left o.signal low.0 (record x { bag = given_bag o ++ x.bag })
      (record y { bag = given_bag o ++ y.bag })
      (record { bag = ap (λ z. given_bag o ++ z) k.bag; faults = k.faults; doubled = k.doubled })

  next_control : (last : ℕ) (o u : Option Selection) → BothOrNone (Stands K.statement) o u
      → StandsFor K.statement (elim o [ Some m ↦ At (marks_numbered last m).0 | None ↦ Ended ])
      (elim u [ Some m ↦ At (marks_numbered last m).0 | None ↦ Ended ])
  next_control last None None h = tt
  next_control last (Some m) (Some c) h = numbered_stand K.statement last m c h
  next_control last None (Some c) h = absurd h
  next_control last (Some m) None h = absurd h

  module _ (os : List Outer) (low : AllByRecursion (λ (o : Outer). o.signal < K.interface) os) (last : ℕ)
      (E : Env) where
    pub completes_same : (a c : Ran) → RunsTheSame K a c → Ascends (new_sites a.stepped.touches)
        → Ascends (new_sites c.stepped.touches)
        → CompletesTheSame K (completed P os last E a) (completed Q os last E c)
    completes_same a c h up copied_up =
        record {
          signals = ap (λ b. map (now_of E b) os) (same_bags K [] a.stepped.bag c.stepped.bag h.stepped.bag);
          code = h.code;
          next = next_control last a.stepped.next c.stepped.next h.stepped.next;
          touches = same_bag (original_site K)
              a.stepped.touches c.stepped.touches h.stepped.touches up copied_up last;
        }

    pub ids_same : (a c : Ran) → RunsTheSame K a c → Ascends (new_sites a.stepped.touches)
        → Ascends (new_sites c.stepped.touches)
        → GivesTheSameIds K (completed P os last E a) (completed Q os last E c)
    ids_same a c h up copied_up =
        same_new (original_site K) a.stepped.touches c.stepped.touches h.stepped.touches up copied_up last

    module _ (R : Completed → Completed → Type 0) where
      abbrev judged_as : Completed → List ℕ → List (Pos × FaultKind) → Table → Outcome
      judged_as a ds fs T =
          (elim ds [
            | s ∷ ss ↦ Doubled (fold (first_declared T) s ss)
            | [] ↦ (elim fs [
              | f
                  ∷ fs ↦ Faulted (fold earlier f fs).0 (fold earlier f fs).1
              | [] ↦ Completes a
            ])
          ])

      judged_same : (a c : Completed) → R a c → (ds es : List ℕ) (fs gs : List (Pos × FaultKind))
          → map (declared_in (copied_program K)) es ≡ map (declared_in K) ds → gs ≡ fs
          → ReactsTheSame K R (judged_as a ds fs P) (judged_as c es gs Q)
      judged_same a c h [] [] fs gs e k =
          subst (λ z. ReactsTheSame K R (judged_as a [] fs P) (judged_as c [] z Q)) (sym k) (by_faults fs)
        where
          by_faults : (fs : List (Pos × FaultKind))
              → ReactsTheSame K R (judged_as a [] fs P) (judged_as c [] fs Q)
          by_faults [] = h
          by_faults (f ∷ fs) = (refl, refl)
      judged_same a c h (s ∷ ds) (t ∷ es) fs gs e k =
          let head : declared_in (copied_program K) t ≡ declared_in K s = cc in
          let tail : map (declared_in (copied_program K)) es ≡ map (declared_in K) ds = cc in
          same_least K (copied_program K) ds es s t head tail
      judged_same a c h [] (t ∷ es) fs gs e k = absurd (let no : ⊥ = cc in no)
      judged_same a c h (s ∷ ds) [] fs gs e k = absurd (let no : ⊥ = cc in no)

      pub concluded_same : (x y : Option Ran)
          → ((a c : Ran) → x ≡ Some a → y ≡ Some c → R (completed P os last E a) (completed Q os last E c))
          → BothOrNone (RunsTheSame K) x y
          → ReactsTheSame K R (concluded P os last E x) (concluded Q os last E y)
      concluded_same None None f h = (refl, refl)
      concluded_same (Some a) (Some c) f h =
          let left = all_left os low a.stepped c.stepped (record {
            bag = same_bags K [] a.stepped.bag c.stepped.bag h.stepped.bag;
            faults = h.stepped.faults;
            doubled = h.stepped.doubled;
          }) in
          judged_same (completed P os last E a) (completed Q os last E c) (f a c refl refl)
          (leave_all P os a.stepped).doubled
          (leave_all Q os c.stepped).doubled (leave_all P os a.stepped).faults
          (leave_all Q os c.stepped).faults left.doubled
          left.faults
      concluded_same None (Some c) f h = absurd h
      concluded_same (Some a) None f h = absurd h
