-- The interface of a copied program is solved as that of the program.
use Rattle.std.proofs.Common.{◌≡◌, ℕ, suc, ◌+◌, ◌<◌, ◌≤◌, Bool, true, false, cond, List}
use Rattle.std.proofs.Common.{[], ◌∷◌}
use Rattle.std.proofs.Common.{length, refl, ap, ◌∙◌, arith, drop}
use Rattle.std.specs.Prelude.{◌&&◌, slice_get}
use Rattle.std.specs.List.{AllByRecursion}
use Rattle.std.proofs.lemmas.List.{length-take-le, take-append-drop}
use mathlib.Core.Path.{fun_ext}
use Rattle.hh_base.specs.declared.value.Value.{Value}
use Rattle.host_expr.specs.declared.cell.SigCell.{SigCell}
use Rattle.host_expr.specs.Environment.{Env, is_known, is_decided, unsolved, put}
use Rattle.hh_term.specs.Selection.{Control}
use Rattle.hh_term.specs.Kernel.{Kernel}
use Rattle.hh_term.specs.IsProgram.{IsProgram, interface_of}
use Rattle.hh_term.specs.MustCan.{Table, table_of, Bag, MustCan, cells_of, status_by, value_by, raised, round}
use Rattle.hh_term.specs.MustCan.{solve, hide}
use Rattle.hh_term.specs.Reaction.{Outer, Last, with_given, solved_cell, nest, solved, undecided}
use Rattle.hh_term.specs.Reaction.{program_must_can}
use Rattle.hh_term.specs.Reaction.{outers_from}
use Rattle.loop_copy.specs.Copies.{copied_program, copied_locals, items_at}
use Rattle.loop_copy.specs.Stands.{StandsFor}
use Rattle.loop_copy.proofs.Lists.{got_front}
use Rattle.copy_laws.specs.Agreeing.{EmitsTheSame, DoesTheSame}
use Rattle.copy_laws.proofs.Doing.{kind_of, word_of}
use Rattle.copy_laws.proofs.Whole.{does_the_same}

pub same_bags : (K : Kernel) (ls : List ℕ) (a c : Bag) → EmitsTheSame K (λ s. s) ls a c → c ≡ a
same_bags K ls [] [] h = refl
same_bags K ls (e ∷ a) (d ∷ c) h = λ i. (h.0.1 i, h.0.2 i) ∷ same_bags K ls a c h.1 i
same_bags K ls [] (d ∷ c) h = absurd h
same_bags K ls (e ∷ a) [] h = absurd h

-- the interface signals at the start of a reaction are those of the program
pub outers_low : (n s : ℕ) (inputs : List (ℕ × Value)) (ls : List Last) → s + length ls ≤ n
    → AllByRecursion (λ (o : Outer). o.signal < n) (outers_from s inputs ls)
outers_low n s inputs [] h = tt
outers_low n s inputs (l ∷ ls) h = (omega (arith, h), outers_low n (suc s) inputs ls (omega (arith, h)))

pub undecided_low : (n : ℕ) (E : Env) (os : List Outer) → AllByRecursion (λ (o : Outer). o.signal < n) os
    → AllByRecursion (λ s. s < n) (undecided E os)
undecided_low n E [] h = tt
undecided_low n E (o ∷ os) h =
    by_test (is_decided (E o.signal).status && is_known (E o.signal).value) (undecided_low n E os h.1)
  where
    by_test : (b : Bool) → AllByRecursion (λ s. s < n) (undecided E os)
        → AllByRecursion (λ s. s < n) (cond b (undecided E os) (o.signal ∷ undecided E os))
    by_test true k = k
    by_test false k = (h.0, k)

module _ (K : Kernel) (r : IsProgram K) where
  abbrev C : Kernel
  C = copied_program K

  abbrev T : Table
  T = table_of K

  abbrev U : Table
  U = table_of C

  pub declared : (s : ℕ) → s < K.interface → slice_get C.signals s ≡ slice_get K.signals s
  declared s h =
      let many = length-take-le K.interface K.signals r.interface_declared in
      let under : s < length (interface_of K) = omega (arith, h, many) in
      got_front (interface_of K) (items_at K.signals (copied_locals K.statement)) (drop K.interface K.signals)
      s under
      ∙ ap (λ ds. slice_get ds s) (take-append-drop K.interface K.signals)

  -- Must and Can of the whole program are the same functions
  pub same_program : (c d : Control) → StandsFor K.statement c d
      → program_must_can U C.statement d ≡ program_must_can T K.statement c
  same_program c d h = fun_ext (λ E. at_env E (does_the_same K r c d h E E (λ s l. refl)))
    where
      at_env : (E : Env) → DoesTheSame K (λ s. s) [] (program_must_can T K.statement c E)
          (program_must_can U C.statement d E)
          → program_must_can U C.statement d E ≡ program_must_can T K.statement c E
      at_env E x =
          let a = program_must_can T K.statement c E in
          let b = program_must_can U C.statement d E in
          λ i. record {
            must = same_bags K [] a.must b.must x.must i;
            code = x.code i;
            can = same_bags K [] a.can b.can x.can i;
            codes = x.codes i;
          }

  module _ (p : Env → MustCan) where
    same_raised : (s : ℕ) → s < K.interface → (c : SigCell) (a : MustCan) → raised U s c a ≡ raised T s c a
    same_raised s h c a =
        λ i. record {
          status = status_by (cells_of s a.must) (cells_of s a.can);
          value = value_by (kind_of (declared s h i)) (word_of (declared s h i)) c.preval (cells_of s a.must)
              (cells_of s a.can);
          pre = c.pre;
          preval = c.preval;
        }

    same_solve : (s : ℕ) → s < K.interface → (q : Env → MustCan) (E : Env) (c : SigCell)
        → solve U s q E c ≡ solve T s q E c
    same_solve s h q E c =
        ap (round U s q E) (same_raised s h c (q (put E s c)))
        ∙ same_raised s h (round T s q E c) (q (put E s (round T s q E c)))

    same_cell : (o : Outer) → o.signal < K.interface → (q : Env → MustCan) (E : Env)
        → solved_cell U o q E ≡ solved_cell T o q E
    same_cell o h q E = same_solve o.signal h (λ F. with_given o (q F)) E (unsolved o.last.status o.last.val)

    same_nest : (os : List Outer) → AllByRecursion (λ (o : Outer). o.signal < K.interface) os
        → nest U os p ≡ nest T os p
    same_nest [] h = refl
    same_nest (o ∷ os) h =
        let e = same_nest os h.1 in
        fun_ext (λ E.
        (λ i. hide o.signal (with_given o (e i (put E o.signal (solved_cell U o (e i) E)))))
        ∙ ap (λ x. hide o.signal (with_given o (nest T os p (put E o.signal x))))
        (same_cell o h.0 (nest T os p) E))

    pub same_solved : (os : List Outer) → AllByRecursion (λ (o : Outer). o.signal < K.interface) os
        → (E : Env)
        → solved U os p E ≡ solved T os p E
    same_solved [] h E = refl
    same_solved (o ∷ os) h E =
        (λ i. solved U os p (put E o.signal (solved_cell U o (same_nest os h.1 i) E)))
        ∙ ap (λ x. solved U os p (put E o.signal x)) (same_cell o h.0 (nest T os p) E)
        ∙ same_solved os h.1 (put E o.signal (solved_cell T o (nest T os p) E))
