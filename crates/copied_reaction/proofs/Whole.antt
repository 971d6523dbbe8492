-- The reactions of a program and of its copy are the same.
use Rattle.std.proofs.Common.{◌≡◌, ℕ, suc, ◌<◌, Option, Some, None, List, [], ◌∷◌, length, map}
use Rattle.std.proofs.Common.{refl, sym, ap}
use Rattle.std.proofs.Common.{subst, ◌∙◌, arith}
use Rattle.std.specs.List.{AllByRecursion, range_with_len}
use Rattle.std.proofs.lemmas.List.{length-take-le, take_at}
use Rattle.hh_base.specs.declared.value.Value.{Value}
use Rattle.host_expr.specs.Environment.{Env, blank}
use Rattle.hh_term.specs.Statement.{Statement}
use Rattle.hh_term.specs.Selection.{Control, Fresh, At, Ended, Start, Resume}
use Rattle.hh_term.specs.Kernel.{Kernel}
use Rattle.hh_term.specs.Scopes.{sites_of}
use Rattle.hh_term.specs.IsProgram.{IsProgram, interface_of}
use Rattle.hh_term.specs.MustCan.{Table, table_of}
use Rattle.hh_term.specs.Step.{Stepped, step}
use Rattle.hh_term.specs.Reaction.{Outer, Last, Ran, Completed, Outcome, Undecided, ran, program_must_can}
use Rattle.hh_term.specs.Reaction.{program_step, solved}
use Rattle.hh_term.specs.Reaction.{undecided, completed, concluded, react, reaction, outers_from, first_last}
use Rattle.hh_term.specs.Reaction.{first_lasts}
use Rattle.loop_copy.specs.Copies.{copied_program, copied_locals, items_at}
use Rattle.loop_copy.specs.Stands.{StandsFor}
use Rattle.loop_copy.proofs.Rules.{keeps_rules}
use Rattle.copy_laws.specs.Stepping.{BothOrNone, declared_in}
use Rattle.copy_laws.specs.Lawful.{RunsTheSame}
use Rattle.copy_laws.proofs.Whole.{runs_the_same}
use Rattle.copied_reaction.specs.Reacting.{CompletesTheSame, GivesTheSameIds, ReactsTheSame}
use Rattle.copied_reaction.proofs.News.{Ascends, OnStep, new_sites, news_ascend}
use Rattle.copied_reaction.proofs.Solving.{outers_low, undecided_low, declared, same_program, same_solved}
use Rattle.copied_reaction.proofs.Answering.{completes_same, ids_same, concluded_same}

-- the new instances of what a program did
abbrev RanUp : Ran → Type 0
RanUp a = Ascends (new_sites a.stepped.touches)

ran_up : (o : Option Stepped) → OnStep (λ a. Ascends (new_sites a.touches)) o → (a : Ran) → ran o ≡ Some a
    → RanUp a
ran_up None h a e = absurd (let no : ⊥ = cc in no)
ran_up (Some b) h a e = subst RanUp (some_inv (record { stepped = b; code = Some b.code }) a e) h
  where
    some_inv : (x y : Ran) → Some x ≡ Some y → x ≡ y
    some_inv x y e = cc

program_up : (T : Table) (p : Statement) (n : ℕ) → sites_of p ≡ range_with_len 0 n
    → (c : Control) (E : Env) (a : Ran)
    → program_step T p c E ≡ Some a → RanUp a
program_up T p n sites Fresh E a e = ran_up (step T p Start E) (news_ascend T p n sites Start E) a e
program_up T p n sites (At m) E a e =
    ran_up (step T p (Resume m) E) (news_ascend T p n sites (Resume m) E) a e
program_up T p n sites Ended E a e = subst RanUp (some_inv _ a e) tt
  where
    some_inv : (x y : Ran) → Some x ≡ Some y → x ≡ y
    some_inv x y e = cc

all_declared : (K : Kernel) (r : IsProgram K) (ss : List ℕ) → AllByRecursion (λ s. s < K.interface) ss
    → map (declared_in (copied_program K)) ss ≡ map (declared_in K) ss
all_declared K r [] h = refl
all_declared K r (s ∷ ss) h = λ i. declared K r s h.0 i ∷ all_declared K r ss h.1 i

module _ (K : Kernel) (r : IsProgram K) where
  abbrev C : Kernel
  C = copied_program K

  abbrev T : Table
  T = table_of K

  abbrev U : Table
  U = table_of C

  module _ (c d : Control) (stands : StandsFor K.statement c d) (os : List Outer)
      (low : AllByRecursion (λ (o : Outer). o.signal < K.interface) os) (last : ℕ) where
    abbrev answered : Table → Env → Option Ran → List ℕ → Outcome
    answered t F x ss = (elim ss [ [] ↦ concluded t os last F x | s ∷ ss ↦ Undecided (s ∷ ss) ])

    same_env : solved U os (program_must_can U C.statement d) blank
        ≡ solved T os (program_must_can T K.statement c) blank
    same_env =
        ap (λ p. solved U os p blank) (same_program K r c d stands)
        ∙ same_solved K r (program_must_can T K.statement c) os low blank

    -- whatever holds of two steps that are the same, in which new instances stand in the order of sites
    pub reacts : (R : Completed → Completed → Type 0)
        → ((F : Env) (a b : Ran) → RunsTheSame K a b → RanUp a → RanUp b
        → R (completed T os last F a) (completed U os last F b))
        → ReactsTheSame K R (react T os K.statement c last) (react U os C.statement d last)
    reacts R f =
        subst (λ F. ReactsTheSame K R (react T os K.statement c last)
        (answered U F (program_step U C.statement d F) (undecided F os))) (sym same_env)
        (by_list (undecided G os) (undecided_low K.interface G os low))
      where
        G : Env
        G = solved T os (program_must_can T K.statement c) blank

        runs : BothOrNone (RunsTheSame K) (program_step T K.statement c G) (program_step U C.statement d G)
        runs = runs_the_same K r c d stands G G (λ s l. refl)

        completes : (a b : Ran) → program_step T K.statement c G ≡ Some a → program_step U C.statement d G
            ≡ Some b
            → R (completed T os last G a) (completed U os last G b)
        completes a b e k =
            f G a b (let z : BothOrNone (RunsTheSame K) (Some a) (Some b) =
            subst (λ y. BothOrNone (RunsTheSame K) (Some a) y) k
            (subst (λ x. BothOrNone (RunsTheSame K) x (program_step U C.statement d G)) e runs) in z)
            (program_up T K.statement (length K.sites) r.sites_in_order c G a e)
            (program_up U C.statement (length C.sites) (keeps_rules K r).sites_in_order d G b k)

        by_list : (ss : List ℕ) → AllByRecursion (λ s. s < K.interface) ss
            → ReactsTheSame K R (answered T G (program_step T K.statement c G) ss)
            (answered U G (program_step U C.statement d G) ss)
        by_list [] h =
            concluded_same K r os low last G R (program_step T K.statement c G)
            (program_step U C.statement d G) completes runs
        by_list (s ∷ ss) h = (refl, all_declared K r (s ∷ ss) h)

  module _ (c d : Control) (stands : StandsFor K.statement c d) (before : List Last) (many : length before
      ≡ K.interface)
      (inputs : List (ℕ × Value)) (last : ℕ) where
    low : AllByRecursion (λ (o : Outer). o.signal < K.interface) (outers_from 0 inputs before)
    low = outers_low K.interface 0 inputs before (omega (arith, many))

    pub reacts_the_same : ReactsTheSame K (CompletesTheSame K) (reaction K c before inputs last)
        (reaction C d before inputs last)
    reacts_the_same =
        reacts c d stands (outers_from 0 inputs before) low last (CompletesTheSame K)
        (λ F a b h up copied_up. completes_same K r (outers_from 0 inputs before)
        low last F a b h up copied_up)

    pub gives_the_same_ids : ReactsTheSame K (GivesTheSameIds K) (reaction K c before inputs last)
        (reaction C d before inputs last)
    gives_the_same_ids =
        reacts c d stands (outers_from 0 inputs before) low last (GivesTheSameIds K)
        (λ F a b h up copied_up. ids_same K r (outers_from 0 inputs before) low last F a b h up copied_up)

  -- from the start
  length_map : {A B : Type 0} (f : A → B) (xs : List A) → length (map f xs) ≡ length xs
  length_map f [] = refl
  length_map f (x ∷ xs) = ap (λ n. suc n) (length_map f xs)

  many : length (interface_of K) ≡ K.interface
  many = length-take-le K.interface K.signals r.interface_declared

  same_lasts : first_lasts C ≡ first_lasts K
  same_lasts = ap (map first_last) (take_at (interface_of K) (items_at K.signals (copied_locals K.statement))
      K.interface many)

  pub starts_the_same : (inputs : List (ℕ × Value)) (last : ℕ)
      → ReactsTheSame K (CompletesTheSame K) (reaction K Fresh (first_lasts K) inputs last)
      (reaction C Fresh (first_lasts C) inputs last)
  starts_the_same inputs last =
      subst (λ ls. ReactsTheSame K (CompletesTheSame K) (reaction K Fresh (first_lasts K) inputs last)
      (reaction C Fresh ls inputs last)) (sym same_lasts)
      (reacts_the_same Fresh Fresh tt (first_lasts K) (length_map first_last (interface_of K)
      ∙ many) inputs last)
