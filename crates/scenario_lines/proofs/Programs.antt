-- The names of a program's interface are names of its signals.
use Rattle.std.proofs.Common.{◌≡◌, ◌≢◌, ◌<◌, ◌≤◌, ◌^◌, ℕ, zero, suc, true, Some, List, [], ◌∷◌, take, drop}
use Rattle.std.proofs.Common.{sym, ◌∙◌, subst, arith, ⊎_elim}
use Rattle.std.specs.Prelude.{slice_get}
use Rattle.std.specs.List.{AllByRecursion}
use Rattle.std.proofs.lemmas.Bool.{cases_eq, cases_lt}
use Rattle.hh_base.specs.declared.value.Dir.TheVariants as dir
use Rattle.hh_term.specs.declared.program.SignalDecl.{SignalDecl}
use Rattle.hh_term.specs.Kernel.{Kernel}
use Rattle.hh_term.specs.Pairs.{EachPair}
use Rattle.hh_term.specs.IsProgram.{IsProgram, NamesDiffer}
use Rattle.scenario_lines.specs.Interface.{HasNames, IsGiven, is_given}

abbrev pub Locals : List SignalDecl → Type 0
Locals signals = AllByRecursion (λ d. d.dir ≡ dir.Local) signals

-- no signal that is given is local
no_local : (signals : List SignalDecl) (s : ℕ) (d : SignalDecl) → Locals signals → slice_get signals s ≡ Some d
    → is_given d.dir ≡ true → ⊥
no_local [] s d local at given = cc
no_local (x ∷ signals) zero d local at given =
    let same : x ≡ d = cc in
    let own : d.dir ≡ dir.Local = subst (λ (y : SignalDecl). y.dir ≡ dir.Local) same local.0 in
    let no : is_given dir.Local ≡ true = subst (λ k. is_given k ≡ true) own given in
    cc
no_local (x ∷ signals) (suc s) d local at given = no_local signals s d local.1 at given

-- the interface stands first
pub stands_first : (n s : ℕ) (signals : List SignalDecl) (d : SignalDecl) → Locals (drop n signals)
    → slice_get signals s ≡ Some d → is_given d.dir ≡ true → s < n
stands_first zero s signals d local at given = absurd (no_local signals s d local at given)
stands_first (suc n) s [] d local at given = absurd cc
stands_first (suc n) zero (x ∷ signals) d local at given = omega arith
stands_first (suc n) (suc s) (x ∷ signals) d local at given =
    let less = stands_first n s signals d local at given in omega arith

-- what holds of the first declarations holds of each, and of each two
at_place : (P : SignalDecl → Type 0) (n s : ℕ) (signals : List SignalDecl) (d : SignalDecl) → s < n
    → slice_get signals s ≡ Some d → AllByRecursion P (take n signals) → P d
at_place P zero s signals d l e all = absurd (omega arith)
at_place P (suc n) s [] d l e all = absurd cc
at_place P (suc n) zero (x ∷ signals) d l e all = let same : x ≡ d = cc in subst P same all.0
at_place P (suc n) (suc s) (x ∷ signals) d l e all = at_place P n s signals d (omega arith) e all.1

at_places : (R : SignalDecl → SignalDecl → Type 0) (n s t : ℕ) (signals : List SignalDecl) (d e : SignalDecl)
    → s < t → t < n → slice_get signals s ≡ Some d → slice_get signals t ≡ Some e
    → EachPair R (take n signals) → R d e
at_places R zero s t signals d e l m p q all = absurd (omega arith)
at_places R (suc n) s t [] d e l m p q all = absurd cc
at_places R (suc n) s zero (x ∷ signals) d e l m p q all = absurd (omega arith)
at_places R (suc n) zero (suc t) (x ∷ signals) d e l m p q all =
    let same : x ≡ d = cc in
    let P : SignalDecl → Type 0 = λ y. R y e in
    subst P same (at_place (R x) n t signals e (omega arith) q all.0)
at_places R (suc n) (suc s) (suc t) (x ∷ signals) d e l m p q all =
    at_places R n s t signals d e (omega arith) (omega arith) p q all.1

-- two signals in this order with one name
clash : (signals : List SignalDecl) (n : ℕ) (name : List ℕ) (s t : ℕ) (d e : SignalDecl)
    → Locals (drop n signals) → NamesDiffer (take n signals) → IsGiven signals name s d
    → IsGiven signals name t e → s < t → ⊥
clash signals n name s t d e local names p q l =
    at_places (λ x y. x.name ≢ y.name) n s t signals d e l (stands_first n t signals e local q.at q.given) p.at
    q.at names.differ (p.named ∙ sym q.named)

-- the first n signals are the interface
pub has_names : (signals : List SignalDecl) (n : ℕ) → n ≤ 2 ^ 32 → Locals (drop n signals)
    → NamesDiffer (take n signals) → HasNames signals
has_names signals n few local names = record {
  numbered = λ name s d given. let first = stands_first n s signals d local given.at given.given in omega arith;
  distinct = λ name s t d e p q.
      ⊎_elim
      (λ (l : s < t). absurd (clash signals n name s t d e local names p q l))
      (λ (other : t ≤ s). ⊎_elim (λ (same : s ≡ t). same) (λ (differ : s ≢ t).
      let l : t < s = omega arith in absurd (clash signals n name t s e d local names q p l)) (cases_eq s t))
      (cases_lt s t);
}

-- the signals of a program have names
pub program_has_names : (K : Kernel) → IsProgram K → K.interface ≤ 2 ^ 32 → HasNames K.signals
program_has_names K rules few = has_names K.signals K.interface few rules.others_local rules.names_differ
