-- What the rules of a program say of its interface.
use Rattle.std.proofs.Common.{◌≡◌, ℕ, zero, suc, ◌<◌, ◌≤◌, Option, Some, None, List, [], ◌∷◌, length, take, get_or, sym, ◌∙◌, ap, arith}
use Rattle.std.proofs.Math.Bridge.{le_prop}
use Rattle.std.specs.Prelude.{IsSome}
use Rattle.std.specs.List.{AllByRecursion}
use Rattle.std.proofs.Math.Logic.{∥∥₁_elim}
use Rattle.std.proofs.lemmas.Option.{slice_get-get_or}
use Rattle.hh_term.specs.declared.program.SignalDecl.{SignalDecl}
use Rattle.hh_term.specs.Kernel.{Kernel}
use Rattle.hh_term.specs.IsProgram.{IsProgram}
use Rattle.term_machine.specs.Place.{name_or_none, name_at}

pub rules_declared : (K : Kernel) → ∥ IsProgram K ∥₁ → K.interface ≤ length K.signals
rules_declared K rules = ∥∥₁_elim rules le_prop (λ r. r.interface_declared)

some_not_none : (o : Option (List ℕ)) → IsSome o → o ≡ None → ⊥
some_not_none (Some n) h e = cc
some_not_none None h e = cc

all_named : (ds : List SignalDecl) (n s : ℕ) (d : SignalDecl) → AllByRecursion (λ d. IsSome d.name) (take n ds) → s < n → s < length ds → (get_or ds s d).name ≡ None → ⊥
all_named [] n s d all h g e = absurd (omega arith)
all_named (x ∷ xs) zero s d all h g e = absurd (omega arith)
all_named (x ∷ xs) (suc n) zero d all h g e = some_not_none x.name all.0 e
all_named (x ∷ xs) (suc n) (suc s) d all h g e = all_named xs n s d all.1 (omega arith) (omega arith) e

pub none_unnamed : (K : Kernel) (ds : List SignalDecl) (s : ℕ) (d : SignalDecl) → ∥ IsProgram K ∥₁ → ds ≡ K.signals → s < K.interface → (get_or ds s d).name ≡ None → ⊥
none_unnamed K ds s d rules is h e =
    let g : K.interface ≤ length K.signals = rules_declared K rules in
    ∥∥₁_elim rules (λ x y. absurd x) (λ r. all_named K.signals K.interface s d r.names_differ.named h (omega arith) (ap (λ (xs : List SignalDecl). (get_or xs s d).name) (sym is) ∙ e))

pub name_is : (K : Kernel) (ds : List SignalDecl) (s : ℕ) (d : SignalDecl) (name copy : List ℕ) → ∥ IsProgram K ∥₁ → ds ≡ K.signals → s < K.interface → (get_or ds s d).name ≡ Some name → copy ≡ name → copy ≡ name_at K s
name_is K ds s d name copy rules is h e same =
    let g : K.interface ≤ length K.signals = rules_declared K rules in
    same
    ∙ sym (ap (λ (o : Option SignalDecl). (elim o [ Some x ↦ name_or_none x.name | None ↦ [] ])) (slice_get-get_or K.signals s d (omega arith)) ∙ ap name_or_none (ap (λ (xs : List SignalDecl). (get_or xs s d).name) (sym is) ∙ e))
