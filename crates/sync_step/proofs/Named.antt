-- What a program keeps of the names of its signals: a valued one has a name, and those of one position have one name.
use Rattle.std.proofs.Common.{◌≡◌, refl, sym, ap, ◌∙◌, subst, ℕ, zero, suc, ◌+◌, ◌<◌, ◌≤◌, Bool, true, Option, Some, None, List, []}
use Rattle.std.proofs.Common.{◌∷◌, ⊎_elim, length, slice_get, arith}
use Rattle.std.proofs.lemmas.Bool.{cases_lt}
use Rattle.std.proofs.lemmas.Option.{slice_get_within}
use Rattle.std.specs.Prelude.{is_some}
use Rattle.std.specs.List.{AllByRecursion}
use Rattle.std.proofs.Math.Bool.{Bool-set}
use Rattle.std.proofs.Math.Bridge.{le_prop}
use Rattle.std.proofs.Math.Logic.{∥∥₁_elim}
use Rattle.std.proofs.Math.Nat.{ℕ_set}
use mathlib.Core.List.{is_set}
use Rattle.hh_base.specs.declared.value.Kind.{Kind}
use Rattle.hh_base.specs.declared.value.Kind.TheVariants as kind
use Rattle.hh_base.specs.Value.{is_valued}
use Rattle.hh_term.specs.declared.program.SignalDecl.{SignalDecl}
use Rattle.hh_term.specs.Fits.{SignalFits, IsNamed}
use Rattle.hh_term.specs.IsProgram.{IsProgram, NamesGoByPosition}
use Rattle.hh_term.specs.Kernel.{Kernel}
use Rattle.hh_term.specs.MustCan.{table_of}
use Rattle.sync_step.proofs.Doubled.{IsValued, AllValued}

-- ---- a valued signal

abbrev has_name : Option SignalDecl → Bool
has_name (Some d) = is_some d.name
has_name None = true

abbrev kind_in : Option SignalDecl → Kind
kind_in (Some d) = d.kind
kind_in None = kind.Pure

named_by : (k : Kind) (n : Option (List ℕ)) → IsNamed k n → is_valued k ≡ true → is_some n ≡ true
named_by k (Some n) h v = refl
named_by k None h v = absurd (pure (subst (λ x. is_valued x ≡ true) h v))
  where
    pure : is_valued kind.Pure ≡ true → ⊥
    pure e = cc

named_at : (ds : List SignalDecl) (s : ℕ) → AllByRecursion SignalFits ds → is_valued (kind_in (slice_get ds s)) ≡ true →
    has_name (slice_get ds s) ≡ true
named_at [] s all v = refl
named_at (d ∷ ds) zero all v = named_by d.kind d.name all.0.named v
named_at (d ∷ ds) (suc s) all v = named_at ds s all.1 v

-- the signal is declared, with a name
pub record HasName (K : Kernel) (s : ℕ) : Type 0 where
  pub declared : SignalDecl
  pub here : slice_get K.signals s ≡ Some declared
  pub name : List ℕ
  pub named : declared.name ≡ Some name

found : (K : Kernel) (s : ℕ) (o : Option SignalDecl) → slice_get K.signals s ≡ o → is_valued (kind_in o) ≡ true →
    has_name o ≡ true → HasName K s
found K s (Some d) e v h = name_in d.name refl h
  where
    name_in : (n : Option (List ℕ)) → d.name ≡ n → is_some n ≡ true → HasName K s
    name_in (Some n) q x = record { declared = d; here = e; name = n; named = q }
    name_in None q x = cc
found K s None e v h = absurd (pure v)
  where
    pure : is_valued kind.Pure ≡ true → ⊥
    pure q = cc

pub has_name_from : (K : Kernel) (s : ℕ) → ∥ IsProgram K ∥₁ → IsValued (table_of K) s → HasName K s
has_name_from K s rules v =
    found K s (slice_get K.signals s) refl v
    (∥∥₁_elim rules (Bool-set (has_name (slice_get K.signals s)) true) (λ r. named_at K.signals s r.signals_fit v))

pub all_named : (K : Kernel) (ss : List ℕ) → ∥ IsProgram K ∥₁ → AllValued (table_of K) ss → AllByRecursion (HasName K) ss
all_named K [] rules h = tt
all_named K (s ∷ ss) rules h = (has_name_from K s rules h.0, all_named K ss rules h.1)

-- ---- signals of one position

abbrev SamePlaceName : SignalDecl → SignalDecl → Type 0
SamePlaceName d e = d.pos ≡ e.pos → d.name ≡ e.name

of_all : (P : SignalDecl → Type 0) (ds : List SignalDecl) (t : ℕ) (d : SignalDecl) → AllByRecursion P ds → slice_get ds t ≡ Some d → P d
of_all P [] t d all e = absurd (none e)
  where
    none : None ≡ Some d → ⊥
    none q = cc
of_all P (x ∷ ds) zero d all e = subst P (same e) all.0
  where
    same : Some x ≡ Some d → x ≡ d
    same q = cc
of_all P (x ∷ ds) (suc t) d all e = of_all P ds t d all.1 e

-- whichever comes first
named_alike : (ds : List SignalDecl) (s t : ℕ) (d e : SignalDecl) → NamesGoByPosition ds → slice_get ds s ≡ Some d →
    slice_get ds t ≡ Some e → d.pos ≡ e.pos → d.name ≡ e.name
named_alike [] s t d e each h g p = absurd (none h)
  where
    none : None ≡ Some d → ⊥
    none q = cc
named_alike (x ∷ ds) zero zero d e each h g p = ap (λ y. y.name) (same h g)
  where
    same : Some x ≡ Some d → Some x ≡ Some e → d ≡ e
    same q r = cc
named_alike (x ∷ ds) zero (suc t) d e each h g p =
    let is : x ≡ d = same h in
    subst (λ y. SamePlaceName y e) is (of_all (SamePlaceName x) ds t e each.0 g) p
  where
    same : Some x ≡ Some d → x ≡ d
    same q = cc
named_alike (x ∷ ds) (suc s) zero d e each h g p =
    let is : x ≡ e = same g in
    sym (subst (λ y. SamePlaceName y d) is (of_all (SamePlaceName x) ds s d each.0 h) (sym p))
  where
    same : Some x ≡ Some e → x ≡ e
    same q = cc
named_alike (x ∷ ds) (suc s) (suc t) d e each h g p = named_alike ds s t d e each.1 h g p

abbrev letters : Option (List ℕ) → List ℕ
letters (Some n) = n
letters None = []

same_option : (a b : Option (List ℕ)) → is_some a ≡ is_some b → letters a ≡ letters b → a ≡ b
same_option (Some m) (Some n) e f = ap Some f
same_option None None e f = refl
same_option (Some m) None e f = cc
same_option None (Some n) e f = cc

pub one_name : (K : Kernel) (s t : ℕ) (d e : SignalDecl) → ∥ IsProgram K ∥₁ → slice_get K.signals s ≡ Some d →
    slice_get K.signals t ≡ Some e → d.pos.0 ≡ e.pos.0 → d.name ≡ e.name
one_name K s t d e rules h g p =
    let at : d.pos ≡ e.pos = λ i. record { 0 = p i } in
    same_option d.name e.name
    (∥∥₁_elim rules (Bool-set (is_some d.name) (is_some e.name))
    (λ r. ap is_some (named_alike K.signals s t d e r.names_by_position h g at)))
    (∥∥₁_elim rules (is_set ℕ_set (letters d.name) (letters e.name))
    (λ r. ap letters (named_alike K.signals s t d e r.names_by_position h g at)))

-- none of the first n signals is declared here
abbrev pub NoneBefore : List SignalDecl → ℕ → ℕ → Type 0
NoneBefore ds pos n = (s : ℕ) (d : SignalDecl) → s < n → slice_get ds s ≡ Some d → d.pos.0 ≡ pos → ⊥

pub none_more : (ds : List SignalDecl) (pos n : ℕ) (x : SignalDecl) → NoneBefore ds pos n → slice_get ds n ≡ Some x →
    (x.pos.0 ≡ pos → ⊥) → NoneBefore ds pos (n + 1)
none_more ds pos n x h here other s d lt e p =
    ⊎_elim (λ below. h s d below e p)
    (λ le.
    let same : s ≡ n = omega (arith, lt, le) in
    other (ap (λ y. y.pos.0) (one x d (sym here ∙ ap (slice_get ds) (sym same) ∙ e)) ∙ p))
    (cases_lt s n)
  where
    one : (x d : SignalDecl) → Some x ≡ Some d → x ≡ d
    one x d q = cc

pub none_at_all : (ds : List SignalDecl) (pos n : ℕ) → length ds ≤ n → NoneBefore ds pos n → (s : ℕ) (d : SignalDecl) →
    slice_get ds s ≡ Some d → d.pos.0 ≡ pos → ⊥
none_at_all ds pos n le h s d e p =
    let lt = slice_get_within ds s d e in
    h s d (omega (arith, le, lt)) e p

pub rules_declared : (K : Kernel) → ∥ IsProgram K ∥₁ → K.interface ≤ length K.signals
rules_declared K rules = ∥∥₁_elim rules le_prop (λ r. r.interface_declared)
