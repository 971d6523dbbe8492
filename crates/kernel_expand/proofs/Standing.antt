-- What stands while the statements of a module are numbered: each signal and trap in scope has its number.
use Rattle.std.proofs.Common.{◌≡◌, ℕ, suc, ◌<◌, Bool, true, false, cond, List, [], ◌∷◌, length}
use Rattle.std.proofs.Common.{map, Option, Some, refl, sym, ap, subst, ◌∙◌, arith, eqb-true}
use Rattle.std.specs.Prelude.{◌==◌, ◌||◌, nat_lt, IsTrue, is_some, slice_get}
use Rattle.std.specs.List.{AllByRecursion, list_any, find}
use Rattle.hh_base.specs.declared.value.Kind.{Kind}
use Rattle.module_tree.specs.Scopes.{Signal, TrapName, InScope, Declared, signal_at, trap_at}
use Rattle.hh_term.specs.declared.program.SignalDecl.{SignalDecl}
use Rattle.hh_term.specs.Kernel.{Kernel, Body, AsyncSite}
use Rattle.hh_term.specs.Fits.{kinds_of}
use Rattle.kernel_expand.specs.Numbering.{Around, Numbered, number_of, is_trap, traps_between}
use Rattle.kernel_expand.proofs.Replaced.{all_map}

abbrev pub kinds_in : List SignalDecl → List Kind
kinds_in = map (λ (d : SignalDecl). d.kind)

-- the signal of this number is of this kind
abbrev pub HasKindAt : Numbered → ℕ → Kind → Type 0
HasKindAt n s k = slice_get (kinds_in n.signals) s ≡ Some k

-- what was numbered stays so
pub record Kept (n m : Numbered) : Type 0 where
  pub kinds : (s : ℕ) (k : Kind) → HasKindAt n s k → HasKindAt m s k
  pub sites : (i : ℕ) (a : AsyncSite) → slice_get n.sites i ≡ Some a → slice_get m.sites i ≡ Some a
  pub places : (p : ℕ) → p < length n.places → (p < length m.places) × (number_of m p ≡ number_of n p)

pub kept_same : (n : Numbered) → Kept n n
kept_same n = record { kinds = λ s k h. h; sites = λ i a h. h; places = λ p h. (h, refl) }

pub kept_on : (n m o : Numbered) → Kept n m → Kept m o → Kept n o
kept_on n m o f g =
    record {
      kinds = λ s k h. g.kinds s k (f.kinds s k h);
      sites = λ i a h. g.sites i a (f.sites i a h);
      places = λ p h. let q = f.places p h in let r = g.places p q.0 in (r.0, r.1 ∙ q.1);
    }

pub found_in : {A : Type 0} (P : A → Type 0) (test : A → Bool) (xs : List A) → AllByRecursion P xs
    → is_some (find test xs) ≡ true → (x : A) × (test x ≡ true) × P x
found_in P test [] h e = absurd (let no : ⊥ = cc in no)
found_in {A} P test (x ∷ xs) h e = by_test (test x) refl (found_in P test xs h.1)
  where
    by_test : (b : Bool) → test x ≡ b
        → (is_some (find test xs) ≡ true → (x : A) × (test x ≡ true) × P x)
        → (x : A) × (test x ≡ true) × P x
    by_test true hit others = (x, hit, h.0)
    by_test false miss others =
        let step : find test (x ∷ xs) ≡ find test xs = rw miss refl in
        others (ap is_some (sym step) ∙ e)

module _ (bodies : List Body) (interface : ℕ) where
  -- a program that begins with what was numbered
  pub record Whole (n : Numbered) (K : Kernel) : Type 0 where
    pub kinds : (s : ℕ) (k : Kind) → HasKindAt n s k → slice_get (kinds_of K) s ≡ Some k
    pub sites : (i : ℕ) (a : AsyncSite) → slice_get n.sites i ≡ Some a → slice_get K.sites i ≡ Some a
    pub bodies_are : K.bodies ≡ bodies
    pub interface_is : K.interface ≡ interface

  pub whole_before : (n m : Numbered) (K : Kernel) → Kept n m → Whole m K → Whole n K
  whole_before n m K f w =
      record {
        kinds = λ s k h. w.kinds s k (f.kinds s k h);
        sites = λ i a h. w.sites i a (f.sites i a h);
        bodies_are = w.bodies_are;
        interface_is = w.interface_is;
      }

  -- the signal of this number is in scope
  abbrev pub Scoped : List ℕ → ℕ → Type 0
  Scoped locals s = IsTrue (nat_lt s interface || list_any (λ t. t == s) locals)

  or_true : (a b c : Bool) → IsTrue (a || b) → IsTrue (a || (c || b))
  or_true true b c h = h
  or_true false true true h = h
  or_true false true false h = h
  or_true false false c h = absurd (let no : ⊥ = cc in no)

  pub scoped_more : (locals : List ℕ) (s t : ℕ) → Scoped locals s → Scoped (t ∷ locals) s
  scoped_more locals s t = or_true (nat_lt s interface) (list_any (λ t. t == s) locals) (t == s)

  module _ (kinds : List Kind) where
    -- the signal of this place in the module
    pub record Seen (n : Numbered) (locals : List ℕ) (place : ℕ) : Type 0 where
      pub kind : Kind
      pub numbered : place < length n.places
      pub scoped : Scoped locals (number_of n place)
      pub has_kind : HasKindAt n (number_of n place) kind
      pub of_module : slice_get kinds place ≡ Some kind

    abbrev pub TrapStands : Around → TrapName → Type 0
    TrapStands a t = traps_between t.place a.traps < length a.traps

    pub record Stands (scope : InScope) (before : Declared) (a : Around) (n : Numbered) (locals : List ℕ)
        : Type 0 where
      pub places : length n.places ≡ before.signals
      pub traps : n.traps ≡ before.traps
      pub signals : AllByRecursion (λ (s : Signal). Seen n locals s.place) scope.signals
      pub opened : AllByRecursion (TrapStands a) scope.traps

    -- ---- what stands goes on standing

    pub seen_on : (n m : Numbered) (locals : List ℕ) (place : ℕ) → Kept n m → Seen n locals place
        → Seen m locals place
    seen_on n m locals place f s =
        let q = f.places place s.numbered in
        record {
          kind = s.kind;
          numbered = q.0;
          scoped = subst (Scoped locals) (sym q.1) s.scoped;
          has_kind = subst (λ z. HasKindAt m z s.kind) (sym q.1) (f.kinds (number_of n place) s.kind s.has_kind);
          of_module = s.of_module;
        }

    pub seen_within : (n : Numbered) (locals : List ℕ) (place t : ℕ) → Seen n locals place
        → Seen n (t ∷ locals) place
    seen_within n locals place t s =
        record {
          kind = s.kind;
          numbered = s.numbered;
          scoped = scoped_more locals (number_of n place) t s.scoped;
          has_kind = s.has_kind;
          of_module = s.of_module;
        }

    -- behind a statement
    pub stands_after : (scope : InScope) (before after : Declared) (a : Around) (n m : Numbered)
        (locals : List ℕ) → Stands scope before a n locals → Kept n m → length m.places ≡ after.signals
        → m.traps ≡ after.traps → Stands scope after a m locals
    stands_after scope before after a n m locals st f p t =
        record {
          places = p;
          traps = t;
          signals = all_map (λ (s : Signal). Seen n locals s.place) (λ (s : Signal). Seen m locals s.place)
              (λ s h. seen_on n m locals s.place f h) scope.signals st.signals;
          opened = st.opened;
        }

    deeper : (b : Bool) (x l : ℕ) → x < l → cond b 0 (suc x) < suc l
    deeper true x l h = omega arith
    deeper false x l h = omega arith

    pub trap_deeper : (u : Option ℕ) (a : Around) (t : TrapName) → TrapStands a t
        → traps_between t.place (u ∷ a.traps) < length (u ∷ a.traps)
    trap_deeper u a t h = deeper (is_trap t.place u) (traps_between t.place a.traps) (length a.traps) h

    -- ---- what is in scope stands

    pub seen_at : (scope : InScope) (before : Declared) (a : Around) (n : Numbered) (locals : List ℕ)
        → Stands scope before a n locals → (place : ℕ) → is_some (signal_at scope place) ≡ true
        → Seen n locals place
    seen_at scope before a n locals st place e =
        let q = found_in (λ (s : Signal). Seen n locals s.place) (λ (s : Signal). s.place == place)
        scope.signals st.signals e in
        subst (Seen n locals) (eqb-true q.0.place place q.1) q.2

    pub trap_at_stands : (scope : InScope) (before : Declared) (a : Around) (n : Numbered) (locals : List ℕ)
        → Stands scope before a n locals → (place : ℕ) → is_some (trap_at scope place) ≡ true
        → traps_between place a.traps < length a.traps
    trap_at_stands scope before a n locals st place e =
        let q = found_in (TrapStands a) (λ (t : TrapName). t.place == place) scope.traps st.opened e in
        subst (λ p. traps_between p a.traps < length a.traps) (eqb-true q.0.place place q.1) q.2
