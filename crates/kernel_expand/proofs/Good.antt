-- Each kernel operation makes good statements of good ones: where each name in scope has its number, kinds
-- fit, exits have their traps, and signals are in scope.
use Rattle.std.proofs.Common.{◌≡◌, ℕ, zero, suc, ◌<◌, ◌≤◌, Bool, true, false, List, [], ◌∷◌, ◌++◌, length}
use Rattle.std.proofs.Common.{Some, refl, sym, ap, subst, ◌∙◌, arith, length-append, eq-eqb}
use Rattle.std.specs.Prelude.{◌==◌, ◌||◌, nat_lt, is_some, slice_get, IsTrue}
use Rattle.std.specs.List.{AllByRecursion, list_any}
use Rattle.std.proofs.lemmas.List.{map-append, get_or_append_left}
use Rattle.hh_base.specs.declared.value.Pos.{Pos}
use Rattle.hh_base.specs.declared.value.Kind.{Kind}
use Rattle.hh_base.specs.declared.value.Kind.TheVariants as kind
use Rattle.host_expr.specs.declared.expr.Expr.{Expr}
use Rattle.host_expr.specs.declared.expr.TheConstants.{EXPRESSION_LIMIT}
use Rattle.host_expr.specs.Expression.{expression_of}
use Rattle.host_expr.specs.Kinds.{kind_of_expression}
use Rattle.host_expr.specs.Measures.{leaves_and_operators, signals_read}
use Rattle.module_tree.specs.Scopes.{InScope, Declared, signal_at}
use Rattle.hh_term.specs.declared.program.SignalDecl.{SignalDecl}
use Rattle.hh_term.specs.Kernel.{Kernel, Body}
use Rattle.hh_term.specs.Scopes.{ExitsFit, UsesInScope, IsInScope}
use Rattle.hh_term.specs.Fits.{StatementFits, HasKind, kinds_of}
use Rattle.hh_term.specs.Placed.{Placed, Nothing, Pause, If, Suspend, Seq, Par, Loop}
use Rattle.hh_term.specs.Placed.{unplaced}
use Rattle.kernel_expand.specs.Numbering.{Around, Numbered, Piece, number_of, in_numbers, value_in_numbers}
use Rattle.kernel_expand.specs.Numbering.{local_signal, counter_signal, with_place, with_signal, in_trap}
use Rattle.kernel_expand.specs.Numbering.{traps_between, is_trap, numbering}
use Rattle.kernel_expand.specs.Numbering as numbers
use Rattle.kernel_expand.proofs.Replaced.{all_map, is_replaced, reads, same_leaves, same_kind}
use Rattle.kernel_expand.proofs.Replaced.{all_of_map}
use Rattle.kernel_expand.proofs.Standing.{HasKindAt, Kept, kept_on, kinds_in, whole_before}
use Rattle.kernel_expand.proofs.Standing.{Scoped, scoped_more, Stands}
use Rattle.kernel_expand.proofs.Standing.{stands_after, seen_at}
use Rattle.kernel_expand.proofs.Sound.{WholeIn, Sound, alone, around, both}

-- what stands round a statement: nothing that it may use, a trap of its row, or that and a counter
pub data Inside : Type 0 where
  Plain : Inside
  InTrap : Inside
  InCounter : Inside

pub there : {A : Type 0} (xs : List A) (x : A) → slice_get (xs ++ x ∷ []) (length xs) ≡ Some x
there [] x = refl
there (y ∷ xs) x = there xs x

pub still : {A : Type 0} (xs ys : List A) (i : ℕ) (x : A) → slice_get xs i ≡ Some x
    → slice_get (xs ++ ys) i ≡ Some x
still [] ys i x e = absurd (let no : ⊥ = cc in no)
still (z ∷ xs) ys zero x e = e
still (z ∷ xs) ys (suc i) x e = still xs ys i x e

kind_still : (ds : List SignalDecl) (d : SignalDecl) (s : ℕ) (k : Kind) → slice_get (kinds_in ds) s ≡ Some k
    → slice_get (kinds_in (ds ++ d ∷ [])) s ≡ Some k
kind_still ds d s k e = ap (λ z. slice_get z s) (map-append (λ (d : SignalDecl). d.kind) ds (d ∷ []))
    ∙ still (kinds_in ds) (d.kind ∷ []) s k e

pub kind_there : (ds : List SignalDecl) (d : SignalDecl) → slice_get (kinds_in (ds ++ d ∷ [])) (length ds)
    ≡ Some d.kind
kind_there [] d = refl
kind_there (e ∷ ds) d = kind_there ds d

true_or : (a b : Bool) → b ≡ true → IsTrue (a || b)
true_or true b e = refl
true_or false b e = e

pub innermost : (bodies : List Body) (interface s : ℕ) (locals : List ℕ) → Scoped bodies interface (s ∷ locals) s
innermost bodies interface s locals = true_or (nat_lt s interface) (list_any (λ t. t == s) (s ∷ locals))
    (ap (λ b. b || list_any (λ t. t == s) locals) (eq-eqb s s refl))

pub kept_with_place : (d : SignalDecl) (n : Numbered) → Kept n (with_place d n)
kept_with_place d n =
    record {
      kinds = λ s k h. kind_still n.signals d s k h;
      sites = λ i a h. h;
      places = λ p h. (
        let more = length-append n.places (length n.signals ∷ []) in omega (arith, more),
        get_or_append_left n.places (length n.signals ∷ []) 0 p h,
      );
    }

pub kept_with_signal : (d : SignalDecl) (n : Numbered) → Kept n (with_signal d n)
kept_with_signal d n = record { kinds = λ s k h. kind_still n.signals d s k h; sites = λ i a h. h; places = λ p h. (h, refl) }

module _ (bodies : List Body) (interface : ℕ) (kinds : List Kind) where
  abbrev pub Allows : Inside → Around → Numbered → List ℕ → Type 0
  Allows Plain a n locals = Unit {0}
  Allows InTrap a n locals = 0 < length a.traps
  Allows InCounter a n locals = (0 < length a.traps) × Scoped bodies interface locals a.counter
      × HasKindAt n a.counter kind.Pure

  abbrev pub Standing : InScope → Declared → Around → Numbered → List ℕ → Type 0
  Standing = Stands bodies interface kinds

  pub record Goes (after : Declared) (a : Around) (n : Numbered) (locals : List ℕ) (t : Placed) (m : Numbered)
      : Type 0 where
    pub sound : Sound bodies interface a n locals t m
    pub places : length m.places ≡ after.signals
    pub traps : m.traps ≡ after.traps

  abbrev pub Good : Inside → InScope → Declared → Declared → Piece → Type 0
  Good c scope before after p = (a : Around) (n : Numbered) (locals : List ℕ) → Allows c a n locals
      → Standing scope before a n locals → Goes after a n locals (p a n).0 (p a n).1

  pub allows_on : (c : Inside) (a : Around) (n m : Numbered) (locals : List ℕ) → Kept n m → Allows c a n locals
      → Allows c a m locals
  allows_on Plain a n m locals f h = tt
  allows_on InTrap a n m locals f h = h
  allows_on InCounter a n m locals f h = (h.0, h.1, f.kinds a.counter kind.Pure h.2)

  pub allows_within : (c : Inside) (a : Around) (n : Numbered) (locals : List ℕ) (t : ℕ) → Allows c a n locals
      → Allows c a n (t ∷ locals)
  allows_within Plain a n locals t h = tt
  allows_within InTrap a n locals t h = h
  allows_within InCounter a n locals t h = (h.0, scoped_more bodies interface locals a.counter t h.1, h.2)

  pub plain : (c : Inside) (scope : InScope) (before after : Declared) (p : Piece)
      → Good Plain scope before after p → Good c scope before after p
  plain c scope before after p h a n locals al st = h a n locals tt st

  -- ---- expressions

  pub record FitsTest (scope : InScope) (k : Kind) (d : Expr ℕ) : Type 0 where
    pub seen : AllByRecursion (λ p. is_some (signal_at scope p) ≡ true) (signals_read (expression_of d))
    pub kind : kind_of_expression kinds [] (expression_of d) ≡ Some k
    pub small : leaves_and_operators (expression_of d) ≤ EXPRESSION_LIMIT

  module _ (scope : InScope) (before : Declared) (a : Around) (n : Numbered) (locals : List ℕ)
      (st : Standing scope before a n locals) (K : Kernel) (w : WholeIn bodies interface n K) where
    pub in_scope : (p : ℕ) → is_some (signal_at scope p) ≡ true → IsInScope K locals (number_of n p)
    in_scope p e =
        let s = seen_at bodies interface kinds scope before a n locals st p e in
        subst (λ i. IsTrue (nat_lt (number_of n p) i || list_any (λ t. t == number_of n p) locals))
        (sym w.interface_is) s.scoped

    pub kind_of_place : (p : ℕ) → is_some (signal_at scope p) ≡ true → slice_get (kinds_of K) (number_of n p)
        ≡ slice_get kinds p
    kind_of_place p e =
        let s = seen_at bodies interface kinds scope before a n locals st p e in
        w.kinds (number_of n p) s.kind s.has_kind ∙ sym s.of_module

    pub test_fits : (k : Kind) (d : Expr ℕ) → FitsTest scope k d
        → HasKind (kinds_of K) [] k (expression_of (in_numbers n d))
    test_fits k d f =
        record {
          kind = ap (kind_of_expression (kinds_of K) []) (is_replaced (number_of n) d)
              ∙ same_kind (number_of n) kinds (kinds_of K) [] (expression_of d)
              (all_map (λ p. is_some (signal_at scope p) ≡ true)
              (λ p. slice_get (kinds_of K) (number_of n p) ≡ slice_get kinds p) kind_of_place
              (signals_read (expression_of d)) f.seen) ∙ f.kind;
          small = subst (λ l. l ≤ EXPRESSION_LIMIT)
              (sym (ap leaves_and_operators (is_replaced (number_of n) d)
              ∙ same_leaves (number_of n) (expression_of d))) f.small;
        }

    pub test_uses : (k : Kind) (d : Expr ℕ) → FitsTest scope k d
        → AllByRecursion (IsInScope K locals) (signals_read (expression_of (in_numbers n d)))
    test_uses k d f =
        subst (AllByRecursion (IsInScope K locals))
        (sym (ap signals_read (is_replaced (number_of n) d) ∙ reads (number_of n) (expression_of d)))
        (all_of_map (number_of n) (IsInScope K locals) (signals_read (expression_of d))
        (all_map (λ p. is_some (signal_at scope p) ≡ true) (λ p. IsInScope K locals (number_of n p)) in_scope
        (signals_read (expression_of d)) f.seen))

  -- ---- the operations of one part and of two

  module _ (f : ℕ → Piece) (pos : Pos) (c : Inside) (scope : InScope) where
    pub good_alone : (before : Declared) (t : Placed) → ((l : ℕ) → ExitsFit l (unplaced t))
        → ((K : Kernel) → StatementFits K (unplaced t))
        → ((K : Kernel) (locals : List ℕ) → UsesInScope K locals (unplaced t))
        → Good c scope before before (λ a n. (t, n))
    good_alone before t e g u a n locals al st =
        record {
          sound = alone bodies interface a n locals t (e (length a.traps)) (λ K w. g K) (λ K w. u K locals);
          places = st.places;
          traps = st.traps;
        }

    pub good_nothing : (before : Declared) → Good c scope before before (numbering f pos).nothing
    good_nothing before = good_alone before (Nothing pos) (λ l. tt) (λ K. tt) (λ K locals. tt)

    pub good_pause : (before : Declared) → Good c scope before before (numbering f pos).pause
    good_pause before = good_alone before (Pause pos) (λ l. tt) (λ K. tt) (λ K locals. tt)

    pub good_two : (before middle after : Declared) (p q : Piece) (t : Numbered → Placed → Placed → Placed)
        → ((n : Numbered) (l : ℕ) (x y : Placed) → ExitsFit l (unplaced x) → ExitsFit l (unplaced y)
        → ExitsFit l (unplaced (t n x y)))
        → ((a : Around) (n : Numbered) (locals : List ℕ) → Standing scope before a n locals → (K : Kernel)
        → WholeIn bodies interface n K → (x y : Placed) → StatementFits K (unplaced x)
        → StatementFits K (unplaced y) → StatementFits K (unplaced (t n x y)))
        → ((a : Around) (n : Numbered) (locals : List ℕ) → Standing scope before a n locals → (K : Kernel)
        → WholeIn bodies interface n K → (x y : Placed) → UsesInScope K locals (unplaced x)
        → UsesInScope K locals (unplaced y) → UsesInScope K locals (unplaced (t n x y)))
        → Good c scope before middle p → Good c scope middle after q
        → Good c scope before after (numbers.of_two t p q)
    good_two before middle after p q t e g u h k a n locals al st =
        let x = p a n in
        let w = h a n locals al st in
        let y = q a x.1 in
        let v = k a x.1 locals (allows_on c a n x.1 locals w.sound.kept al)
        (stands_after bodies interface kinds scope before middle a n x.1 locals st w.sound.kept w.places w.traps) in
        let kept = kept_on n x.1 y.1 w.sound.kept v.sound.kept in
        record {
          sound = both bodies interface a n x.1 y.1 locals x.0 y.0 (t n x.0 y.0) (e n (length a.traps) x.0 y.0)
              (λ K wh. g a n locals st K (whole_before bodies interface n y.1 K kept wh) x.0 y.0)
              (λ K wh. u a n locals st K (whole_before bodies interface n y.1 K kept wh) x.0 y.0)
              w.sound v.sound;
          places = v.places;
          traps = v.traps;
        }

    pub good_seq : (before middle after : Declared) (p q : Piece) → Good c scope before middle p
        → Good c scope middle after q → Good c scope before after ((numbering f pos).seq p q)
    good_seq before middle after p q = good_two before middle after p q (λ n x y. Seq pos x y)
        (λ n l x y g h. (g, h)) (λ a n locals st K w x y g h. (g, h)) (λ a n locals st K w x y g h. (g, h))

    pub good_par : (before middle after : Declared) (p q : Piece) → Good c scope before middle p
        → Good c scope middle after q → Good c scope before after ((numbering f pos).par p q)
    good_par before middle after p q = good_two before middle after p q (λ n x y. Par pos x y)
        (λ n l x y g h. (g, h)) (λ a n locals st K w x y g h. (g, h)) (λ a n locals st K w x y g h. (g, h))

    pub good_choice : (before middle after : Declared) (d : Expr ℕ) (p q : Piece) → FitsTest scope kind.Bool d
        → Good c scope before middle p → Good c scope middle after q
        → Good c scope before after ((numbering f pos).choice d p q)
    good_choice before middle after d p q test =
        good_two before middle after p q (λ n x y. If pos (in_numbers n d) x y) (λ n l x y g h. (g, h))
        (λ a n locals st K w x y g h. (test_fits scope before a n locals st K w kind.Bool d test, g, h))
        (λ a n locals st K w x y g h. (test_uses scope before a n locals st K w kind.Bool d test, g, h))

    pub good_one : (before after : Declared) (p : Piece) (t : Numbered → Placed → Placed)
        → ((n : Numbered) (l : ℕ) (x : Placed) → ExitsFit l (unplaced x) → ExitsFit l (unplaced (t n x)))
        → ((a : Around) (n : Numbered) (locals : List ℕ) → Standing scope before a n locals → (K : Kernel)
        → WholeIn bodies interface n K → (x : Placed) → StatementFits K (unplaced x)
        → StatementFits K (unplaced (t n x)))
        → ((a : Around) (n : Numbered) (locals : List ℕ) → Standing scope before a n locals → (K : Kernel)
        → WholeIn bodies interface n K → (x : Placed) → UsesInScope K locals (unplaced x)
        → UsesInScope K locals (unplaced (t n x)))
        → Good c scope before after p → Good c scope before after (numbers.round_one t p)
    good_one before after p t e g u h a n locals al st =
        let x = p a n in
        let w = h a n locals al st in
        record {
          sound = around bodies interface a a n x.1 locals x.0 (t n x.0) (e n (length a.traps) x.0)
              (λ K wh. g a n locals st K (whole_before bodies interface n x.1 K w.sound.kept wh) x.0)
              (λ K wh. u a n locals st K (whole_before bodies interface n x.1 K w.sound.kept wh) x.0) w.sound;
          places = w.places;
          traps = w.traps;
        }

    pub good_loop : (before after : Declared) (p : Piece) → Good c scope before after p
        → Good c scope before after ((numbering f pos).loop p)
    good_loop before after p = good_one before after p (λ n x. Loop pos x) (λ n l x h. h)
        (λ a n locals st K w x h. h) (λ a n locals st K w x h. h)

    pub good_suspend : (before after : Declared) (d : Expr ℕ) (p : Piece) → FitsTest scope kind.Bool d
        → Good c scope before after p → Good c scope before after ((numbering f pos).suspend d p)
    good_suspend before after d p test =
        good_one before after p (λ n x. Suspend pos (in_numbers n d) x) (λ n l x h. h)
        (λ a n locals st K w x h. (test_fits scope before a n locals st K w kind.Bool d test, h))
        (λ a n locals st K w x h. (test_uses scope before a n locals st K w kind.Bool d test, h))
