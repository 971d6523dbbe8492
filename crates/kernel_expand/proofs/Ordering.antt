-- The locals and the async sites of an expansion stand in the order of their numbers, and its statement
-- declares local signals alone.
use Rattle.std.proofs.Common.{◌≡◌, ℕ, zero, suc, ◌+◌, List, [], ◌∷◌, ◌++◌, length, Option, Some, None, refl}
use Rattle.std.proofs.Common.{sym, ap, ◌∙◌, arith, append_assoc, append-nil, length-append}
use Rattle.std.specs.Prelude.{slice_get}
use Rattle.std.specs.List.{AllByRecursion, range_with_len}
use Rattle.hh_base.specs.declared.value.Pos.{Pos}
use Rattle.hh_base.specs.declared.value.Dir.TheVariants as dir
use Rattle.host_expr.specs.declared.expr.Expr.{roll-Expr}
use Rattle.host_expr.specs.declared.expr.ExprNode.TheVariants as node
use Rattle.module_tree.specs.declared.source.ModuleNode.{ModuleNode}
use Rattle.module_tree.specs.Parts.{parts_of}
use Rattle.hh_term.specs.declared.program.SignalDecl.{SignalDecl}
use Rattle.hh_term.specs.Kernel.{AsyncSite}
use Rattle.hh_term.specs.Scopes.{locals_of, sites_of}
use Rattle.hh_term.specs.Placed.{Placed, Nothing, Pause, Emit, If, Suspend, Seq, Par, Loop, Trap, Exit, Local}
use Rattle.hh_term.specs.Placed.{unplaced}
use Rattle.kernel_expand.specs.Operations.{Operations}
use Rattle.kernel_expand.specs.Modules.{body_means, of_module}
use Rattle.kernel_expand.specs.Numbering.{Around, Numbered, Piece, number_of, in_numbers, value_in_numbers}
use Rattle.kernel_expand.specs.Numbering.{local_signal, counter_signal, with_place, with_signal, with_trap}
use Rattle.kernel_expand.specs.Numbering.{in_trap, site_in_numbers, traps_between, no_traps, numbering}
use Rattle.kernel_expand.specs.Expansion.{no_module}
use Rattle.kernel_expand.proofs.Alike.{Alike}
use Rattle.kernel_expand.proofs.AlikeTrees.{callees, blocks_alike}
use Rattle.kernel_expand.proofs.Replaced.{all_both}

abbrev pub IsLocal : SignalDecl → Type 0
IsLocal d = d.dir ≡ dir.Local

-- what a statement declares behind what was declared before it
pub record Ordered (t : Placed) (signals : List SignalDecl) (sites : List AsyncSite)
    (before_signals : List SignalDecl) (before_sites : List AsyncSite) : Type 0 where
  pub new_signals : List SignalDecl
  pub signals_are : signals ≡ before_signals ++ new_signals
  pub new_sites : List AsyncSite
  pub sites_are : sites ≡ before_sites ++ new_sites
  pub all_local : AllByRecursion IsLocal new_signals
  pub locals_in_order : locals_of (unplaced t) ≡ range_with_len (length before_signals) (length new_signals)
  pub sites_in_order : sites_of (unplaced t) ≡ range_with_len (length before_sites) (length new_sites)

abbrev pub OrderedIn : Placed × Numbered → Numbered → Type 0
OrderedIn x before = Ordered x.0 x.1.signals x.1.sites before.signals before.sites

abbrev pub HasOrder : Piece → Unit {0} → Type 0
HasOrder p u = (a : Around) (n : Numbered) → OrderedIn (p a n) n

-- ---- numbers in a row

range_join : (s a b : ℕ) → range_with_len s a ++ range_with_len (s + a) b ≡ range_with_len s (a + b)
range_join s zero b =
    let here : s + 0 ≡ s = omega arith in
    let many : b ≡ 0 + b = omega arith in
    λ i. range_with_len (here i) (many i)
range_join s (suc a) b =
    let next : s + suc a ≡ (s + 1) + a = omega arith in
    let many : suc (a + b) ≡ suc a + b = omega arith in
    ap (λ z. s ∷ (range_with_len (s + 1) a ++ range_with_len z b)) next
    ∙ ap (λ z. s ∷ z) (range_join (s + 1) a b) ∙ ap (range_with_len s) many

in_a_row : {A : Type 0} (xs ys : List A) (n m : List A) → m ≡ n ++ xs
    → range_with_len (length n) (length xs) ++ range_with_len (length m) (length ys)
    ≡ range_with_len (length n) (length (xs ++ ys))
in_a_row xs ys n m e =
    ap (λ z. range_with_len (length n) (length xs) ++ range_with_len z (length ys))
    (ap length e ∙ length-append n xs)
    ∙ range_join (length n) (length xs) (length ys)
    ∙ ap (range_with_len (length n)) (sym (length-append xs ys))

-- ---- statements without parts, round one part, and of two parts

none_inside : (t : Placed) (n : Numbered) → locals_of (unplaced t) ≡ [] → sites_of (unplaced t) ≡ []
    → OrderedIn (t, n) n
none_inside t n e f =
    record {
      new_signals = [];
      signals_are = sym (append-nil n.signals);
      new_sites = [];
      sites_are = sym (append-nil n.sites);
      all_local = tt;
      locals_in_order = e;
      sites_in_order = f;
    }

one_inside : (t : Placed) (x : Placed × Numbered) (n : Numbered)
    → locals_of (unplaced t) ≡ locals_of (unplaced x.0) → sites_of (unplaced t) ≡ sites_of (unplaced x.0)
    → OrderedIn x n → OrderedIn (t, x.1) n
one_inside t x n e f w =
    record {
      new_signals = w.new_signals;
      signals_are = w.signals_are;
      new_sites = w.new_sites;
      sites_are = w.sites_are;
      all_local = w.all_local;
      locals_in_order = e ∙ w.locals_in_order;
      sites_in_order = f ∙ w.sites_in_order;
    }

two_inside : (t : Placed) (x : Placed × Numbered) (y : Placed × Numbered) (n : Numbered)
    → locals_of (unplaced t) ≡ locals_of (unplaced x.0) ++ locals_of (unplaced y.0)
    → sites_of (unplaced t) ≡ sites_of (unplaced x.0) ++ sites_of (unplaced y.0) → OrderedIn x n
    → OrderedIn y x.1 → OrderedIn (t, y.1) n
two_inside t x y n e f w v =
    record {
      new_signals = w.new_signals ++ v.new_signals;
      signals_are = v.signals_are ∙ ap (λ z. z ++ v.new_signals) w.signals_are
          ∙ append_assoc n.signals w.new_signals v.new_signals;
      new_sites = w.new_sites ++ v.new_sites;
      sites_are = v.sites_are ∙ ap (λ z. z ++ v.new_sites) w.sites_are
          ∙ append_assoc n.sites w.new_sites v.new_sites;
      all_local = all_both IsLocal w.new_signals v.new_signals w.all_local v.all_local;
      locals_in_order = e ∙ (λ i. w.locals_in_order i ++ v.locals_in_order i)
          ∙ in_a_row w.new_signals v.new_signals n.signals x.1.signals w.signals_are;
      sites_in_order = f ∙ (λ i. w.sites_in_order i ++ v.sites_in_order i)
          ∙ in_a_row w.new_sites v.new_sites n.sites x.1.sites w.sites_are;
    }

local_inside : (t : Placed) (d : SignalDecl) (x : Placed × Numbered) (n : Numbered) (m : Numbered)
    → m.signals ≡ n.signals ++ d ∷ [] → m.sites ≡ n.sites → IsLocal d
    → locals_of (unplaced t) ≡ length n.signals ∷ locals_of (unplaced x.0)
    → sites_of (unplaced t) ≡ sites_of (unplaced x.0) → OrderedIn x m → OrderedIn (t, x.1) n
local_inside t d x n m s s' is e f w =
    let more : length m.signals ≡ length n.signals + 1 = ap length s ∙ length-append n.signals (d ∷ []) in
    record {
      new_signals = d ∷ w.new_signals;
      signals_are = w.signals_are ∙ ap (λ z. z ++ w.new_signals) s
          ∙ append_assoc n.signals (d ∷ []) w.new_signals;
      new_sites = w.new_sites;
      sites_are = w.sites_are ∙ ap (λ z. z ++ w.new_sites) s';
      all_local = (is, w.all_local);
      locals_in_order = e ∙ ap (λ z. length n.signals ∷ z) w.locals_in_order
          ∙ ap (λ z. length n.signals ∷ range_with_len z (length w.new_signals)) more;
      sites_in_order = f ∙ w.sites_in_order ∙ ap (λ z. range_with_len (length z) (length w.new_sites)) s';
    }

-- ---- each operation

pub no_meaning : Operations (Unit {0})
no_meaning =
    record {
      nothing = tt;
      pause = tt;
      emit = λ s e. tt;
      choice = λ d p q. tt;
      suspend = λ d p. tt;
      seq = λ p q. tt;
      par = λ p q. tt;
      loop = λ p. tt;
      local = λ d p. tt;
      async = λ a. tt;
      trap = λ p. tt;
      exit = tt;
      named_trap = λ p. tt;
      leave = λ t. tt;
      counter = λ p. tt;
      suspend_counted = λ p. tt;
      emit_counter = tt;
      run = λ m bindings. tt;
    }

pub operations_in_order : (f : ℕ → Piece) (pos : Pos) → Alike HasOrder (numbering f pos) no_meaning
operations_in_order f pos =
    record {
      nothing = λ a n. none_inside (Nothing pos) n refl refl;
      pause = λ a n. none_inside (Pause pos) n refl refl;
      emit = λ s e a n. none_inside (Emit pos (number_of n s) (value_in_numbers n e)) n refl refl;
      choice = λ d p u q v h k a n.
          let x = p a n in
          let y = q a x.1 in
          two_inside (If pos (in_numbers n d) x.0 y.0) x y n refl refl (h a n) (k a x.1);
      suspend = λ d p u h a n. let x = p a n in one_inside (Suspend pos (in_numbers n d) x.0) x n refl refl
          (h a n);
      seq = λ p u q v h k a n. let x = p a n in let y = q a x.1 in two_inside (Seq pos x.0 y.0) x y n refl refl
          (h a n) (k a x.1);
      par = λ p u q v h k a n. let x = p a n in let y = q a x.1 in two_inside (Par pos x.0 y.0) x y n refl refl
          (h a n) (k a x.1);
      loop = λ p u h a n. let x = p a n in one_inside (Loop pos x.0) x n refl refl (h a n);
      local = λ d p u h a n.
          let m = with_place (local_signal d) n in
          let x = p a m in
          local_inside (Local pos (length n.signals) x.0) (local_signal d) x n m refl refl refl refl refl
          (h a m);
      async = λ d a n.
          record {
            new_signals = [];
            signals_are = sym (append-nil n.signals);
            new_sites = site_in_numbers n d ∷ [];
            sites_are = refl;
            all_local = tt;
            locals_in_order = refl;
            sites_in_order = refl;
          };
      trap = λ p u h a n. let x = p (in_trap None a) n in one_inside (Trap pos x.0) x n refl refl
          (h (in_trap None a) n);
      exit = λ a n. none_inside (Exit pos 0) n refl refl;
      named_trap = λ p u h a n.
          let b = in_trap (Some n.traps) a in
          let x = p b (with_trap n) in
          one_inside (Trap pos x.0) x n refl refl (h b (with_trap n));
      leave = λ t a n. none_inside (Exit pos (traps_between t a.traps)) n refl refl;
      counter = λ p u h a n.
          let inner : Around = record { traps = a.traps; counter = length n.signals } in
          let m = with_signal (counter_signal pos) n in
          let x = p inner m in
          local_inside (Local pos (length n.signals) x.0) (counter_signal pos) x n m refl refl refl refl refl
          (h inner m);
      suspend_counted = λ p u h a n.
          let x = p a n in
          let test = roll-Expr ℕ (record { pos = pos; node = node.Now a.counter }) in
          one_inside (Suspend pos test x.0) x n refl refl (h a n);
      emit_counter = λ a n. none_inside (Emit pos a.counter None) n refl refl;
    }

-- ---- modules

everywhere : (P : ℕ → Type 0) → ((n : ℕ) → P n) → (ns : List ℕ) → AllByRecursion P ns
everywhere P h [] = tt
everywhere P h (n ∷ ns) = (h n, everywhere P h ns)

pub modules_in_order : (ms : List (ModuleNode ℕ)) (deep m : ℕ) → HasOrder
    (of_module numbering no_module ms deep m) tt
unfolding of_module
modules_in_order ms zero m = λ a n. none_inside (Nothing (record { 0 = 0 })) n refl refl
modules_in_order ms (suc deep) m = by_module (slice_get ms m) (modules_in_order ms deep)
  where
    by_module : (o : Option (ModuleNode ℕ)) → ((n : ℕ) → HasOrder (of_module numbering no_module ms deep n) tt)
        → HasOrder (body_means (numbering (of_module numbering no_module ms deep)) no_module o) tt
    by_module None h = λ a n. none_inside (Nothing (record { 0 = 0 })) n refl refl
    by_module (Some b) h =
        blocks_alike HasOrder (numbering (of_module numbering no_module ms deep)) (λ pos. no_meaning)
        (λ n. HasOrder (of_module numbering no_module ms deep n) tt)
        (operations_in_order (of_module numbering no_module ms deep))
        (λ pos n bindings w. λ a before. w no_traps _)
        b.block _ _ (everywhere (λ n. HasOrder (of_module numbering no_module ms deep n) tt) h
        (callees (parts_of b)))
