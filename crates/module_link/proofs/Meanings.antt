-- What names mean in a text without faults, and that the places that they are replaced by are those of what
-- they mean.
use Rattle.std.proofs.Common.{◌≡◌, Bool, true, false, cond, List, [], ◌∷◌, map}
use Rattle.std.proofs.Common.{Option, Some, None, option_map, refl, sym, ap, ◌∙◌, eq-eqb}
use Rattle.std.specs.Prelude.{◌==◌, is_some, slice_get, not, filter}
use Rattle.std.specs.List.{AllByRecursion, find}
use Rattle.std.proofs.lemmas.Bool.{eqb-true}
use Rattle.hh_base.specs.declared.value.Pos.{Pos}
use Rattle.module_tree.specs.declared.source.NameAt.{NameAt}
use Rattle.module_tree.specs.declared.source.ModuleNode.{ModuleNode}
use Rattle.module_tree.specs.Scopes.{Signal, TrapName, InScope, signal_at, trap_at}
use Rattle.link_faults.specs.Named.{Name, signal_named, trap_named}
use Rattle.link_faults.specs.Rows.{unknown_among, here_if}
use Rattle.module_link.specs.Resolved.{signal_place, trap_place, or_first}
use Rattle.module_link.proofs.Lists.{nothing_first, all_found}
use Rattle.module_link.proofs.ScopePlaces.{HasPlace, IsPlaced, signals_of}

-- ---- rows

pub nothing_here : (b : Bool) (p : Pos) → here_if b p ≡ [] → b ≡ false
nothing_here false p e = refl
nothing_here true p e = absurd (nothing_first p [] e)

pub all_known : (known : Name → Bool) (names : List (NameAt Name)) → unknown_among known names ≡ []
    → AllByRecursion (λ (n : NameAt Name). known n.name ≡ true) names
all_known known [] e = tt
all_known known (n ∷ ns) e = by (all_known known ns) (known n.name) refl e
  where
    by : (unknown_among known ns ≡ [] → AllByRecursion (λ (n : NameAt Name). known n.name ≡ true) ns)
        → (b : Bool) → known n.name ≡ b
        → map (λ (n : NameAt Name). n.pos) (cond (not b) (n ∷ filter (λ (n : NameAt Name). not (known n.name))
        ns) (filter (λ (n : NameAt Name). not (known n.name)) ns)) ≡ []
        → (known n.name ≡ true) × AllByRecursion (λ (n : NameAt Name). known n.name ≡ true) ns
    by others true is e = (is, others e)
    by others false is e = absurd (nothing_first n.pos _ e)

pub none_known : (names : List (NameAt Name)) → unknown_among (λ n. false) names ≡ [] → names ≡ []
none_known [] e = refl
none_known (n ∷ ns) e = absurd (nothing_first n.pos _ e)

pub is_there : {A : Type 0} (o : Option A) → is_some o ≡ true → (a : A) × (o ≡ Some a)
is_there (Some a) e = (a, refl)
is_there None e = absurd (absent e)
  where
    absent : false ≡ true → ⊥
    absent e = cc

true_false : true ≡ false → ⊥
true_false e = cc

-- ---- signals

-- a signal in scope is found by its place
at_place : (all : List Signal) (test : Signal → Bool) (signals : List Signal) (s : Signal)
    → AllByRecursion (HasPlace all) signals → HasPlace all s → find test signals ≡ Some s
    → find (λ (t : Signal). t.place == s.place) signals ≡ Some s
at_place all test [] s h own e = absurd (absent e)
  where
    absent : None ≡ Some s → ⊥
    absent e = cc
at_place all test (x ∷ xs) s h own e =
    by_place (at_place all test xs s h.1 own) (x.place == s.place) refl
  where
    by_test : (find test xs ≡ Some s → find (λ (t : Signal). t.place == s.place) xs ≡ Some s)
        → (x.place == s.place) ≡ false → (b : Bool) → cond b (Some x) (find test xs) ≡ Some s
        → find (λ (t : Signal). t.place == s.place) xs ≡ Some s
    by_test others apart false found = others found
    by_test others apart true found =
        let same : x ≡ s = cc in
        absurd (true_false (sym (eq-eqb x.place s.place (ap (λ (t : Signal). t.place) same)) ∙ apart))

    by_place : (find test xs ≡ Some s → find (λ (t : Signal). t.place == s.place) xs ≡ Some s)
        → (b : Bool) → (x.place == s.place) ≡ b
        → cond b (Some x) (find (λ (t : Signal). t.place == s.place) xs) ≡ Some s
    by_place others true is = sym h.0 ∙ ap (slice_get all) (eqb-true x.place s.place is) ∙ own
    by_place others false is = by_test others is (test x) e

-- what a name means in a scope of a module: a signal of the module, which has its place there
pub record MeansSignal (m : ModuleNode Name) (c : InScope) (n : Name) : Type 0 where
  pub signal : Signal
  pub named : signal_named c n ≡ Some signal
  pub place : signal_place c n ≡ signal.place
  pub found : signal_at c signal.place ≡ Some signal
  pub there : slice_get (signals_of m) signal.place ≡ Some signal

pub signal_meant : (m : ModuleNode Name) (c : InScope) (n : Name) → IsPlaced (signals_of m) c
    → is_some (signal_named c n) ≡ true → MeansSignal m c n
signal_meant m c n placed known =
    let q = is_there (signal_named c n) known in
    let own = (all_found (HasPlace (signals_of m)) _ c.signals q.0 placed q.1).0 in
    record {
      signal = q.0;
      named = q.1;
      place = ap (λ o. or_first (option_map (λ (s : Signal). s.place) o)) q.1;
      found = at_place (signals_of m) _ c.signals q.0 placed own q.1;
      there = own;
    }

-- ---- traps

found_again : (other test : TrapName → Bool) (traps : List TrapName) (t : TrapName)
    → find test traps ≡ Some t → other t ≡ true → is_some (find other traps) ≡ true
found_again other test [] t e passes = absurd (absent e)
  where
    absent : None ≡ Some t → ⊥
    absent e = cc
found_again other test (x ∷ xs) t e passes = by (found_again other test xs t) (other x) refl
  where
    later : (find test xs ≡ Some t → other t ≡ true → is_some (find other xs) ≡ true) → other x ≡ false
        → (b : Bool) → cond b (Some x) (find test xs) ≡ Some t → is_some (find other xs) ≡ true
    later others fails false found = others found passes
    later others fails true found =
        let same : x ≡ t = cc in
        absurd (true_false (sym passes ∙ ap other (sym same) ∙ fails))

    by : (find test xs ≡ Some t → other t ≡ true → is_some (find other xs) ≡ true) → (b : Bool)
        → other x ≡ b → is_some (cond b (Some x) (find other xs)) ≡ true
    by others true is = refl
    by others false is = later others is (test x) e

pub trap_found : (c : InScope) (n : Name) → is_some (trap_named c n) ≡ true
    → is_some (trap_at c (trap_place c n)) ≡ true
trap_found c n known =
    let q = is_there (trap_named c n) known in
    ap (λ k. is_some (trap_at c k)) (ap (λ o. or_first (option_map (λ (t : TrapName). t.place) o)) q.1)
    ∙ found_again (λ (t : TrapName). t.place == q.0.place) _ c.traps q.0 q.1 (eq-eqb q.0.place q.0.place refl)
