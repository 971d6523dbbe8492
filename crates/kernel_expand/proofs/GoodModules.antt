-- Each module of a linked text is good, and so is the expansion of its main module.
use Rattle.std.proofs.Common.{◌≡◌, ℕ, zero, suc, ◌+◌, ◌<◌, Bool, true, List, [], ◌∷◌, ◌++◌, length, map}
use Rattle.std.proofs.Common.{Some, refl, sym, ap, subst, ◌∙◌, arith}
use Rattle.std.proofs.lemmas.List.{length-map}
use Rattle.std.specs.Prelude.{slice_get, slice_index_or}
use Rattle.std.specs.List.{AllByRecursion, list_all}
use Rattle.hh_base.specs.declared.value.Kind.{Kind}
use Rattle.module_tree.specs.declared.source.SignalNode.{SignalNode}
use Rattle.module_tree.specs.declared.source.InterfaceNode.{InterfaceNode}
use Rattle.module_tree.specs.declared.source.ModuleNode.{ModuleNode}
use Rattle.module_tree.specs.declared.source.Part.{Part}
use Rattle.module_tree.specs.declared.source.Part.TheVariants as part
use Rattle.module_tree.specs.Callables.{Signature, modules_of, signatures_of, interfaces_of}
use Rattle.module_tree.specs.LinkedFacts.{Known, known_in, sigs_of, in_each_part, is_in_scope, kinds_fit}
use Rattle.module_tree.specs.LinkedFacts.{is_limited, binds_interface}
use Rattle.module_tree.specs.Parts.{Placed, parts_of}
use Rattle.module_tree.specs.Scopes.{Signal, interface_from, interface_signals}
use Rattle.hh_term.specs.declared.program.SignalDecl.{SignalDecl}
use Rattle.hh_term.specs.Kernel.{Body}
use Rattle.hh_term.specs.Placed.{Nothing}
use Rattle.kernel_expand.specs.Modules.{body_means, of_module}
use Rattle.kernel_expand.specs.Numbering.{Numbered, number_of, no_traps, numbering}
use Rattle.kernel_expand.specs.Expansion.{no_module, bodies_of}
use Rattle.kernel_expand.proofs.Standing.{Scoped, Seen, kinds_in}
use Rattle.kernel_expand.proofs.Sound.{Sound, alone}
use Rattle.kernel_expand.proofs.GoodParts.{PartStands, BodiesAre, all_of_test}
use Rattle.kernel_expand.proofs.GoodRuns.{Bound, GoodModules}
use Rattle.kernel_expand.proofs.GoodTrees.{Aligned, locals_in, blocks_met, behind}

-- ---- lists

pub got_map : {A B : Type 0} (g : A → B) (xs : List A) (i : ℕ) (x : A) → slice_get xs i ≡ Some x
    → slice_get (map g xs) i ≡ Some (g x)
got_map g [] i x e = absurd (let no : ⊥ = cc in no)
got_map g (y ∷ xs) zero x e = let same : y ≡ x = cc in ap (λ z. Some (g z)) same
got_map g (y ∷ xs) (suc i) x e = got_map g xs i x e

from_map : {A B : Type 0} (g : A → B) (xs : List A) (i : ℕ) (y : B) → slice_get (map g xs) i ≡ Some y
    → (x : A) × (slice_get xs i ≡ Some x) × (g x ≡ y)
from_map g [] i y e = absurd (let no : ⊥ = cc in no)
from_map g (x ∷ xs) zero y e = (x, refl, let same : g x ≡ y = cc in same)
from_map g (x ∷ xs) (suc i) y e = from_map g xs i y e

pub all_at : {A : Type 0} (P : A → Type 0) (xs : List A) → AllByRecursion P xs → (i : ℕ) (x : A)
    → slice_get xs i ≡ Some x → P x
all_at P [] h i x e = absurd (let no : ⊥ = cc in no)
all_at P (y ∷ xs) h zero x e = let same : y ≡ x = cc in subst P same h.0
all_at P (y ∷ xs) h (suc i) x e = all_at P xs h.1 i x e

-- ---- bodies and hosts

the_same : (r s : Signature) → Some r ≡ Some s → r ≡ s
the_same r s e = let same : r ≡ s = cc in same

pub bodies_are : (bodies : List Body) (interface : ℕ) (parts : List (Part ℕ)) (m : ModuleNode ℕ)
    → bodies ≡ bodies_of parts → BodiesAre bodies interface (known_in parts m)
bodies_are bodies interface parts m same i s e =
    let q = there parts i e in
    (q.0, ap (λ z. slice_get z i) same ∙ q.1, q.2, q.3)
  where
    there : (parts : List (Part ℕ)) (i : ℕ) → slice_get (signatures_of parts) i ≡ Some s
        → (b : Body) × (slice_get (bodies_of parts) i ≡ Some b) × (b.params ≡ s.parameters)
        × (b.answer ≡ s.answer)
    there [] i e = absurd (let no : ⊥ = cc in no)
    there (part.Module m ∷ parts) i e = there parts i e
    there (part.Body b ∷ parts) zero e =
        let is = the_same _ s e in
        (_, refl, ap (λ (z : Signature). z.parameters) is, ap (λ (z : Signature). z.answer) is)
    there (part.Host h ∷ parts) zero e =
        let is = the_same _ s e in
        (_, refl, ap (λ (z : Signature). z.parameters) is, ap (λ (z : Signature). z.answer) is)
    there (part.Body b ∷ parts) (suc i) e = there parts i e
    there (part.Host h ∷ parts) (suc i) e = there parts i e

-- ---- the parts of a module

-- what the tests say of the parts of all modules
pub record Linked (parts : List (Part ℕ)) : Type 0 where
  pub scopes : in_each_part is_in_scope parts ≡ true
  pub kinds : in_each_part (λ known p. kinds_fit known p.part) parts ≡ true
  pub limits : in_each_part (λ known p. is_limited p.part) parts ≡ true
  pub bindings : in_each_part (λ known p. binds_interface known p.part) parts ≡ true

module _ (parts : List (Part ℕ)) (linked : Linked parts) where
  tested : (test : Known → Placed ℕ → Bool) → in_each_part test parts ≡ true → (i : ℕ) (m : ModuleNode ℕ)
      → slice_get (modules_of parts) i ≡ Some m
      → AllByRecursion (λ p. test (known_in parts m) p ≡ true) (parts_of m)
  tested test e i m at = all_of_test (test (known_in parts m)) (parts_of m)
      (all_at (λ (m : ModuleNode ℕ). list_all (test (known_in parts m)) (parts_of m) ≡ true)
      (modules_of parts) (all_of_test (λ (m : ModuleNode ℕ). list_all (test (known_in parts m)) (parts_of m))
      (modules_of parts) e) i m at)

  each_stands : (known : Known) (ps : List (Placed ℕ)) → AllByRecursion (λ p. is_in_scope known p ≡ true) ps
      → AllByRecursion (λ (p : Placed ℕ). kinds_fit known p.part ≡ true) ps
      → AllByRecursion (λ (p : Placed ℕ). is_limited p.part ≡ true) ps
      → AllByRecursion (λ (p : Placed ℕ). binds_interface known p.part ≡ true) ps
      → AllByRecursion (PartStands known) ps
  each_stands known [] s k l b = tt
  each_stands known (p ∷ ps) s k l b = (
    record { scopes = s.0; kinds = k.0; limits = l.0; bindings = b.0 },
    each_stands known ps s.1 k.1 l.1 b.1,
  )

  parts_stand : (i : ℕ) (m : ModuleNode ℕ) → slice_get (modules_of parts) i ≡ Some m
      → AllByRecursion (PartStands (known_in parts m)) (parts_of m)
  parts_stand i m at =
      each_stands (known_in parts m) (parts_of m) (tested is_in_scope linked.scopes i m at)
      (tested (λ known p. kinds_fit known p.part) linked.kinds i m at)
      (tested (λ known p. is_limited p.part) linked.limits i m at)
      (tested (λ known p. binds_interface known p.part) linked.bindings i m at)

  aligned_at_start : (m : ModuleNode ℕ) → Aligned (known_in parts m).kinds (length m.interface)
      (locals_in (parts_of m))
  aligned_at_start m i d e =
      let own = map (λ (d : InterfaceNode). d.signal) m.interface in
      let many : length own ≡ length m.interface = length-map m.interface (λ (d : InterfaceNode). d.signal) in
      subst (λ z. slice_get (known_in parts m).kinds (z + i) ≡ Some d.kind) many
      (got_map (λ (s : SignalNode). s.kind) (sigs_of m) (length own + i) d
      (behind own (locals_in (parts_of m)) i d e))

  module _ (bodies : List Body) (interface : ℕ) (same : bodies ≡ bodies_of parts) where
    -- the interface of a module is in scope at its start
    seen_interface : (kinds : List Kind) (n : Numbered) (ls : List ℕ) (ps : List ℕ) (ds : List InterfaceNode)
        (j : ℕ) → Bound bodies interface n.signals ls ps ds
        → ((i s : ℕ) → slice_get ps i ≡ Some s → (j + i < length n.places) × (number_of n (j + i) ≡ s))
        → ((i : ℕ) (d : InterfaceNode) → slice_get ds i ≡ Some d
        → slice_get kinds (j + i) ≡ Some d.signal.kind)
        → AllByRecursion (λ (s : Signal). Seen bodies interface kinds n ls s.place) (interface_from j ds)
    seen_interface kinds n ls [] [] j h p k = tt
    seen_interface kinds n ls [] (d ∷ ds) j h p k = absurd h
    seen_interface kinds n ls (s ∷ ps) [] j h p k = absurd h
    seen_interface kinds n ls (s ∷ ps) (d ∷ ds) j h p k =
        let here : j + 0 ≡ j = omega arith in
        let q = p 0 s refl in
        let numbered : number_of n j ≡ s = subst (λ z. number_of n z ≡ s) here q.1 in (
          record {
            kind = d.signal.kind;
            numbered = subst (λ z. z < length n.places) here q.0;
            scoped = subst (Scoped bodies interface ls) (sym numbered) h.0;
            has_kind = subst (λ z. slice_get (kinds_in n.signals) z ≡ Some d.signal.kind) (sym numbered) h.1;
            of_module = subst (λ z. slice_get kinds z ≡ Some d.signal.kind) here (k 0 d refl);
          },
          seen_interface kinds n ls ps ds (j + 1) h.2
              (λ i t e. let next : j + suc i ≡ (j + 1) + i = omega arith in
              subst (λ z. (z < length n.places) × (number_of n z ≡ t)) next (p (suc i) t e))
              (λ i t e. let next : j + suc i ≡ (j + 1) + i = omega arith in
              subst (λ z. slice_get kinds z ≡ Some t.signal.kind) next (k (suc i) t e)),
        )

    bound_many : (signals : List SignalDecl) (ls ps : List ℕ) (ds : List InterfaceNode)
        → Bound bodies interface signals ls ps ds → length ps ≡ length ds
    bound_many signals ls [] [] h = refl
    bound_many signals ls [] (d ∷ ds) h = absurd h
    bound_many signals ls (p ∷ ps) [] h = absurd h
    bound_many signals ls (p ∷ ps) (d ∷ ds) h = ap suc (bound_many signals ls ps ds h.2)

    got_there : (xs : List ℕ) (i s : ℕ) → slice_get xs i ≡ Some s
        → (0 + i < length xs) × (slice_index_or xs (0 + i) 0 ≡ s)
    got_there xs i s e =
        let here : i ≡ 0 + i = omega arith in
        subst (λ z. (z < length xs) × (slice_index_or xs z 0 ≡ s)) here (inside xs i e)
      where
        inside : (xs : List ℕ) (i : ℕ) → slice_get xs i ≡ Some s → (i < length xs) × (slice_index_or xs i 0 ≡ s)
        inside [] i e = absurd (let no : ⊥ = cc in no)
        inside (x ∷ xs) zero e = (omega arith, let same : x ≡ s = cc in same)
        inside (x ∷ xs) (suc i) e = let q = inside xs i e in (omega (arith, q.0), q.1)

    own_kinds : (m : ModuleNode ℕ) (i : ℕ) (d : InterfaceNode) → slice_get m.interface i ≡ Some d
        → slice_get (known_in parts m).kinds (0 + i) ≡ Some d.signal.kind
    own_kinds m i d e =
        let here : i ≡ 0 + i = omega arith in
        subst (λ z. slice_get (known_in parts m).kinds z ≡ Some d.signal.kind) here
        (got_map (λ (s : SignalNode). s.kind) (sigs_of m) i d.signal
        (front (map (λ (d : InterfaceNode). d.signal) m.interface) i
        (got_map (λ (d : InterfaceNode). d.signal) m.interface i d e)))
      where
        front : (xs : List SignalNode) (i : ℕ) → slice_get xs i ≡ Some d.signal
            → slice_get (xs ++ locals_in (parts_of m)) i ≡ Some d.signal
        front [] i e = absurd (let no : ⊥ = cc in no)
        front (x ∷ xs) zero e = e
        front (x ∷ xs) (suc i) e = front xs i e

    no_module_good : (n : Numbered) (ls : List ℕ)
        → Sound bodies interface no_traps n ls (Nothing (record { 0 = 0 })) n
    no_module_good n ls = alone bodies interface no_traps n ls (Nothing (record { 0 = 0 })) tt (λ K w. tt)
        (λ K w. tt)

    pub modules_good : (deep : ℕ) → GoodModules bodies interface
        (of_module numbering no_module (modules_of parts) deep) (interfaces_of parts)
    unfolding of_module
    modules_good zero m ds at n ls t h = no_module_good n ls
    modules_good (suc deep) m ds at n ls t h =
        let q = from_map (λ (m : ModuleNode ℕ). m.interface) (modules_of parts) m ds at in
        let b = q.0 in
        let known = known_in parts b in
        let f = of_module numbering no_module (modules_of parts) deep in
        let bound : Bound bodies interface n.signals ls n.places b.interface =
        subst (Bound bodies interface n.signals ls n.places) (sym q.2) h in
        let met = blocks_met bodies interface known (bodies_are bodies interface parts b same) f
        (modules_good deep) b.block (record { signals = interface_signals b.interface; traps = [] })
        (record { signals = length b.interface; traps = 0 })
        (record { stand = parts_stand m b q.1; aligned = aligned_at_start b }) in
        let goes = met.good no_traps n ls tt (record {
          places = bound_many n.signals ls n.places b.interface bound;
          traps = t;
          signals = seen_interface known.kinds n ls n.places b.interface 0 bound (got_there n.places)
              (own_kinds b);
          opened = tt;
        }) in
        subst (λ z. Sound bodies interface no_traps n ls (body_means (numbering f) no_module z no_traps n).0
        (body_means (numbering f) no_module z no_traps n).1) (sym q.1) goes.sound
