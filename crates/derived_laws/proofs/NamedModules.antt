-- Each module of a linked text names only what it declares.
use Rattle.std.proofs.Common.{Option, None, ◌≡◌, ℕ, zero, suc, ◌+◌, ◌<◌, ◌≤◌, Bool, true, false, List, [], ◌∷◌, length, map, Some}
use Rattle.std.proofs.Common.{refl, sym, ap, subst, ◌∙◌, arith}
use Rattle.std.specs.Prelude.{◌&&◌, slice_get, is_some}
use Rattle.std.specs.List.{AllByRecursion, list_all}
use Rattle.module_tree.specs.declared.source.NameAt.{NameAt}
use Rattle.module_tree.specs.declared.source.InterfaceNode.{InterfaceNode}
use Rattle.module_tree.specs.declared.source.ModuleNode.{ModuleNode}
use Rattle.module_tree.specs.declared.source.Part.{Part}
use Rattle.module_tree.specs.Callables.{modules_of}
use Rattle.module_tree.specs.Scopes.{InScope, Declared, Signal, signal_at, interface_signals, interface_from}
use Rattle.module_tree.specs.declared.source.Binding.{Binding}
use Rattle.module_tree.specs.Parts as part
use Rattle.kernel_expand.specs.Numbering.{Numbered, number_of}
use Rattle.kernel_expand.specs.Expansion.{main_interface}
use Rattle.kernel_expand.proofs.Replaced.{both_all}
use Rattle.derived_laws.specs.Runs.{Call, Binds, ScopeBelow}
use Rattle.module_tree.specs.LinkedFacts.{each_bound, places_from}
use Rattle.module_tree.specs.Parts.{Placed, Test, parts_of, block_walk, signals_named, parameters_named}
use Rattle.module_tree.specs.declared.source.BlockNode.{BlockNode}
use Rattle.module_tree.specs.declared.source.ExprAt.{ExprAt}
use Rattle.module_tree.specs.LinkedFacts.{IsLinked, Known, known_in, in_each_part, is_in_scope, binds_interface, no_more}
use Rattle.module_tree.specs.LinkedFacts.{refers}
use Rattle.kernel_expand.specs.Modules.{of_module, body_means}
use Rattle.kernel_expand.proofs.GoodModules.{all_at, got_map}
use Rattle.kernel_expand.proofs.GoodParts.{all_of_test}
use Rattle.kernel_expand.proofs.Progress.{both_true}
use Rattle.derived_laws.specs.Naming.{Naming, naming, nothing_named, names_its_own, expression_names}
use Rattle.derived_laws.specs.Bodies.{block_naming}
use Rattle.derived_laws.proofs.NamedTrees.{Tested, IsSeen, blocks_met, test_passes, as_many, all_below}

from_map : {A B : Type 0} (g : A → B) (xs : List A) (i : ℕ) (y : B) → slice_get (map g xs) i ≡ Some y
    → (x : A) × (slice_get xs i ≡ Some x) × (g x ≡ y)
from_map g [] i y e = absurd (let no : ⊥ = cc in no)
from_map g (x ∷ xs) zero y e = (x, refl, let same : g x ≡ y = cc in same)
from_map g (x ∷ xs) (suc i) y e = from_map g xs i y e

interface_below : (n a : ℕ) (ds : List InterfaceNode) → n + length ds ≤ a
    → AllByRecursion (λ (s : Signal). s.place < a) (interface_from n ds)
interface_below n a [] le = tt
interface_below n a (d ∷ ds) le = (omega (arith, le), interface_below (n + 1) a ds (omega (arith, le)))

seen_names : (known : Known) (p : Placed ℕ) → is_in_scope known p ≡ true
    → AllByRecursion (IsSeen p.scope) (signals_named p.part)
seen_names known p e =
    let test = λ (n : NameAt ℕ). is_some (signal_at p.scope n.name) in
    let q = both_true (list_all test (signals_named p.part) && no_more (parameters_named p.part))
    (refers known p.scope p.part) e in
    let r = both_true (list_all test (signals_named p.part)) (no_more (parameters_named p.part)) q.0 in
    all_of_test test (signals_named p.part) r.0

each_tested : (known : Known) (ps : List (Placed ℕ)) → AllByRecursion (λ p. is_in_scope known p ≡ true) ps
    → AllByRecursion (λ (p : Placed ℕ). binds_interface known p.part ≡ true) ps
    → AllByRecursion (Tested known) ps
each_tested known [] s b = tt
each_tested known (p ∷ ps) s b =
    (record { seen = seen_names known p s.0; bindings = b.0 }, each_tested known ps s.1 b.1)

module _ (parts : List (Part ℕ)) (linked : IsLinked parts) where
  pub in_module : (test : Known → Placed ℕ → Bool) → in_each_part test parts ≡ true → (i : ℕ) (m : ModuleNode ℕ)
      → slice_get (modules_of parts) i ≡ Some m
      → AllByRecursion (λ p. test (known_in parts m) p ≡ true) (parts_of m)
  in_module test e i m at =
      all_of_test (test (known_in parts m)) (parts_of m)
      (all_at (λ (m : ModuleNode ℕ). list_all (test (known_in parts m)) (parts_of m) ≡ true) (modules_of parts)
      (all_of_test (λ (m : ModuleNode ℕ). list_all (test (known_in parts m)) (parts_of m)) (modules_of parts) e) i m at)

  tested : (i : ℕ) (m : ModuleNode ℕ) → slice_get (modules_of parts) i ≡ Some m
      → AllByRecursion (Tested (known_in parts m)) (parts_of m)
  tested i m at =
      each_tested (known_in parts m) (parts_of m) (in_module is_in_scope linked.scopes i m at)
      (in_module (λ known p. binds_interface known p.part) linked.bindings i m at)

  module _ (modules : ℕ → Naming) (others : (i : ℕ) (m : ModuleNode ℕ) → slice_get (modules_of parts) i ≡ Some m
      → (modules i false (length m.interface)).0 ≡ true) where
    callees : (i : ℕ) (ds : List InterfaceNode)
        → slice_get (map (λ (m : ModuleNode ℕ). m.interface) (modules_of parts)) i ≡ Some ds
        → (modules i false (length ds)).0 ≡ true
    callees i ds e =
        let q = from_map (λ (m : ModuleNode ℕ). m.interface) (modules_of parts) i ds e in
        subst (λ (z : List InterfaceNode). (modules i false (length z)).0 ≡ true) q.2 (others i q.0 q.1)

    body_named : (i : ℕ) (m : ModuleNode ℕ) → slice_get (modules_of parts) i ≡ Some m
        → (body_means (naming modules) nothing_named (Some m) false (length m.interface)).0 ≡ true
    body_named i m at =
        let scope : InScope = record { signals = interface_signals m.interface; traps = [] } in
        let before : Declared = record { signals = length m.interface; traps = 0 } in
        let met = blocks_met (known_in parts m) modules callees m.block scope before
        (interface_below 0 (length m.interface) m.interface (omega arith)) (tested i m at) false in
        ap (λ (z : Bool × ℕ). z.0) met.is

  pub modules_named : (deep i : ℕ) (m : ModuleNode ℕ) → slice_get (modules_of parts) i ≡ Some m
      → names_its_own (modules_of parts) deep i (length m.interface) ≡ true
  unfolding of_module
  modules_named zero i m at = refl
  modules_named (suc deep) i m at =
      ap (λ o. (body_means (naming (of_module naming nothing_named (modules_of parts) deep)) nothing_named o false
      (length m.interface)).0) at
      ∙ body_named (of_module naming nothing_named (modules_of parts) deep) (modules_named deep) i m at

  pub block_named : (deep : ℕ) (m : ModuleNode ℕ) (b : BlockNode ℕ) (scope : InScope) (before : Declared)
      → ScopeBelow before.signals scope
      → AllByRecursion (λ p. is_in_scope (known_in parts m) p ≡ true) (block_walk b scope before).parts
      → AllByRecursion (λ (p : Placed ℕ). binds_interface (known_in parts m) p.part ≡ true)
      (block_walk b scope before).parts →
      block_naming (modules_of parts) deep b false before.signals
      ≡ (true, (block_walk b scope before).after.signals)
  block_named deep m b scope before low seen bound =
      let modules = of_module naming nothing_named (modules_of parts) deep in
      (blocks_met (known_in parts m) modules (callees modules (modules_named deep)) b scope before low
      (each_tested (known_in parts m) (block_walk b scope before).parts seen bound) false).is

pub test_named : (parts : List (Part ℕ)) (m : ModuleNode ℕ) (scope : InScope) (a : ℕ) (x : ExprAt ℕ)
    → ScopeBelow a scope → is_in_scope (known_in parts m) (record { scope = scope; part = Test x }) ≡ true
    → expression_names a x.expr ≡ true
test_named parts m scope a x low e =
    let p : Placed ℕ = record { scope = scope; part = Test x } in
    test_passes (known_in parts m) a scope x low (record { seen = seen_names (known_in parts m) p e; bindings = refl }) a
    (omega arith)

-- ---- a run that passes the tests binds its callee's interface

interface_at : (parts : List (Part ℕ)) (i : ℕ) (o : Option (ModuleNode ℕ)) → slice_get (modules_of parts) i ≡ o
    → (bs : List (Binding ℕ)) → each_bound (λ b d. true) bs
    (slice_get (map (λ (m : ModuleNode ℕ). m.interface) (modules_of parts)) i) ≡ true
    → (m : ModuleNode ℕ) × (slice_get (modules_of parts) i ≡ Some m) × (length bs ≡ length m.interface)
interface_at parts i None at bs e =
    absurd (let no : ⊥ = not_there (λ (m : ModuleNode ℕ). m.interface) (modules_of parts) i at bs e in no)
  where
    not_there : (f : ModuleNode ℕ → List InterfaceNode) (ms : List (ModuleNode ℕ)) (i : ℕ) → slice_get ms i ≡ None
        → (bs : List (Binding ℕ)) → each_bound (λ b d. true) bs (slice_get (map f ms) i) ≡ true → ⊥
    not_there f [] i at bs e = cc
    not_there f (m ∷ ms) zero at bs e = cc
    not_there f (m ∷ ms) (suc i) at bs e = not_there f ms i at bs e
interface_at parts i (Some m) at bs e = (
  m,
  at,
  as_many (λ b d. true) bs m.interface
      (subst (λ o. each_bound (λ b d. true) bs o ≡ true)
      (got_map (λ (m : ModuleNode ℕ). m.interface) (modules_of parts) i m at) e),
)

bound_below : (n : Numbered) → ((p : ℕ) → p < length n.places → number_of n p < length n.signals)
    → (bs : List (Binding ℕ))
    → AllByRecursion (λ (x : NameAt ℕ). x.name < length n.places) (map (λ (b : Binding ℕ). b.right) bs)
    → AllByRecursion (λ s. s < length n.signals) (map (λ (b : Binding ℕ). number_of n b.right.name) bs)
bound_below n h [] k = tt
bound_below n h (b ∷ bs) k = (h b.right.name k.0, bound_below n h bs k.1)

pub run_binds : (parts : List (Part ℕ)) → IsLinked parts → (m : ModuleNode ℕ) (scope : InScope) (callee : NameAt ℕ)
    (c : Call) → c.modules ≡ modules_of parts → c.callee ≡ callee.name
    → is_in_scope (known_in parts m) (record { scope = scope; part = part.Call callee c.bindings }) ≡ true
    → binds_interface (known_in parts m) (part.Call callee c.bindings) ≡ true
    → ScopeBelow (length c.before.places) scope
    → ((p : ℕ) → p < length c.before.places → number_of c.before p < length c.before.signals) → Binds c
run_binds parts linked m scope callee c same at seen bound low numbers =
    let p : Placed ℕ = record { scope = scope; part = part.Call callee c.bindings } in
    let names = seen_names (known_in parts m) p seen in
    let q = both_all (IsSeen scope) (map (λ (b : Binding ℕ). b.right) c.bindings) [] names in
    let below = all_below (length c.before.places) scope low (map (λ (b : Binding ℕ). b.right) c.bindings) q.0 in
    let e = both_true (places_from 0 c.bindings)
    (each_bound (λ b d. true) c.bindings (slice_get (known_in parts m).interfaces callee.name)) bound in
    let i = interface_at parts callee.name (slice_get (modules_of parts) callee.name) refl c.bindings e.1 in
    let there : slice_get c.modules c.callee ≡ Some i.0 = (λ j. slice_get (same j) (at j)) ∙ i.1 in
    record {
      all = i.2 ∙ ap (λ (o : Option (ModuleNode ℕ)). length (main_interface o)) (sym there);
      declared = bound_below c.before numbers c.bindings below;
      own = (λ j. names_its_own (same j) c.deep (at j) (i.2 j)) ∙ modules_named parts linked c.deep callee.name i.0 i.1;
    }
