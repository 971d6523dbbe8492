-- A run of a text without faults, resolved: the module that is run, and its bindings.
use Rattle.std.proofs.Common.{◌≡◌, ℕ, ◌+◌, Bool, true, List, [], ◌∷◌, map, Some}
use Rattle.std.proofs.Common.{None, option_map, refl, sym, ap, ◌∙◌, eq-eqb, arith}
use Rattle.std.specs.Prelude.{◌==◌, is_some, slice_get}
use Rattle.std.specs.List.{AllByRecursion, flat_map}
use Rattle.std.proofs.lemmas.Bool.{and_from}
use Rattle.hh_base.specs.declared.value.Pos.{Pos}
use Rattle.module_tree.specs.declared.source.NameAt.{NameAt}
use Rattle.module_tree.specs.declared.source.ExprAt.{ExprAt}
use Rattle.module_tree.specs.declared.source.Binding.{Binding}
use Rattle.module_tree.specs.declared.source.InterfaceNode.{InterfaceNode}
use Rattle.module_tree.specs.declared.source.ModuleNode.{ModuleNode}
use Rattle.module_tree.specs.Scopes.{Signal, InScope, interface_from, interface_signals}
use Rattle.module_tree.specs.Parts.{Call, signals_written, expressions_of, signals_read}
use Rattle.module_tree.specs.Callables.{modules_of, interfaces_of}
use Rattle.module_tree.specs.LinkedFacts.{each_binding, places_from}
use Rattle.link_faults.specs.Named.{Name, module_named, place_from}
use Rattle.link_faults.specs.Rows as row
use Rattle.link_faults.specs.Rows.{Program, module_place, unknown_among}
use Rattle.module_link.specs.Resolved.{or_first, resolved_binding, resolved_bindings}
use Rattle.module_link.proofs.Lists.{append_empty, all_found, all_split, all_from_map, get_of_map}
use Rattle.module_link.proofs.Distinct.{place_found, AtPlace}
use Rattle.module_link.proofs.Meanings.{all_known, is_there}
use Rattle.module_link.proofs.Faultless.{Fine, FineText, names_of_interface}
use Rattle.module_link.proofs.Bound.{Bound, all_bound, written_for}

-- what stands at the place of a name, of what is found by it
pub stands_at : {A : Type 0} (f : A → Name) (xs : List A) (name : Name) (x : A)
    → AtPlace xs x (place_from 0 (map f xs) name) 0
    → slice_get xs (or_first (place_from 0 (map f xs) name)) ≡ Some x
stands_at f xs name x q =
    let same : 0 + q.index ≡ q.index = omega arith in
    ap (λ o. slice_get xs (or_first o)) q.place_is ∙ ap (slice_get xs) same ∙ q.stands

-- the run of a module
pub record RunOf (parts : Program) (m : ModuleNode Name) (c : InScope) (callee : NameAt Name)
    (written : List (Binding Name)) : Type 0 where
  pub module_run : ModuleNode Name
  pub named : module_named parts callee.name ≡ Some module_run
  pub interface_at : slice_get (interfaces_of parts) (or_first (module_place parts callee.name))
      ≡ Some module_run.interface
  pub bindings_are : resolved_bindings c callee.pos written (module_named parts callee.name)
      ≡ map (λ (s : Signal). resolved_binding c callee.pos s (written_for written s))
      (interface_signals module_run.interface)
  pub bound : AllByRecursion (λ (s : Signal). Bound m c s (resolved_binding c callee.pos s
      (written_for written s))) (interface_signals module_run.interface)

pub run_of : (parts : Program) → FineText parts → (m : ModuleNode Name) (c : InScope) (callee : NameAt Name)
    (written : List (Binding Name)) → Fine parts m (record { scope = c; part = Call callee written })
    → RunOf parts m c callee written
run_of parts text m c callee written fine =
    let q = is_there (module_named parts callee.name)
    (all_known (λ n. is_some (module_named parts n)) (callee ∷ []) fine.modules).0 in
    let once = (all_found (λ (n : ModuleNode Name). row.repeated (names_of_interface n) ≡ []) _
    (modules_of parts) q.0 text.interfaces q.1).0 in
    let known = append_empty _ _ fine.signals in
    let named = all_split _ (signals_written (Call callee written)) (flat_map (λ (x : ExprAt Name).
    signals_read x.expr) (expressions_of (Call callee written))) (all_known _ _ known.0) in
    let rights = all_from_map _ (λ (b : Binding Name). b.right) written named.0 in
    let at = stands_at (λ (n : ModuleNode Name). n.name) (modules_of parts) callee.name q.0
    (place_found (λ (n : ModuleNode Name). n.name) 0 (modules_of parts) callee.name q.0 q.1) in
    record {
      module_run = q.0;
      named = q.1;
      interface_at = get_of_map (λ (n : ModuleNode Name). n.interface) (modules_of parts) _
          ∙ ap (option_map (λ (n : ModuleNode Name). n.interface)) at;
      bindings_are = ap (resolved_bindings c callee.pos written) q.1;
      bound = all_bound m q.0 c callee written fine.placed once rights
          (sym (at_callee (row.badly_bound c) q.0 q.1) ∙ fine.bindings)
          (sym (at_callee (row.emitted_by_callee c) q.0 q.1) ∙ fine.inputs);
    }
  where
    at_callee : (r : NameAt Name → List (Binding Name) → ModuleNode Name → List Pos) (n : ModuleNode Name)
        → module_named parts callee.name ≡ Some n
        → row.in_run r parts (Call callee written) ≡ r callee written n
    at_callee r n e =
        ap (λ o. elim o as (λ x. List Pos) [ None ↦ [] | Some k ↦ r callee written k ]) e

-- ---- its bindings, one for each signal of the interface

pub each_of_interface : (test : Binding ℕ → InterfaceNode → Bool) (f : Signal → Binding ℕ) (n : ℕ)
    (ds : List InterfaceNode)
    → AllByRecursion (λ (s : Signal). test (f s) (record { dir = s.dir; signal = s.signal }) ≡ true)
    (interface_from n ds) → each_binding test (map f (interface_from n ds)) ds ≡ true
each_of_interface test f n [] h = refl
each_of_interface test f n (d ∷ ds) h =
    let s : Signal = record { place = n; dir = d.dir; signal = d.signal } in
    and_from (test (f s) d) (each_binding test (map f (interface_from (n + 1) ds)) ds) h.0
    (each_of_interface test f (n + 1) ds h.1)

pub places_of_interface : (f : Signal → Binding ℕ) (n : ℕ) (ds : List InterfaceNode)
    → AllByRecursion (λ (s : Signal). (f s).left.name ≡ s.place) (interface_from n ds)
    → places_from n (map f (interface_from n ds)) ≡ true
places_of_interface f n [] h = refl
places_of_interface f n (d ∷ ds) h =
    let s : Signal = record { place = n; dir = d.dir; signal = d.signal } in
    and_from ((f s).left.name == n) (places_from (n + 1) (map f (interface_from (n + 1) ds)))
    (eq-eqb (f s).left.name n h.0) (places_of_interface f (n + 1) ds h.1)
