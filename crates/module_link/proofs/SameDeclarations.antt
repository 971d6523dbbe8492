-- A text with its names resolved declares what it declared before, so that its parts are judged against the
-- same.
use Rattle.std.proofs.Common.{◌≡◌, ℕ, Bool, true, false, List, [], ◌∷◌, ◌++◌, map, refl, sym, ap}
use Rattle.std.proofs.Common.{◌∙◌}
use Rattle.std.specs.List.{AllByRecursion, flat_map, list_all, list_any}
use Rattle.module_tree.specs.declared.source.SignalNode.{SignalNode}
use Rattle.module_tree.specs.declared.source.InterfaceNode.{InterfaceNode}
use Rattle.module_tree.specs.declared.source.ParameterNode.{ParameterNode}
use Rattle.module_tree.specs.declared.source.ModuleNode.{ModuleNode}
use Rattle.module_tree.specs.declared.source.Part.TheVariants as top
use Rattle.module_tree.specs.Scopes.{InScope}
use Rattle.module_tree.specs.Parts.{StatementPart, Test, Times, Emission, Locals, Exit, Call, Start, Placed}
use Rattle.module_tree.specs.Parts.{parts_of}
use Rattle.module_tree.specs.Callables.{Signature, modules_of, signatures_of, interfaces_of}
use Rattle.module_tree.specs.Source.{is_module}
use Rattle.module_tree.specs.LinkedFacts.{Known, known_in, locals_of, sigs_of, in_each_part, no_more}
use Rattle.link_faults.specs.Named.{Name}
use Rattle.link_faults.specs.Rows.{Program}
use Rattle.module_link.specs.Resolved.{resolved_part, resolved_parts, resolved_module}
use Rattle.module_link.proofs.Lists.{all_tests, all_of_map, all_weaker}
use Rattle.module_link.proofs.ResolvedParts.{resolved_in, resolved_placed, parts_resolved}
use Rattle.module_link.proofs.Faultless.{EachPart}

module _ (program : Program) where
  pub modules_resolved : (parts : Program) → modules_of (map (resolved_part program) parts) ≡ map
      (resolved_module program) (modules_of parts)
  modules_resolved [] = refl
  modules_resolved (top.Module m ∷ parts) = ap (λ (ms : List (ModuleNode ℕ)). resolved_module program m ∷ ms)
      (modules_resolved parts)
  modules_resolved (top.Body b ∷ parts) = modules_resolved parts
  modules_resolved (top.Host h ∷ parts) = modules_resolved parts

  one_more : (s : Signature) (parts : Program)
      → signatures_of (map (resolved_part program) parts) ≡ signatures_of parts
      → s ∷ signatures_of (map (resolved_part program) parts) ≡ s ∷ signatures_of parts
  one_more s parts e = ap (λ (ss : List Signature). s ∷ ss) e

  pub same_signatures : (parts : Program) → signatures_of (map (resolved_part program) parts) ≡ signatures_of
      parts
  same_signatures [] = refl
  same_signatures (top.Module m ∷ parts) = same_signatures parts
  same_signatures (top.Body b ∷ parts) = one_more (record {
    pos = b.pos;
    name = b.name;
    parameters =
        map (λ (p : ParameterNode). p.kind) b.parameters;
    answer = b.answer;
  }) parts (same_signatures parts)
  same_signatures (top.Host h ∷ parts) = one_more (record {
    pos = h.pos;
    name = h.name;
    parameters = h.parameters;
    answer = h.answer;
  }) parts (same_signatures parts)

  interfaces_of_map : (ms : List (ModuleNode Name)) → map (λ (m : ModuleNode ℕ). m.interface)
      (map (resolved_module program) ms) ≡ map (λ (m : ModuleNode Name). m.interface) ms
  interfaces_of_map [] = refl
  interfaces_of_map (m ∷ ms) = ap (λ (is : List (List InterfaceNode)). m.interface ∷ is) (interfaces_of_map ms)

  pub same_interfaces : (parts : Program) → interfaces_of (map (resolved_part program) parts) ≡ interfaces_of
      parts
  same_interfaces parts = ap (map (λ (m : ModuleNode ℕ). m.interface)) (modules_resolved parts)
      ∙ interfaces_of_map (modules_of parts)

  same_locals : (c : InScope) (part : StatementPart Name) → locals_of (resolved_in program c part) ≡ locals_of
      part
  same_locals c (Test x) = refl
  same_locals c (Times n) = refl
  same_locals c (Emission n x) = refl
  same_locals c (Locals signals) = refl
  same_locals c (Exit t) = refl
  same_locals c (Call m bindings) = refl
  same_locals c (Start a) = refl

  all_locals : (ps : List (Placed Name)) → flat_map (λ (p : Placed ℕ). locals_of p.part)
      (map (resolved_placed program) ps) ≡ flat_map (λ (p : Placed Name). locals_of p.part) ps
  all_locals [] = refl
  all_locals (p ∷ ps) = λ i. same_locals p.scope p.part i ++ all_locals ps i

  pub same_signals : (m : ModuleNode Name) → sigs_of (resolved_module program m) ≡ sigs_of m
  same_signals m =
      ap (λ (ss : List SignalNode). map (λ (d : InterfaceNode). d.signal) m.interface ++ ss)
      (ap (flat_map (λ (p : Placed ℕ). locals_of p.part)) (parts_resolved program m) ∙ all_locals (parts_of m))

pub same_known : (parts : Program) (m : ModuleNode Name) → known_in (resolved_parts parts)
    (resolved_module parts m) ≡ known_in parts m
same_known parts m i = record {
  interfaces = same_interfaces parts parts i;
  signatures = same_signatures parts parts i;
  kinds = map (λ (s : SignalNode). s.kind) (same_signals parts m i);
}

-- what holds of each part as it is resolved
pub each_part_resolved : (test : Known → Placed ℕ → Bool) (parts : Program)
    → EachPart parts (λ m p. test (known_in parts m) (resolved_placed parts p) ≡ true)
    → in_each_part test (resolved_parts parts) ≡ true
each_part_resolved test parts h =
    ap (list_all (λ (m : ModuleNode ℕ). list_all (test (known_in (resolved_parts parts) m)) (parts_of m)))
    (modules_resolved parts parts)
    ∙ all_tests _ (map (resolved_module parts) (modules_of parts))
    (all_of_map _ (resolved_module parts) (modules_of parts)
    (all_weaker _ _ (λ m x. in_module m x) (modules_of parts) h))
  where
    in_module : (m : ModuleNode Name)
        → AllByRecursion (λ (p : Placed Name). test (known_in parts m) (resolved_placed parts p) ≡ true)
        (parts_of m)
        → list_all (test (known_in (resolved_parts parts) (resolved_module parts m)))
        (parts_of (resolved_module parts m)) ≡ true
    in_module m x =
        (λ i. list_all (test (same_known parts m i)) (parts_resolved parts m i))
        ∙ all_tests (test (known_in parts m)) (map (resolved_placed parts) (parts_of m))
        (all_of_map (λ q. test (known_in parts m) q ≡ true) (resolved_placed parts) (parts_of m) x)

-- ---- there is a main module

pub main_resolved : (parts : Program) → list_any is_module parts ≡ true
    → no_more (modules_of (resolved_parts parts)) ≡ false
main_resolved parts h = ap no_more (modules_resolved parts parts) ∙ some parts h
  where
    some : (ps : Program) → list_any is_module ps ≡ true
        → no_more (map (resolved_module parts) (modules_of ps)) ≡ false
    some [] e = sym e
    some (top.Module m ∷ ps) e = refl
    some (top.Body b ∷ ps) e = some ps e
    some (top.Host b ∷ ps) e = some ps e
