-- What a text without faults keeps in each part of each module.
use Rattle.std.proofs.Common.{◌≡◌, true, List, [], ◌∷◌, ◌++◌, map}
use Rattle.std.specs.Prelude.{◌&&◌, is_some}
use Rattle.std.specs.List.{AllByRecursion, flat_map, list_all, list_any}
use Rattle.std.proofs.lemmas.Bool.{and_parts}
use Rattle.hh_base.specs.declared.value.Pos.{Pos}
use Rattle.module_tree.specs.declared.source.NameAt.{NameAt}
use Rattle.module_tree.specs.declared.source.InterfaceNode.{InterfaceNode}
use Rattle.module_tree.specs.declared.source.ModuleNode.{ModuleNode}
use Rattle.module_tree.specs.declared.source.Part.{Part}
use Rattle.module_tree.specs.declared.source.Part.TheVariants as top
use Rattle.module_tree.specs.Scopes.{InScope}
use Rattle.module_tree.specs.Parts.{StatementPart, Placed, parts_of}
use Rattle.module_tree.specs.Callables.{Signature, modules_of, signatures_of}
use Rattle.module_tree.specs.Source.{is_source, is_module, is_shallow}
use Rattle.module_tree.specs.SourceForms.{fits_part, fits_block, fits_interface}
use Rattle.module_tree.specs.SourceWords.{is_written_name}
use Rattle.link_faults.specs.declared.fault.LinkKind.TheVariants as fault
use Rattle.link_faults.specs.Named.{Name, signal_named, trap_named, module_named, signature_named}
use Rattle.link_faults.specs.Rows as row
use Rattle.link_faults.specs.Rows.{Program, in_parts, unknown_among, in_run, here_if}
use Rattle.link_faults.specs.FirstFault.{IsFaultless}
use Rattle.module_link.proofs.Lists.{append_empty, contains_nothing, flat_map_empty, all_both, all_weaker}
use Rattle.module_link.proofs.Lists.{tests_all}
use Rattle.module_link.proofs.SourceWalks.{is_written}
use Rattle.module_link.proofs.ScopePlaces.{IsPlaced, signals_of, module_placed, module_written}

abbrev pub EachPart : Program → (ModuleNode Name → Placed Name → Type 0) → Type 0
EachPart parts P = AllByRecursion (λ (m : ModuleNode Name). AllByRecursion (P m) (parts_of m))
    (modules_of parts)

pub each_both : (parts : Program) (P Q : ModuleNode Name → Placed Name → Type 0) → EachPart parts P
    → EachPart parts Q → EachPart parts (λ m p. P m p × Q m p)
each_both parts P Q h g =
    all_weaker _ _ (λ m x. all_both (P m) (Q m) (parts_of m) x.0 x.1) (modules_of parts)
    (all_both _ _ (modules_of parts) h g)

pub each_weaker : (parts : Program) (P Q : ModuleNode Name → Placed Name → Type 0)
    → ((m : ModuleNode Name) (p : Placed Name) → P m p → Q m p) → EachPart parts P → EachPart parts Q
each_weaker parts P Q f h = all_weaker _ _ (λ m x. all_weaker (P m) (Q m) (f m) (parts_of m) x)
    (modules_of parts) h

-- ---- rows in which there is nothing

row_empty : (r : InScope → StatementPart Name → List Pos) (parts : Program) → in_parts r parts ≡ []
    → EachPart parts (λ m p. r p.scope p.part ≡ [])
row_empty r parts e =
    all_weaker _ _ (λ m x. flat_map_empty (λ (p : Placed Name). r p.scope p.part) (parts_of m) x)
    (modules_of parts)
    (flat_map_empty (λ (m : ModuleNode Name). flat_map (λ (p : Placed Name). r p.scope p.part) (parts_of m))
    (modules_of parts) e)

-- what a part keeps
pub record Fine (parts : Program) (m : ModuleNode Name) (p : Placed Name) : Type 0 where
  pub once : row.repeated_in_statement p.scope p.part ≡ []
  pub signals : row.unknown_in_statement p.scope p.part ≡ []
  pub modules : unknown_among (λ n. is_some (module_named parts n)) (row.called p.part) ≡ []
  pub traps : unknown_among (λ n. is_some (trap_named p.scope n)) (row.broken_out p.part) ≡ []
  pub bodies : unknown_among (λ n. is_some (signature_named parts n)) (row.started p.part) ≡ []
  pub kinds : row.wrong_in_statement parts p.scope p.part ≡ []
  pub inputs : flat_map (λ (n : NameAt Name). here_if (row.is_in (signal_named p.scope n.name)) n.pos)
      (row.emits p.part) ++ in_run (row.emitted_by_callee p.scope) parts p.part ≡ []
  pub bindings : in_run (row.badly_bound p.scope) parts p.part ≡ []
  pub written : is_written p.part ≡ true
  pub placed : IsPlaced (signals_of m) p.scope

abbrev pub names_of_modules : Program → List (NameAt Name)
names_of_modules parts = map (λ (m : ModuleNode Name). record { pos = m.pos; name = m.name }) (modules_of parts)

abbrev pub names_of_signatures : Program → List (NameAt Name)
names_of_signatures parts = map (λ (s : Signature). record { pos = s.pos; name = s.name })
    (signatures_of parts)

abbrev pub names_of_interface : ModuleNode Name → List (NameAt Name)
names_of_interface m = map (λ (d : InterfaceNode). row.name_of_signal d.signal) m.interface

-- what a text keeps
pub record FineText (parts : Program) : Type 0 where
  pub main : list_any is_module parts ≡ true
  pub forms : AllByRecursion (λ (p : Part Name). fits_part p ≡ true) parts
  pub modules : row.repeated (names_of_modules parts) ≡ []
  pub signatures : row.repeated (names_of_signatures parts) ≡ []
  pub once : AllByRecursion (λ (p : Part Name). row.repeated_in_part p ≡ []) parts
  pub interfaces : AllByRecursion (λ (m : ModuleNode Name). row.repeated (names_of_interface m) ≡ [])
      (modules_of parts)
  pub known : AllByRecursion (λ (p : Part Name). row.unknown_in_part p ≡ []) parts
  pub kinds : AllByRecursion (λ (p : Part Name). row.wrong_in_part p ≡ []) parts
  pub each : EachPart parts (Fine parts)

pub of_modules : (P : Part Name → Type 0) (Q : ModuleNode Name → Type 0)
    → ((m : ModuleNode Name) → P (top.Module m) → Q m) → (parts : Program) → AllByRecursion P parts
    → AllByRecursion Q (modules_of parts)
of_modules P Q f [] h = tt
of_modules P Q f (top.Module m ∷ parts) h = (f m h.0, of_modules P Q f parts h.1)
of_modules P Q f (top.Body b ∷ parts) h = of_modules P Q f parts h.1
of_modules P Q f (top.Host b ∷ parts) h = of_modules P Q f parts h.1

pub text_is_fine : (parts : Program) → is_source parts ≡ true → IsFaultless parts → FineText parts
text_is_fine parts source faultless =
    let s = and_parts (list_any is_module parts && list_all fits_part parts) (list_all is_shallow parts)
    source in
    let t = and_parts (list_any is_module parts) (list_all fits_part parts) s.0 in
    let forms = tests_all fits_part parts t.1 in
    let fits = of_modules (λ p. fits_part p ≡ true) (λ m. fits_block m.block ≡ true)
    (λ m h. (and_parts (is_written_name m.name && list_all fits_interface m.interface) (fits_block m.block)
    h).1) parts forms in
    let names = row.repeated (names_of_modules parts) in
    let signatures = row.repeated (names_of_signatures parts) in
    let twice = append_empty (names ++ signatures ++ flat_map row.repeated_in_part parts)
    (in_parts row.repeated_in_statement parts)
    (contains_nothing (row.twice_declared parts) (faultless fault.TwiceDeclared)) in
    let twice' = append_empty (names ++ signatures) (flat_map row.repeated_in_part parts) twice.0 in
    let twice'' = append_empty names signatures twice'.0 in
    let once = flat_map_empty row.repeated_in_part parts twice'.1 in
    let unknown = append_empty (flat_map row.unknown_in_part parts)
    (in_parts row.unknown_in_statement parts)
    (contains_nothing (row.unknown_signal parts) (faultless fault.UnknownSignal)) in
    let wrong = append_empty (flat_map row.wrong_in_part parts) (in_parts (row.wrong_in_statement parts) parts)
    (contains_nothing (row.kind_wrong parts) (faultless fault.KindWrong)) in
    let a = row_empty row.repeated_in_statement parts twice.1 in
    let b = row_empty row.unknown_in_statement parts unknown.1 in
    let c = row_empty (λ scope part. unknown_among (λ n. is_some (module_named parts n)) (row.called part)) parts
    (contains_nothing (row.unknown_module parts) (faultless fault.UnknownModule)) in
    let d = row_empty (λ scope part. unknown_among (λ n. is_some (trap_named scope n)) (row.broken_out part))
    parts (contains_nothing (row.unknown_trap parts) (faultless fault.UnknownTrap)) in
    let e = row_empty (λ scope part. unknown_among (λ n. is_some (signature_named parts n))
    (row.started part)) parts (contains_nothing (row.unknown_body parts) (faultless fault.UnknownBody)) in
    let f = row_empty (row.wrong_in_statement parts) parts wrong.1 in
    let g = row_empty (λ scope part. flat_map (λ (n : NameAt Name). here_if
    (row.is_in (signal_named scope n.name)) n.pos) (row.emits part)
    ++ in_run (row.emitted_by_callee scope) parts part) parts
    (contains_nothing (row.emits_input parts) (faultless fault.EmitsInput)) in
    let h = row_empty (λ scope part. in_run (row.badly_bound scope) parts part) parts
    (contains_nothing (row.bad_binding parts) (faultless fault.BadBinding)) in
    let k = all_weaker (λ m. fits_block m.block ≡ true) (λ m. AllByRecursion (λ (p : Placed Name).
    is_written p.part ≡ true) (parts_of m)) module_written (modules_of parts) fits in
    let l = all_weaker (λ m. fits_block m.block ≡ true) (λ m. AllByRecursion (λ (p : Placed Name).
    IsPlaced (signals_of m) p.scope) (parts_of m)) module_placed (modules_of parts) fits in
    record {
      main = t.0;
      forms = forms;
      modules = twice''.0;
      signatures = twice''.1;
      once = once;
      interfaces = of_modules (λ p. row.repeated_in_part p ≡ [])
          (λ m. row.repeated (names_of_interface m) ≡ []) (λ m x. x) parts once;
      known = flat_map_empty row.unknown_in_part parts unknown.0;
      kinds = flat_map_empty row.wrong_in_part parts wrong.0;
      each =
          each_weaker parts _ (Fine parts)
          (λ m p x. record {
            once = x.0;
            signals = x.1.0;
            modules = x.1.1.0;
            traps = x.1.1.1.0;
            bodies = x.1.1.1.1.0;
            kinds = x.1.1.1.1.1.0;
            inputs = x.1.1.1.1.1.1.0;
            bindings = x.1.1.1.1.1.1.1.0;
            written = x.1.1.1.1.1.1.1.1.0;
            placed = x.1.1.1.1.1.1.1.1.1;
          })
          (each_both parts _ _ a (each_both parts _ _ b (each_both parts _ _ c (each_both parts _ _ d
          (each_both parts _ _ e (each_both parts _ _ f (each_both parts _ _ g (each_both parts _ _ h
          (each_both parts _ _ k l)))))))));
    }
