use Rattle.std.proofs.Common.{◌≡◌, List, [], ◌∷◌, map, refl, ◌∙◌, ap, subst, Bor}
use Rattle.module_tree.specs.declared.source.ModuleNode.{ModuleNode}
use Rattle.link_faults.specs.declared.fault.LinkKind.TheVariants as fault
use Rattle.link_faults.specs.Named.{Name}
use Rattle.link_faults.specs.NameTables.{IsTable}
use Rattle.link_faults.specs.TextTables.{name_of_module}
use Rattle.link_faults.proofs.text.text_of.Goals as goal

names_behind : (ms : List (Bor (ModuleNode Name)))
    → map (λ m. name_of_module m.now) ms ≡ map name_of_module (map (λ m. m.now) ms)
names_behind [] = refl
names_behind (m ∷ ms) = ap (λ ns. name_of_module m.now ∷ ns) (names_behind ms)

pub returns-clause-text : goal.returns-clause-text
returns-clause-text c = record {
  modules = c.in_ok-modules.ensures;
  names = subst (λ ns. IsTable fault.TwiceDeclared ns c.in_ok-names.names)
      (ap (map (λ m. name_of_module m.now)) c.as_slice.ensures.value
      ∙ names_behind c.in_ok-modules.modules.items ∙ ap (map name_of_module) c.in_ok-modules.ensures)
      c.in_ok-names.ensures;
  callables = c.in_ok-callables_of.ensures;
}
