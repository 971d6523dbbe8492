-- What names of modules, bodies and hosts mean by the tables of a text.
use Rattle.std.proofs.Common.{◌≡◌, ℕ, Option, [], refl, sym, ◌∙◌, ap}
use Rattle.std.specs.Prelude.{option_map}
use Rattle.module_tree.specs.declared.source.ModuleNode.{ModuleNode}
use Rattle.module_tree.specs.Callables.{Signature, modules_of, signatures_of}
use Rattle.link_faults.specs.declared.text.Text.{Text}
use Rattle.link_faults.specs.Named.{Name, place_of, module_named, signature_named}
use Rattle.link_faults.specs.Rows.{module_place}
use Rattle.link_faults.specs.NameTables.{place_in_table}
use Rattle.link_faults.specs.CallableTables.{callable, name_of_callable}
use Rattle.link_faults.specs.TextTables.{IsText, name_of_module}
use Rattle.link_faults.proofs.RunLaws.{item_at, found_place, names_alike, item_mapped}

abbrev module_name : ModuleNode Name → Name
module_name m = m.name

abbrev signature_name : Signature → Name
signature_name s = s.name

pub module_meant : (t : Text) (q : Name) (p : Option ℕ) → IsText t → p ≡ place_in_table t.names q
    → option_map (λ m. m.now) (item_at t.modules.items p) ≡ module_named t.parts.now q
module_meant t q p text at =
    let ms = modules_of t.parts.now in
    item_mapped (λ m. m.now) t.modules.items p ∙ ap (λ xs. item_at xs p) text.modules
    ∙ ap (item_at ms) (at ∙ text.names.found q
    ∙ ap (λ ns. place_of ns q) (names_alike module_name name_of_module (λ m. refl) ms))
    ∙ found_place module_name [] ms 0 q refl

pub callable_meant : (t : Text) (q : Name) (p : Option ℕ) → IsText t
    → p ≡ place_in_table t.callables.names q
    → item_at t.callables.all p ≡ option_map callable (signature_named t.parts.now q)
callable_meant t q p text at =
    let ss = signatures_of t.parts.now in
    ap (λ xs. item_at xs p) text.callables.all ∙ sym (item_mapped callable ss p)
    ∙ ap (λ o. option_map callable (item_at ss o)) (at ∙ text.callables.names.found q
    ∙ ap (λ ns. place_of ns q) (names_alike signature_name name_of_callable (λ s. refl) ss))
    ∙ ap (option_map callable) (found_place signature_name [] ss 0 q refl)

pub module_placed : (t : Text) (q : Name) → IsText t → place_in_table t.names q ≡ module_place t.parts.now q
module_placed t q text = text.names.found q ∙ ap (λ ns. place_of ns q)
    (names_alike module_name name_of_module (λ m. refl) (modules_of t.parts.now))
