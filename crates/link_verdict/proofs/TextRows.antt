-- The first of the faults of all declarations of a text is that of its rows, over all kinds.
use Rattle.std.proofs.Common.{◌≡◌, Option, Some, None, List, [], ◌∷◌, ◌++◌, map, refl, sym, ◌∙◌, ap, subst}
use Rattle.std.specs.Prelude.{option_map, is_some, false}
use Rattle.std.specs.List.{Contains, flat_map}
use Rattle.std.proofs.lemmas.List.{append-nil}
use Rattle.hh_base.specs.declared.value.Pos.{Pos}
use Rattle.module_tree.specs.declared.source.NameAt.{NameAt}
use Rattle.module_tree.specs.declared.source.InterfaceNode.{InterfaceNode}
use Rattle.module_tree.specs.declared.source.ParameterNode.{ParameterNode}
use Rattle.module_tree.specs.declared.source.ModuleNode.{ModuleNode}
use Rattle.module_tree.specs.declared.source.BodyNode.{BodyNode}
use Rattle.module_tree.specs.declared.source.Part.{Part}
use Rattle.module_tree.specs.declared.source.Part.TheVariants as top
use Rattle.module_tree.specs.Parts.{Placed, parts_of, signals_read, parameters_read}
use Rattle.module_tree.specs.Callables.{modules_of, signatures_of}
use Rattle.link_faults.specs.declared.fault.LinkKind.{LinkKind}
use Rattle.link_faults.specs.declared.fault.LinkKind.TheVariants as fault
use Rattle.link_faults.specs.declared.fault.LinkFault.{LinkFault}
use Rattle.link_faults.specs.Faults.{earlier}
use Rattle.link_faults.specs.Earliest.{first_at, first_by}
use Rattle.link_faults.specs.Named.{Name, parameter_named}
use Rattle.link_faults.specs.SourceKinds.{wrong_for}
use Rattle.link_faults.specs.Judgements.{first_unknown}
use Rattle.link_faults.specs.NameTables.{interface_name, name_of_parameter}
use Rattle.link_faults.specs.CallableTables.{name_of_callable}
use Rattle.link_faults.specs.TextTables.{name_of_module}
use Rattle.link_faults.specs.Rows.{Program, no_kinds, repeated, repeated_in_part, unknown_in_part}
use Rattle.link_faults.specs.Rows.{wrong_in_part, wrong_signal, unknown_among}
use Rattle.link_faults.specs.Rows.{unknown_module, unknown_trap, unknown_body, emits_input}
use Rattle.link_faults.specs.Rows.{bad_binding}
use Rattle.link_faults.specs.FirstFault.{HasFault, IsVerdict}
use Rattle.link_faults.specs.Walks.{first_placed}
use Rattle.link_faults.proofs.EarlierLaws.{earlier_none, earlier_turned, earlier_grouped, earlier_paired}
use Rattle.link_faults.proofs.EarlierLaws.{first_at_joined, first_at_each}
use Rattle.link_faults.proofs.VerdictLaw.{Table, all_kinds, first_is_verdict}
use Rattle.link_verdict.specs.Declarations.{first_in_interface}
use Rattle.link_verdict.specs.Declarations.{kinds_of_parameters, first_in_body, first_in_declaration}
use Rattle.link_verdict.specs.Cycles.{AreCycles}
use Rattle.link_verdict.proofs.PartRows.{statement_rows, first_over, part_rows, unknown_first}

abbrev Fault : Type 0
Fault = Option LinkFault

-- ---- tables

over_joined : (a b : Table) → first_over (λ k. a k ++ b k) ≡ earlier (first_over a) (first_over b)
over_joined a b = by all_kinds
  where
    by : (ks : List LinkKind) → first_by (λ k. first_at k (a k ++ b k)) ks
        ≡ earlier (first_by (λ k. first_at k (a k)) ks) (first_by (λ k. first_at k (b k)) ks)
    by [] = refl
    by (k ∷ ks) = ap (λ o. earlier o (first_by (λ k. first_at k (a k ++ b k)) ks)) (first_at_joined k (a k) (b k))
        ∙ ap (earlier (earlier (first_at k (a k)) (first_at k (b k)))) (by ks)
        ∙ earlier_paired (first_at k (a k)) (first_at k (b k)) (first_by (λ k. first_at k (a k)) ks)
        (first_by (λ k. first_at k (b k)) ks)

-- the rows of several items together
over_each : {A : Type 0} (rows : A → Table) (xs : List A)
    → first_over (λ k. flat_map (λ x. rows x k) xs) ≡ first_by (λ x. first_over (rows x)) xs
over_each rows [] = refl
over_each rows (x ∷ xs) = over_joined (rows x) (λ k. flat_map (λ x. rows x k) xs)
    ∙ ap (earlier (first_over (rows x))) (over_each rows xs)

each_alike : {A : Type 0} (f g : A → Fault) → ((x : A) → f x ≡ g x) → (xs : List A) → first_by f xs ≡ first_by g xs
each_alike f g e [] = refl
each_alike f g e (x ∷ xs) = ap (λ o. earlier o (first_by f xs)) (e x) ∙ ap (earlier (g x)) (each_alike f g e xs)

none_of_any : {A B : Type 0} (xs : List A) → flat_map {A = B} (λ x. []) xs ≡ []
none_of_any [] = refl
none_of_any (x ∷ xs) = none_of_any xs

-- ---- the parts of modules

abbrev module_rows : Program → ModuleNode Name → Table
module_rows parts m k = flat_map (λ (p : Placed Name). statement_rows parts p.scope p.part k) (parts_of m)

module_first : (parts : Program) (m : ModuleNode Name)
    → first_by (first_placed parts) (parts_of m) ≡ first_over (module_rows parts m)
module_first parts m = each_alike (first_placed parts)
    (λ (p : Placed Name). first_over (statement_rows parts p.scope p.part))
    (λ (p : Placed Name). part_rows parts p.scope p.part) (parts_of m)
    ∙ sym (over_each (λ (p : Placed Name). statement_rows parts p.scope p.part) (parts_of m))

-- ---- declarations, but for the parts of modules

abbrev declaration_rows : Part Name → Table
declaration_rows part fault.TwiceDeclared = repeated_in_part part
declaration_rows part fault.UnknownSignal = unknown_in_part part
declaration_rows part fault.UnknownModule = []
declaration_rows part fault.UnknownTrap = []
declaration_rows part fault.UnknownBody = []
declaration_rows part fault.KindWrong = wrong_in_part part
declaration_rows part fault.EmitsInput = []
declaration_rows part fault.BadBinding = []
declaration_rows part fault.RunCycle = []

interface_first : (m : ModuleNode Name) → first_in_interface m.interface ≡ first_over (declaration_rows (top.Module m))
interface_first m = ap (earlier (first_at fault.TwiceDeclared (repeated (map interface_name m.interface))))
    (sym (first_at_each fault.KindWrong (λ (d : InterfaceNode). wrong_signal d.signal) m.interface)
    ∙ sym (earlier_none (first_at fault.KindWrong (flat_map (λ (d : InterfaceNode). wrong_signal d.signal) m.interface))))

body_first : (b : BodyNode Name) → first_in_body b ≡ first_over (declaration_rows (top.Body b))
body_first b =
    let ps = kinds_of_parameters b.parameters in
    let w = first_at fault.KindWrong (wrong_for no_kinds ps b.answer b.expr) in
    ap (λ o. earlier (first_at fault.TwiceDeclared (repeated (map name_of_parameter b.parameters))) (earlier o w))
    (ap (λ o. earlier o (first_unknown ps (parameters_read b.expr.expr)))
    (sym (unknown_first (λ n. false) no_kinds (λ n. refl) (signals_read b.expr.expr)))
    ∙ ap (earlier (first_at fault.UnknownSignal (unknown_among (λ n. false) (signals_read b.expr.expr))))
    (sym (unknown_first (λ n. is_some (parameter_named b.parameters n)) ps known (parameters_read b.expr.expr)))
    ∙ sym (first_at_joined fault.UnknownSignal (unknown_among (λ n. false) (signals_read b.expr.expr))
    (unknown_among (λ n. is_some (parameter_named b.parameters n)) (parameters_read b.expr.expr))))
    ∙ ap (λ o. earlier (first_at fault.TwiceDeclared (repeated (map name_of_parameter b.parameters)))
    (earlier (first_at fault.UnknownSignal (unknown_in_part (top.Body b))) o)) (sym (earlier_none w))
  where
    known : (n : Name) → is_some (parameter_named b.parameters n) ≡ is_some (kinds_of_parameters b.parameters n)
    known n = by (parameter_named b.parameters n)
      where
        by : (o : Option ParameterNode) → is_some o ≡ is_some (option_map (λ (p : ParameterNode). p.kind) o)
        by None = refl
        by (Some p) = refl

abbrev own_first : Program → List (Part Name) → Fault
own_first parts = first_by (λ (q : Part Name). first_over (declaration_rows q))

abbrev modules_first : Program → List (ModuleNode Name) → Fault
modules_first parts = first_by (λ (m : ModuleNode Name). first_over (module_rows parts m))

declared_first : (parts : Program) (qs : List (Part Name)) → first_by (first_in_declaration parts) qs
    ≡ earlier (own_first parts qs) (modules_first parts (modules_of qs))
declared_first parts [] = refl
declared_first parts (top.Module m ∷ qs) =
    let own = first_over (declaration_rows (top.Module m)) in
    let inner = first_over (module_rows parts m) in
    ap (λ o. earlier (earlier o (first_by (first_placed parts) (parts_of m)))
    (first_by (first_in_declaration parts) qs)) (interface_first m)
    ∙ ap (λ o. earlier (earlier own o) (first_by (first_in_declaration parts) qs)) (module_first parts m)
    ∙ ap (earlier (earlier own inner)) (declared_first parts qs)
    ∙ earlier_paired own inner (own_first parts qs) (modules_first parts (modules_of qs))
declared_first parts (top.Body b ∷ qs) =
    ap (λ o. earlier o (first_by (first_in_declaration parts) qs)) (body_first b)
    ∙ ap (earlier (first_over (declaration_rows (top.Body b)))) (declared_first parts qs)
    ∙ sym (earlier_grouped (first_over (declaration_rows (top.Body b))) (own_first parts qs)
    (modules_first parts (modules_of qs)))
declared_first parts (top.Host h ∷ qs) = declared_first parts qs

-- ---- a text, whose runs on a cycle stand at these positions

abbrev pub module_names : Program → List (NameAt Name)
module_names parts = map name_of_module (modules_of parts)

abbrev callable_names : Program → List (NameAt Name)
callable_names parts = map name_of_callable (signatures_of parts)

abbrev whole_rows : Program → List Pos → Table
whole_rows parts cycles fault.TwiceDeclared = repeated (module_names parts) ++ repeated (callable_names parts)
whole_rows parts cycles fault.UnknownSignal = []
whole_rows parts cycles fault.UnknownModule = []
whole_rows parts cycles fault.UnknownTrap = []
whole_rows parts cycles fault.UnknownBody = []
whole_rows parts cycles fault.KindWrong = []
whole_rows parts cycles fault.EmitsInput = []
whole_rows parts cycles fault.BadBinding = []
whole_rows parts cycles fault.RunCycle = cycles

abbrev text_rows : Program → List Pos → Table
text_rows parts cycles k = whole_rows parts cycles k ++ flat_map (λ (q : Part Name). declaration_rows q k) parts
    ++ flat_map (λ (m : ModuleNode Name). module_rows parts m k) (modules_of parts)

-- the first of the names of modules, bodies and hosts that stand twice
abbrev pub first_repeated : Program → Fault
first_repeated parts = earlier (first_at fault.TwiceDeclared (repeated (module_names parts)))
    (first_at fault.TwiceDeclared (repeated (callable_names parts)))

text_first : (parts : Program) (cycles : List Pos) → first_over (text_rows parts cycles)
    ≡ earlier (earlier (first_repeated parts) (first_by (first_in_declaration parts) parts))
    (first_at fault.RunCycle cycles)
text_first parts cycles =
    let twice = first_repeated parts in
    let cycle = first_at fault.RunCycle cycles in
    let own = own_first parts parts in
    let inner = modules_first parts (modules_of parts) in
    over_joined (λ k. whole_rows parts cycles k ++ flat_map (λ (q : Part Name). declaration_rows q k) parts)
    (λ k. flat_map (λ (m : ModuleNode Name). module_rows parts m k) (modules_of parts))
    ∙ ap (λ o. earlier o (first_over (λ k. flat_map (λ (m : ModuleNode Name). module_rows parts m k)
    (modules_of parts)))) (over_joined (whole_rows parts cycles)
    (λ k. flat_map (λ (q : Part Name). declaration_rows q k) parts)
    ∙ ap (λ o. earlier o (first_over (λ k. flat_map (λ (q : Part Name). declaration_rows q k) parts)))
    (ap (earlier (first_at fault.TwiceDeclared (repeated (module_names parts) ++ repeated (callable_names parts))))
    (earlier_none cycle)
    ∙ ap (λ o. earlier o cycle) (first_at_joined fault.TwiceDeclared (repeated (module_names parts))
    (repeated (callable_names parts))))
    ∙ ap (earlier (earlier twice cycle)) (over_each declaration_rows parts))
    ∙ ap (earlier (earlier (earlier twice cycle) own)) (over_each (module_rows parts) (modules_of parts))
    ∙ earlier_grouped (earlier twice cycle) own inner
    ∙ ap (earlier (earlier twice cycle)) (sym (declared_first parts parts))
    ∙ earlier_grouped twice cycle (first_by (first_in_declaration parts) parts)
    ∙ ap (earlier twice) (earlier_turned cycle (first_by (first_in_declaration parts) parts))
    ∙ sym (earlier_grouped twice (first_by (first_in_declaration parts) parts) cycle)

-- ---- its rows are those of the table of faults

nothing_of_any : {A B : Type 0} (f : A → List B) → ((x : A) → f x ≡ []) → (xs : List A) → flat_map f xs ≡ []
nothing_of_any f e [] = refl
nothing_of_any f e (x ∷ xs) = ap (λ ys. ys ++ flat_map f xs) (e x) ∙ nothing_of_any f e xs

-- a row that no declaration has outside of statements
statements_alone : (parts : Program) (row : List Pos) → flat_map (λ (q : Part Name). []) parts ++ row ≡ row
statements_alone parts row = ap (λ ps. ps ++ row) (none_of_any parts)

no_others : (parts : Program) (cycles : List Pos) → text_rows parts cycles fault.RunCycle ≡ cycles
no_others parts cycles =
    ap (λ ps. cycles ++ flat_map (λ (q : Part Name). []) parts ++ ps)
    (nothing_of_any (λ (m : ModuleNode Name). module_rows parts m fault.RunCycle)
    (λ (m : ModuleNode Name). none_of_any (parts_of m)) (modules_of parts))
    ∙ append-nil (cycles ++ flat_map (λ (q : Part Name). []) parts)
    ∙ ap (λ ps. cycles ++ ps) (none_of_any parts) ∙ append-nil cycles

has_row : (parts : Program) (cycles : List Pos) → AreCycles parts cycles → (k : LinkKind) (p : Pos)
    → Contains (text_rows parts cycles k) p → HasFault parts k p
has_row parts cycles c fault.TwiceDeclared p h = h
has_row parts cycles c fault.UnknownSignal p h = h
has_row parts cycles c fault.UnknownModule p h =
    subst (λ ps. Contains ps p) (statements_alone parts (unknown_module parts)) h
has_row parts cycles c fault.UnknownTrap p h =
    subst (λ ps. Contains ps p) (statements_alone parts (unknown_trap parts)) h
has_row parts cycles c fault.UnknownBody p h =
    subst (λ ps. Contains ps p) (statements_alone parts (unknown_body parts)) h
has_row parts cycles c fault.KindWrong p h = h
has_row parts cycles c fault.EmitsInput p h =
    subst (λ ps. Contains ps p) (statements_alone parts (emits_input parts)) h
has_row parts cycles c fault.BadBinding p h =
    subst (λ ps. Contains ps p) (statements_alone parts (bad_binding parts)) h
has_row parts cycles c fault.RunCycle p h = c.there p (subst (λ ps. Contains ps p) (no_others parts cycles) h)

is_row : (parts : Program) (cycles : List Pos) → AreCycles parts cycles → (k : LinkKind) (p : Pos)
    → HasFault parts k p → Contains (text_rows parts cycles k) p
is_row parts cycles c fault.TwiceDeclared p h = h
is_row parts cycles c fault.UnknownSignal p h = h
is_row parts cycles c fault.UnknownModule p h =
    subst (λ ps. Contains ps p) (sym (statements_alone parts (unknown_module parts))) h
is_row parts cycles c fault.UnknownTrap p h =
    subst (λ ps. Contains ps p) (sym (statements_alone parts (unknown_trap parts))) h
is_row parts cycles c fault.UnknownBody p h =
    subst (λ ps. Contains ps p) (sym (statements_alone parts (unknown_body parts))) h
is_row parts cycles c fault.KindWrong p h = h
is_row parts cycles c fault.EmitsInput p h =
    subst (λ ps. Contains ps p) (sym (statements_alone parts (emits_input parts))) h
is_row parts cycles c fault.BadBinding p h =
    subst (λ ps. Contains ps p) (sym (statements_alone parts (bad_binding parts))) h
is_row parts cycles c fault.RunCycle p h = subst (λ ps. Contains ps p) (sym (no_others parts cycles)) (c.all p h)

-- the first of all these faults is the verdict
pub verdict_of : (parts : Program) (cycles : List Pos) (v : Fault) → AreCycles parts cycles
    → v ≡ earlier (earlier (first_repeated parts) (first_by (first_in_declaration parts) parts))
    (first_at fault.RunCycle cycles) → IsVerdict parts v
verdict_of parts cycles v c e = subst (IsVerdict parts) (text_first parts cycles ∙ sym e)
    (first_is_verdict parts (text_rows parts cycles) (has_row parts cycles c) (is_row parts cycles c))
