-- The parts of a text, put together from what their pieces became.
use Rattle.std.proofs.Common.{◌≡◌, ◌+◌, ◌<◌, ℕ, List, [], ◌∷◌, ◌++◌, length, map, take, get_or, sym, ap, subst, ◌∙◌}
use Rattle.std.proofs.lemmas.List.{map-append, take_more}
use Rattle.host_expr.specs.declared.expr.Expr.{Expr}
use Rattle.module_tree.specs.declared.source.InterfaceNode.{InterfaceNode}
use Rattle.module_tree.specs.declared.source.ParameterNode.{ParameterNode}
use Rattle.module_tree.specs.declared.source.ModuleNode.{ModuleNode}
use Rattle.module_tree.specs.declared.source.BodyNode.{BodyNode}
use Rattle.module_tree.specs.declared.source.BlockNode.{BlockNode}
use Rattle.module_tree.specs.declared.source.Part.TheVariants as top
use Rattle.module_tree.specs.Scopes.{Declared}
use Rattle.link_faults.specs.Named.{Name, place_of}
use Rattle.link_faults.specs.Rows.{Program}
use Rattle.module_link.specs.declared.places.Places.{Places}
use Rattle.module_link.specs.Resolved.{or_first, resolved_expr, resolved_block, resolved_module, resolved_part}
use Rattle.module_link.specs.Places.{Shows, declared_before, signal_place_of, parameter_place_of}
use Rattle.link_resolve.specs.Walking.{Resolves, module_scope, module_declared}

pub module_made : (parts : Program) (m : ModuleNode Name) (places after : Places) (name : Name)
    (interface : List InterfaceNode) (block : BlockNode ℕ) (xs : List InterfaceNode) → xs ≡ m.interface
    → Shows places (module_scope xs) → declared_before places ≡ module_declared xs
    → Resolves (resolved_block parts m.block) places after block → name ≡ m.name → interface ≡ m.interface
    → record { pos = m.pos; name = name; interface = interface; block = block } ≡ resolved_module parts m
module_made parts m places after name interface block xs e shows before x named declared =
    let scope = module_scope m.interface in
    let shown : Shows places scope = subst (λ (ys : List InterfaceNode). Shows places (module_scope ys)) e shows in
    let made : block ≡ (resolved_block parts m.block scope (module_declared m.interface)).tree =
    x.tree scope shown ∙ ap (λ (d : Declared). (resolved_block parts m.block scope d).tree)
    (before ∙ ap module_declared e) in
    λ i. record { pos = m.pos; name = named i; interface = declared i; block = made i }

pub body_made : (parts : Program) (b : BodyNode Name) (places : Places) (expr : Expr ℕ) (name : Name)
    (parameters xs : List ParameterNode) → xs ≡ b.parameters
    → ((n : Name) → signal_place_of places n ≡ 0)
    → ((n : Name) → parameter_place_of places n ≡ or_first (place_of (map (λ (p : ParameterNode). p.name) xs) n))
    → expr ≡ resolved_expr (signal_place_of places) (parameter_place_of places) b.expr.expr
    → name ≡ b.name → parameters ≡ b.parameters
    → top.Body (record {
      pos = b.pos;
      name = name;
      parameters = parameters;
      answer = b.answer;
      expr = record { pos = b.expr.pos; expr = expr };
    }) ≡ resolved_part parts (top.Body b)
body_made parts b places expr name parameters xs e none place made named declared =
    let found : (n : Name) → parameter_place_of places n ≡ or_first
    (place_of (map (λ (p : ParameterNode). p.name) b.parameters) n) =
    λ n. place n ∙ ap (λ (ys : List ParameterNode). or_first (place_of
    (map (λ (p : ParameterNode). p.name) ys) n)) e in
    let whole : expr ≡ resolved_expr (λ n. 0)
    (λ n. or_first (place_of (map (λ (p : ParameterNode). p.name) b.parameters) n)) b.expr.expr =
    made ∙ (λ i. resolved_expr (λ n. none n i) (λ n. found n i) b.expr.expr) in
    λ i. top.Body (record {
      pos = b.pos;
      name = named i;
      parameters = declared i;
      answer = b.answer;
      expr = record { pos = b.expr.pos; expr = whole i };
    })

-- one part more
pub part_more : {A B : Type 0} (f : A → B) (xs : List A) (i : ℕ) (x : A) (old new : List B) (y : B)
    → i < length xs → x ≡ get_or xs i x → old ≡ map f (take i xs) → y ≡ f x → new ≡ old ++ y ∷ []
    → new ≡ map f (take (i + 1) xs)
part_more {A} {B} f xs i x old new y lt is before made pushed =
    pushed ∙ (λ j. before j ++ made j ∷ []) ∙ sym (map-append f (take i xs) (x ∷ []))
    ∙ ap (map f) (sym (take_more xs i x lt ∙ ap (λ (z : A). take i xs ++ z ∷ []) (sym is)))
