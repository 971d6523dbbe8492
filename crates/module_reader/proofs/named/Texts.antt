-- In the tree of a text, names go by position.
use Rattle.std.proofs.Common.{ℕ, List, [], ◌∷◌, map, Option}
use Rattle.std.specs.List.{AllByRecursion}
use Rattle.hh_base.specs.declared.value.Pos.{Pos}
use Rattle.module_tree.specs.declared.source.InterfaceNode.{InterfaceNode}
use Rattle.module_tree.specs.declared.source.Part.{Part}
use Rattle.module_tree.specs.declared.source.Part.TheVariants as top
use Rattle.module_tree.specs.DeclaredAt.{declared_signal, declared_in_block, declared_in_module, declared_in}
use Rattle.module_tree.specs.DeclaredAt.{NamesGoByPosition}
use Rattle.expression_reader.specs.Terminals.{symbols}
use Rattle.expression_reader.specs.Trees.{Name}
use Rattle.module_reader.specs.Reading.{to_grammar, HasTree}
use Rattle.module_reader.specs.Rules as g
use Rattle.module_reader.proofs.named.Naming.{Tells, tells_then, tells_past, tells_pure, tells_or, tells_many}
use Rattle.module_reader.proofs.named.Naming.{tells_listed_or_none}
use Rattle.module_reader.proofs.named.Declarations.{HasName, all_joined, all_mapped, interface}
use Rattle.module_reader.proofs.named.Statements.{HaveNames, block}
use Rattle.module_reader.proofs.named.Tokens.{name_in, tokens_named}

module _ (name_at : Pos → Option (List ℕ)) where
  abbrev IsPart : Part Name → Type 0
  IsPart (top.Body b) = Unit {0}
  IsPart (top.Host h) = Unit {0}
  IsPart (top.Module m) = HaveNames name_at (declared_in_module m)

  body : (room : ℕ) → Tells name_at IsPart (g.body room)
  body room = tells_past (λ q. tells_past (λ n. tells_past (λ q. tells_past (λ ps. tells_past (λ q. tells_past
      (λ q. tells_past (λ k. tells_past (λ a. tells_pure tt))))))))

  host : Tells name_at IsPart g.host
  host = tells_past (λ q. tells_past (λ n. tells_past (λ q. tells_past (λ ks. tells_past (λ q. tells_past
      (λ q. tells_past (λ k. tells_past (λ q. tells_pure tt))))))))

  module_of : (room : ℕ) → Tells name_at IsPart (g.module_of room)
  module_of room = tells_past (λ q. tells_past (λ n. tells_past (λ q. tells_then
      (tells_listed_or_none (interface name_at)) (λ ds e. tells_past (λ q. tells_then (block name_at room)
      (λ b h. tells_pure (all_joined (HasName name_at) _ (declared_in_block b)
      (all_mapped (HasName name_at) (λ (d : InterfaceNode). declared_signal d.signal) ds e) h)))))))

  parts : (room : ℕ) → Tells name_at (AllByRecursion IsPart) (g.parts room)
  parts room = tells_many (tells_or (body room) (tells_or host (module_of room)))

  all_parts : (ts : List (Part Name)) → AllByRecursion IsPart ts → HaveNames name_at (declared_in ts)
  all_parts [] h = tt
  all_parts (top.Body b ∷ ts) h = all_parts ts h.1
  all_parts (top.Host b ∷ ts) h = all_parts ts h.1
  all_parts (top.Module m ∷ ts) h = all_joined (HasName name_at) (declared_in_module m) (declared_in ts) h.0
      (all_parts ts h.1)

pub names_go_by_position : {text : List ℕ} {tree : List (Part Name)} → HasTree text tree
    → NamesGoByPosition tree
names_go_by_position {tree = tree} h =
    let ts = map to_grammar h.tokens in
    record {
      name_at = name_in ts;
      each = all_parts (name_in ts) tree ((parts (name_in ts) symbols.most_open).of tree ts h.spells.0
          (tokens_named h.has_tokens) h.spells.1.0);
    }
