-- The bodies of the program that each part of a text declares. (This project's own.)
use Rattle.std.specs.Prelude.{ℕ, Option, Some, None, List, [], ◌∷◌, map}
use Rattle.host_expr.specs.Expression.{expression_of}
use Rattle.module_tree.specs.declared.source.ParameterNode.{ParameterNode}
use Rattle.module_tree.specs.declared.source.BodyNode.{BodyNode}
use Rattle.module_tree.specs.declared.source.HostNode.{HostNode}
use Rattle.module_tree.specs.declared.source.Part.{Part}
use Rattle.hh_term.specs.declared.program.BodyDecl.{BodyDecl}
use Rattle.hh_term.specs.Kernel.{Body}
use Rattle.hh_term.specs.Views.{body_of}
use Rattle.kernel_expand.specs.Expansion.{bodies_of}

abbrev pub body_node : BodyNode ℕ → Body
body_node b =
    record {
      name = b.name;
      params = map (λ (p : ParameterNode). p.kind) b.parameters;
      answer = b.answer;
      expr = Some (expression_of b.expr.expr);
      pos = b.pos;
    }

-- a host stands at its word
abbrev pub host_node : HostNode → Body
host_node h = record { name = h.name; params = h.parameters; answer = h.answer; expr = None; pos = h.token }

abbrev pub part_bodies : Part ℕ → List Body
part_bodies p = bodies_of (p ∷ [])

abbrev pub listed : Option BodyDecl → List Body
listed None = []
listed (Some b) = body_of b ∷ []
