-- The counted sizes of an expansion, measured on the linked tree without writing the expansion out: the
-- kernel's operations as operations on sizes. Numbers stop at the greatest of 64 bits. (This project's own.)
use Rattle.std.specs.Prelude.{ℕ, ◌+◌, ◌*◌, min, max, Option, Some, None, List, length, slice_index_or, sum_by}
use Rattle.hh_base.specs.declared.value.Value.{Value}
use Rattle.host_expr.specs.Expression.{expression_of, optional_expression}
use Rattle.host_expr.specs.Measures.{size_of_expression}
use Rattle.module_tree.specs.declared.source.ModuleNode.{ModuleNode}
use Rattle.module_tree.specs.declared.source.ExprAt.{ExprAt}
use Rattle.module_tree.specs.declared.source.AsyncNode.{AsyncNode}
use Rattle.hh_term.specs.Sizes.{size_of_optional, value_blocks, handler_blocks}
use Rattle.kernel_expand.specs.declared.sizes.Sizes.{Sizes}
use Rattle.kernel_expand.specs.Operations.{Operations}
use Rattle.kernel_expand.specs.Interpretation.{Kernel}
use Rattle.kernel_expand.specs.Modules.{of_module}

-- the greatest number that is counted
abbrev pub most : ℕ
most = 18446744073709551615

abbrev pub counted : ℕ → ℕ
counted n = min n most

-- a node without parts, whose expressions weigh w, and which is so many async sites
unfoldable pub leaf : ℕ → ℕ → Sizes
leaf sites w = record {
  size = counted (1 + w);
  copied = counted (1 + w);
  height = 1;
  traps = 0;
  sites =
      sites;
}

-- a node round one part
unfoldable pub around : ℕ → Sizes → Sizes
around w p = record {
  size = counted (1 + w + p.size);
  copied = counted (1 + w + p.copied);
  height =
      counted (1 + p.height);
  traps = p.traps;
  sites = p.sites;
}

-- a node of two parts
unfoldable pub both : ℕ → Sizes → Sizes → Sizes
both w p q =
    record {
      size = counted (1 + w + p.size + q.size);
      copied = counted (1 + w + p.copied + q.copied);
      height = counted (1 + max p.height q.height);
      traps = max p.traps q.traps;
      sites = counted (p.sites + q.sites);
    }

-- a copied loop has its body twice, in a sequence
unfoldable pub looped : Sizes → Sizes
looped p = record {
  size = counted (1 + p.size);
  copied = counted (2 + 2 * p.copied);
  height =
      counted (2 + p.height);
  traps = p.traps;
  sites = p.sites;
}

unfoldable pub trapped : Sizes → Sizes
trapped p = record {
  size = counted (1 + p.size);
  copied = counted (1 + p.copied);
  height =
      counted (1 + p.height);
  traps = counted (1 + p.traps);
  sites = p.sites;
}

abbrev pub blocks_of_first : Option Value → ℕ
blocks_of_first None = 0
blocks_of_first (Some v) = value_blocks v

-- the arguments and the handlers of an async
abbrev pub weight_of_async : AsyncNode ℕ → ℕ
weight_of_async a = sum_by (λ (x : ExprAt ℕ). size_of_expression (expression_of x.expr)) a.args +
    handler_blocks a.kill + handler_blocks a.suspend + handler_blocks a.resume

-- `run` counts as the body of its module
abbrev pub sizes_given : (ℕ → Sizes) → Operations Sizes
sizes_given modules =
    record {
      nothing = leaf 0 0;
      pause = leaf 0 0;
      emit = λ s e. leaf 0 (counted (size_of_optional (optional_expression e)));
      choice = λ e p q. both (counted (size_of_expression (expression_of e))) p q;
      suspend = λ e p. around (counted (size_of_expression (expression_of e))) p;
      seq = both 0;
      par = both 0;
      loop = looped;
      local = λ d p. around (blocks_of_first d.first) p;
      async = λ a. leaf 1 (counted (weight_of_async a));
      trap = trapped;
      exit = leaf 0 0;
      named_trap = trapped;
      leave = λ t. leaf 0 0;
      counter = around 0;
      suspend_counted = around 1;
      emit_counter = leaf 0 0;
      run = λ m bindings. modules m;
    }

abbrev pub measure : (ℕ → Sizes) → Kernel Sizes
measure modules pos = sizes_given modules

-- the sizes of the module of this place
abbrev pub sizes_of_module : List (ModuleNode ℕ) → ℕ → Sizes
sizes_of_module modules = of_module measure (leaf 0 0) modules (length modules)

-- what each module counts that was measured
abbrev pub known : List Sizes → ℕ → Sizes
known modules m = slice_index_or modules m (leaf 0 0)

-- the rows of derived statements do not look at modules
abbrev pub sizes : Operations Sizes
sizes = sizes_given (λ m. leaf 0 0)
