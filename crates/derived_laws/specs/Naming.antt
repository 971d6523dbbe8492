-- Whether a statement names only what is there: signals of its module that are declared before it, and a
-- counter that stands round it. (Block structure, as in Algol 60.)
use Rattle.std.specs.Prelude.{ℕ, ◌+◌, Bool, true, false, ◌&&◌, nat_lt, Option, Some, None, List, length}
use Rattle.std.specs.List.{list_all}
use Rattle.host_expr.specs.declared.expr.Expr.{Expr}
use Rattle.host_expr.specs.Expression.{expression_of}
use Rattle.host_expr.specs.Measures.{signals_read}
use Rattle.module_tree.specs.declared.source.NameAt.{NameAt}
use Rattle.module_tree.specs.declared.source.ExprAt.{ExprAt}
use Rattle.module_tree.specs.declared.source.Binding.{Binding}
use Rattle.module_tree.specs.declared.source.AsyncNode.{AsyncNode}
use Rattle.module_tree.specs.declared.source.ModuleNode.{ModuleNode}
use Rattle.kernel_expand.specs.Interpretation.{Kernel}
use Rattle.kernel_expand.specs.Modules.{of_module}

-- from whether a counter stands round it and how many signals are declared before it: whether it names only
-- those, and how many are declared after it
abbrev pub Naming : Type 0
Naming = Bool → ℕ → Bool × ℕ

abbrev pub expression_names : ℕ → Expr ℕ → Bool
expression_names n d = list_all (λ s. nat_lt s n) (signals_read (expression_of d))

abbrev pub value_names : ℕ → Option (Expr ℕ) → Bool
value_names n None = true
value_names n (Some e) = expression_names n e

abbrev pub result_names : ℕ → Option (NameAt ℕ) → Bool
result_names n None = true
result_names n (Some s) = nat_lt s.name n

abbrev pub async_names : ℕ → AsyncNode ℕ → Bool
async_names n a = result_names n a.signal && list_all (λ (x : ExprAt ℕ). expression_names n x.expr) a.args

abbrev pub bindings_name : ℕ → List (Binding ℕ) → Bool
bindings_name n = list_all (λ (b : Binding ℕ). nat_lt b.right.name n)

abbrev pub nothing_named : Naming
nothing_named c n = (true, n)

abbrev pub naming_two : (ℕ → Bool) → Naming → Naming → Naming
naming_two here p q c n = let x = p c n in let y = q c x.1 in (here n && x.0 && y.0, y.1)

-- where the body of each module names so; it begins with the signals that are bound
abbrev pub naming : (ℕ → Naming) → Kernel Naming
naming modules pos =
    record {
      nothing = nothing_named;
      pause = nothing_named;
      emit = λ s e c n. (nat_lt s n && value_names n e, n);
      choice = λ d. naming_two (λ n. expression_names n d);
      suspend = λ d p c n. let x = p c n in (expression_names n d && x.0, x.1);
      seq = naming_two (λ n. true);
      par = naming_two (λ n. true);
      loop = λ p. p;
      local = λ d p c n. p c (n + 1);
      async = λ a c n. (async_names n a, n);
      trap = λ p. p;
      exit = nothing_named;
      named_trap = λ p. p;
      leave = λ t. nothing_named;
      counter = λ p c n. p true n;
      suspend_counted = λ p c n. let x = p c n in (c && x.0, x.1);
      emit_counter = λ c n. (c, n);
      run = λ m bindings c n. (bindings_name n bindings && (modules m false (length bindings)).0, n);
    }

-- the body of the module of this place, where this many signals are its interface
abbrev pub names_its_own : List (ModuleNode ℕ) → ℕ → ℕ → ℕ → Bool
names_its_own modules deep m interface = (of_module naming nothing_named modules deep m false interface).0
