-- Which module runs which, once names are resolved, and orders in which each module stands behind all that it
-- runs. Where there is such an order of all modules, none reaches itself by runs. (Topological order, as in
-- Knuth, The Art of Computer Programming, vol. 1, 2.2.3.)
use Rattle.std.specs.Prelude.{ℕ, ◌==◌, ◌&&◌, Bool, true, List, [], ◌∷◌, map, length, slice_get, Option, Some}
use Rattle.std.specs.Prelude.{None}
use Rattle.std.specs.List.{flat_map, list_all, list_any, range_with_len}
use Rattle.module_tree.specs.declared.source.ModuleNode.{ModuleNode}
use Rattle.module_tree.specs.declared.source.Part.{Part}
use Rattle.module_tree.specs.Parts.{StatementPart, Call, Placed, parts_of}
use Rattle.module_tree.specs.Callables.{modules_of}

abbrev pub callee_of : StatementPart ℕ → List ℕ
callee_of (Call callee bindings) = callee.name ∷ []
callee_of _ = []

-- the modules that a module runs, in the order of the text
abbrev pub callees_of : ModuleNode ℕ → List ℕ
callees_of m = flat_map (λ (p : Placed ℕ). callee_of p.part) (parts_of m)

-- for each module, by its place, the modules that it runs
abbrev pub runs_of : List (Part ℕ) → List (List ℕ)
runs_of parts = map callees_of (modules_of parts)

abbrev pub or_none : Option (List ℕ) → List ℕ
or_none None = []
or_none (Some ms) = ms

abbrev pub is_among : List ℕ → ℕ → Bool
is_among ms m = list_any (λ n. n == m) ms

-- behind the modules `done`, each of these stands behind all that it runs
abbrev pub stand_behind_callees : List (List ℕ) → List ℕ → List ℕ → Bool
stand_behind_callees runs done [] = true
stand_behind_callees runs done (m ∷ ms) = list_all (is_among done) (or_none (slice_get runs m))
    && stand_behind_callees runs (m ∷ done) ms

-- each module is in the order, and stands behind all that it runs
abbrev pub is_callees_first : List (List ℕ) → List ℕ → Bool
is_callees_first runs order = list_all (is_among order) (range_with_len 0 (length runs))
    && stand_behind_callees runs [] order
