-- Modules that are run by pieces of a text that are put together.
use Rattle.std.proofs.Common.{◌≡◌, ℕ, ◌+◌, ◌<◌, ◌≤◌, List, [], ◌∷◌, ◌++◌, map, length, take, get_or, refl, sym, ap, subst}
use Rattle.std.proofs.Common.{◌∙◌, append-nil, append_assoc, Option, Some, None, option_map, Result, Ok, Err}
use Rattle.std.specs.Prelude.{OnOk}
use Rattle.std.proofs.lemmas.List.{map-append, take_all, take_more}
use Rattle.std.proofs.lemmas.List.Concat.{flat_map-append}
use Rattle.module_tree.specs.declared.source.NameAt.{NameAt}
use Rattle.module_tree.specs.declared.source.Binding.{Binding}
use Rattle.module_tree.specs.declared.source.Later.{Later}
use Rattle.module_tree.specs.declared.source.Later.TheVariants as plain
use Rattle.module_tree.specs.declared.source.Delay.{Delay}
use Rattle.module_tree.specs.declared.source.Delay.TheVariants as delay
use Rattle.module_tree.specs.declared.source.BlockNode.{BlockNode, out-BlockNode}
use Rattle.module_tree.specs.declared.source.StatementNode.{StatementNode, out-StatementNode}
use Rattle.module_tree.specs.declared.source.Statement.{Statement, roll-Statement}
use Rattle.module_tree.specs.declared.source.Statement.TheOpen as s
use Rattle.module_tree.specs.declared.source.Statement.TheFolds.{fold-roll-Statement, map-Statement}
use Rattle.module_tree.specs.declared.source.Statement.TheFolds.{fold_out-StatementNode, fold_out-BlockNode}
use Rattle.module_tree.specs.Scopes.{InScope, Declared}
use Rattle.module_tree.specs.declared.source.ExprAt.{ExprAt}
use Rattle.module_tree.specs.Parts.{Walk, Placed, StatementPart, Test, Call, empty, here, then, in_order, if_there}
use Rattle.module_tree.specs.Parts.{plain_walk, delay_walk, statement_step, block_step}
use Rattle.module_tree.specs.Parts.{block_walk}
use Rattle.module_tree.specs.declared.source.ModuleNode.{ModuleNode}
use Rattle.module_tree.specs.declared.source.Part.{Part}
use Rattle.module_tree.specs.declared.source.Part.TheVariants as part
use Rattle.module_tree.specs.Runs.{callee_of, callees_of, runs_of}
use Rattle.link_resolve.specs.CalleesAdded.{AddsCallees, callees_in, statement_walk, node_walk}

pub adds_nothing : (w : Walk ℕ) (old : List ℕ)
    → ((scope : InScope) (before : Declared) → callees_in (w scope before).parts ≡ []) → AddsCallees w old old
adds_nothing w old none = record {
  added = λ scope before. sym (append-nil old) ∙ ap (λ ms. old ++ ms) (sym (none scope before));
}

pub adds_then : (a b : Walk ℕ) (old mid new : List ℕ) → AddsCallees a old mid → AddsCallees b mid new
    → AddsCallees (then a b) old new
adds_then a b old mid new x y = record {
  added = λ scope before.
      let first = a scope before in
      let second = b scope first.after in
      y.added scope first.after ∙ ap (λ ms. ms ++ callees_in second.parts) (x.added scope before)
      ∙ append_assoc old (callees_in first.parts) (callees_in second.parts)
      ∙ ap (λ ms. old ++ ms) (sym (flat_map-append (λ (p : Placed ℕ). callee_of p.part) first.parts
      second.parts));
}

in_order_more : (ws : List (Walk ℕ)) (w : Walk ℕ) (scope : InScope) (before : Declared)
    → callees_in (in_order (ws ++ w ∷ []) scope before).parts ≡ callees_in (then (in_order ws) w scope before).parts
in_order_more [] w scope before = ap callees_in (append-nil (w scope before).parts)
in_order_more (v ∷ ws) w scope before =
    let one = v scope before in
    let two = in_order ws scope one.after in
    let three = w scope two.after in
    let f = λ (p : Placed ℕ). callee_of p.part in
    flat_map-append f one.parts (in_order (ws ++ w ∷ []) scope one.after).parts
    ∙ ap (λ ms. callees_in one.parts ++ ms) (in_order_more ws w scope one.after)
    ∙ sym (flat_map-append f one.parts (two.parts ++ three.parts))
    ∙ ap callees_in (sym (append_assoc one.parts two.parts three.parts))

-- one piece of a list more
pub adds_more : {A : Type 0} (walk : A → Walk ℕ) (xs : List A) (i : ℕ) (x : A) (old mid new : List ℕ)
    → i < length xs → x ≡ get_or xs i x → AddsCallees (in_order (map walk (take i xs))) old mid
    → AddsCallees (walk x) mid new → AddsCallees (in_order (map walk (take (i + 1) xs))) old new
adds_more {A} walk xs i x old mid new lt is before one =
    let more : map walk (take (i + 1) xs) ≡ map walk (take i xs) ++ walk x ∷ [] = ap (map walk)
    (take_more xs i x lt ∙ ap (λ (y : A). take i xs ++ y ∷ []) (sym is))
    ∙ map-append walk (take i xs) (x ∷ []) in
    let both = adds_then (in_order (map walk (take i xs))) (walk x) old mid new before one in
    subst (λ (ws : List (Walk ℕ)). AddsCallees (in_order ws) old new) (sym more)
    (record {
      added = λ scope before. both.added scope before
          ∙ ap (λ ms. old ++ ms) (sym (in_order_more (map walk (take i xs)) (walk x) scope before));
    })

-- ---- a statement of one layer

abbrev pub Layer : Type 0
Layer = s.Statement-F ℕ (Statement ℕ) (BlockNode ℕ) (StatementNode ℕ)

abbrev pub walks_in : Layer → s.Statement-F ℕ (Walk ℕ) (Walk ℕ) (Walk ℕ)
walks_in = map-Statement ℕ (Statement ℕ) (BlockNode ℕ) (StatementNode ℕ) (Walk ℕ) (Walk ℕ) (Walk ℕ)
    statement_walk block_walk node_walk

walk_step : (y : Layer) (x : Statement ℕ) → roll-Statement ℕ y ≡ x
    → statement_walk x ≡ statement_step (walks_in y)
walk_step y x e = ap statement_walk (sym e)
    ∙ fold-roll-Statement ℕ (Walk ℕ) (Walk ℕ) (Walk ℕ) statement_step block_step (λ n. n.what) y

pub adds_by_step : {E : Type 0} (y : Layer) (x : Statement ℕ) (r : Result (Unit {0}) E) (old new : List ℕ)
    → roll-Statement ℕ y ≡ x → OnOk r (AddsCallees (statement_step (walks_in y)) old new)
    → OnOk r (AddsCallees (statement_walk x) old new)
adds_by_step y x r old new e = subst (λ (w : Walk ℕ). OnOk r (AddsCallees w old new))
    (sym (walk_step y x e))

-- a statement that runs nothing
pub adds_leaf : (y : Layer) (x : Statement ℕ) (old : List ℕ) → roll-Statement ℕ y ≡ x
    → ((scope : InScope) (before : Declared) → callees_in (statement_step (walks_in y) scope before).parts ≡ [])
    → AddsCallees (statement_walk x) old old
adds_leaf y x old e none = subst (λ (w : Walk ℕ). AddsCallees w old old) (sym (walk_step y x e))
    (adds_nothing (statement_step (walks_in y)) old none)

pub adds_made : (y : Layer) (x : Statement ℕ) (old new : List ℕ) → roll-Statement ℕ y ≡ x
    → AddsCallees (statement_step (walks_in y)) old new → AddsCallees (statement_walk x) old new
adds_made y x old new e = subst (λ (w : Walk ℕ). AddsCallees w old new) (sym (walk_step y x e))

pub lifted : {E P Q : Type 0} (r : Result (Unit {0}) E) → (P → Q) → OnOk r P → OnOk r Q
lifted (Ok u) f h = f h
lifted (Err e) f h = tt

no_plain : (p : Later ℕ) (scope : InScope) (before : Declared)
    → callees_in (plain_walk p scope before).parts ≡ []
no_plain (plain.Once x) scope before = refl
no_plain (plain.Count n x) scope before = refl

pub no_delay : (d : Delay ℕ) (scope : InScope) (before : Declared)
    → callees_in (delay_walk d scope before).parts ≡ []
no_delay (delay.Later p) scope before = no_plain p scope before
no_delay (delay.Immediate x) scope before = refl

pub adds_delayed : (d : Delay ℕ) (b : Walk ℕ) (old new : List ℕ) → AddsCallees b old new
    → AddsCallees (then (delay_walk d) b) old new
adds_delayed d b old new = adds_then (delay_walk d) b old old new (adds_nothing (delay_walk d) old (no_delay d))

pub adds_behind : (part : StatementPart ℕ) (b : Walk ℕ) (old new : List ℕ) → callee_of part ≡ []
    → AddsCallees b old new → AddsCallees (then (here part) b) old new
adds_behind part b old new none = adds_then (here part) b old old new
    (adds_nothing (here part) old (λ scope before. append-nil (callee_of part) ∙ none))

pub adds_before : (p : Later ℕ) (b : Walk ℕ) (old new : List ℕ) → AddsCallees b old new
    → AddsCallees (then b (plain_walk p)) old new
adds_before p b old new x = adds_then b (plain_walk p) old new new x
    (adds_nothing (plain_walk p) new (no_plain p))

pub adds_deeper : (b : Walk ℕ) (inner : InScope → Declared → InScope) (deeper : Declared → Declared)
    (old new : List ℕ) → AddsCallees b old new
    → AddsCallees (λ scope before. b (inner scope before) (deeper before)) old new
adds_deeper b inner deeper old new x = record {
  added = λ scope before. x.added (inner scope before) (deeper before);
}

pub adds_run : (callee : NameAt ℕ) (bindings : List (Binding ℕ)) (old new : List ℕ)
    → new ≡ old ++ callee.name ∷ [] → AddsCallees (here (Call callee bindings)) old new
adds_run callee bindings old new e = record { added = λ scope before. e }

-- all elements of a list
pub adds_all : {A : Type 0} (walk : A → Walk ℕ) (xs : List A) (i : ℕ) (old new : List ℕ) → length xs ≤ i
    → AddsCallees (in_order (map walk (take i xs))) old new → AddsCallees (in_order (map walk xs)) old new
adds_all {A} walk xs i old new all = subst (λ (ys : List A). AddsCallees (in_order (map walk ys)) old new)
    (take_all i xs all)

pub adds_node : {E : Type 0} (n : StatementNode ℕ) (r : Result (Unit {0}) E) (old new : List ℕ)
    → OnOk r (AddsCallees (statement_walk (out-StatementNode ℕ n).what) old new)
    → OnOk r (AddsCallees (node_walk n) old new)
adds_node n r old new = subst (λ (w : Walk ℕ). OnOk r (AddsCallees w old new))
    (sym (fold_out-StatementNode ℕ (Walk ℕ) (Walk ℕ) (Walk ℕ) statement_step block_step (λ n. n.what) n))

pub adds_block : {E : Type 0} (b : BlockNode ℕ) (nodes : List (StatementNode ℕ)) (r : Result (Unit {0}) E)
    (old new : List ℕ) → nodes ≡ (out-BlockNode ℕ b).statements
    → OnOk r (AddsCallees (in_order (map node_walk nodes)) old new)
    → OnOk r (AddsCallees (block_walk b) old new)
adds_block b nodes r old new e h = subst (λ (w : Walk ℕ). OnOk r (AddsCallees w old new))
    (sym (fold_out-BlockNode ℕ (Walk ℕ) (Walk ℕ) (Walk ℕ) statement_step block_step (λ n. n.what) b))
    (subst (λ (ns : List (StatementNode ℕ)). OnOk r (AddsCallees (in_order (map node_walk ns)) old new)) e h)

-- ---- what may be missing

pub adds_missing : (o : Option (BlockNode ℕ)) (old : List ℕ) → o ≡ None
    → AddsCallees (if_there (option_map block_walk o)) old old
adds_missing o old e = subst (λ (q : Option (BlockNode ℕ)). AddsCallees (if_there (option_map block_walk q)) old
    old) (sym e) (adds_nothing empty old (λ scope before. refl))

pub adds_there : {E : Type 0} (o : Option (BlockNode ℕ)) (b : BlockNode ℕ) (r : Result (Unit {0}) E)
    (old new : List ℕ) → o ≡ Some b → OnOk r (AddsCallees (block_walk b) old new)
    → OnOk r (AddsCallees (if_there (option_map block_walk o)) old new)
adds_there o b r old new e = subst (λ (q : Option (BlockNode ℕ)). OnOk r
    (AddsCallees (if_there (option_map block_walk q)) old new)) (sym e)

if_walk : (x : ExprAt ℕ) (b : BlockNode ℕ) (o : Option (BlockNode ℕ))
    → then (here (Test x)) (then (block_walk b) (if_there (option_map block_walk o))) ≡ statement_step
    (walks_in (s.If x b o))
if_walk x b None = refl
if_walk x b (Some o) = refl

pub adds_if : (x : ExprAt ℕ) (b : BlockNode ℕ) (o : Option (BlockNode ℕ)) (old mid new : List ℕ)
    → AddsCallees (block_walk b) old mid → AddsCallees (if_there (option_map block_walk o)) mid new
    → AddsCallees (statement_step (walks_in (s.If x b o))) old new
adds_if x b o old mid new h g =
    let other = if_there (option_map block_walk o) in
    subst (λ (w : Walk ℕ). AddsCallees w old new) (if_walk x b o)
    (adds_behind (Test x) (then (block_walk b) other) old new refl
    (adds_then (block_walk b) other old mid new h g))

-- ---- texts

runs_joined : (xs : List (Part ℕ)) (t : Part ℕ) → runs_of (xs ++ t ∷ []) ≡ runs_of xs ++ runs_of (t ∷ [])
runs_joined [] t = refl
runs_joined (part.Module m ∷ xs) t = ap (λ rs. callees_of m ∷ rs) (runs_joined xs t)
runs_joined (part.Body b ∷ xs) t = runs_joined xs t
runs_joined (part.Host h ∷ xs) t = runs_joined xs t

pub module_added : (old new : List (List ℕ)) (m : ModuleNode ℕ) (ms : List ℕ) (t : Part ℕ) → t ≡ part.Module m
    → ms ≡ callees_of m → new ≡ old ++ ms ∷ [] → new ≡ old ++ runs_of (t ∷ [])
module_added old new m ms t is own pushed =
    pushed ∙ ap (λ (ns : List ℕ). old ++ ns ∷ []) own ∙ ap (λ (u : Part ℕ). old ++ runs_of (u ∷ [])) (sym is)

pub runs_more : (xs : List (Part ℕ)) (i : ℕ) (t : Part ℕ) (old new : List (List ℕ)) → i < length xs
    → t ≡ get_or xs i t → old ≡ runs_of (take i xs) → new ≡ old ++ runs_of (t ∷ [])
    → new ≡ runs_of (take (i + 1) xs)
runs_more xs i t old new lt is before added =
    added ∙ ap (λ rs. rs ++ runs_of (t ∷ [])) before ∙ sym (runs_joined (take i xs) t)
    ∙ ap runs_of (sym (take_more xs i t lt ∙ ap (λ (y : Part ℕ). take i xs ++ y ∷ []) (sym is)))
