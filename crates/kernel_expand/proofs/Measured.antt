-- What is measured on the linked tree of a text are the sizes of its expansion.
use Rattle.std.proofs.Common.{◌≡◌, ℕ, zero, suc, ◌+◌, List, [], ◌∷◌, length, Option, Some, None, refl, sym}
use Rattle.std.proofs.Common.{ap, ◌∙◌, arith, append-nil}
use Rattle.std.specs.Prelude.{slice_get}
use Rattle.std.specs.List.{AllByRecursion}
use Rattle.hh_base.specs.declared.value.Pos.{Pos}
use Rattle.host_expr.specs.declared.expr.Expr.{Expr, roll-Expr}
use Rattle.host_expr.specs.declared.expr.ExprNode.TheVariants as node
use Rattle.host_expr.specs.Expression.{expression_of, optional_expression}
use Rattle.host_expr.specs.Measures.{size_of_expression}
use Rattle.host_expr.proofs.Trees.{expr-Now}
use Rattle.module_tree.specs.declared.source.AsyncNode.{AsyncNode}
use Rattle.module_tree.specs.declared.source.ModuleNode.{ModuleNode}
use Rattle.module_tree.specs.declared.source.Part.{Part}
use Rattle.module_tree.specs.Callables.{modules_of}
use Rattle.module_tree.specs.Parts.{parts_of}
use Rattle.hh_term.specs.Kernel.{Kernel, AsyncSite, first_at}
use Rattle.hh_term.specs.Sizes.{size_of, copied_size_of, height_of, traps_round, size_of_optional}
use Rattle.hh_term.specs.Sizes.{size_of_site, value_blocks}
use Rattle.hh_term.specs.Placed.{Placed, Nothing, Pause, Emit, If, Suspend, Seq, Par, Loop, Trap, Exit, Local}
use Rattle.hh_term.specs.Placed.{unplaced}
use Rattle.kernel_expand.specs.declared.sizes.Sizes.{Sizes}
use Rattle.kernel_expand.specs.Modules.{body_means, of_module}
use Rattle.kernel_expand.specs.Measures.{counted, leaf, around, both, looped, trapped, blocks_of_first}
use Rattle.kernel_expand.specs.Measures.{weight_of_async, sizes_given, measure, sizes_of_module}
use Rattle.kernel_expand.specs.Numbering.{Around, Numbered, Piece, number_of, in_numbers, value_in_numbers}
use Rattle.kernel_expand.specs.Numbering.{local_signal, counter_signal, with_place, with_signal, with_trap}
use Rattle.kernel_expand.specs.Numbering.{in_trap, site_in_numbers, traps_between, no_traps, numbering}
use Rattle.kernel_expand.specs.Expansion.{expansion_of, kernel_of_expansion, no_module, piece_of_module}
use Rattle.kernel_expand.specs.Expansion.{main_interface, at_start}
use Rattle.kernel_expand.specs.Weighed.{sizes_of_kernel}
use Rattle.kernel_expand.proofs.RenamedSizes.{same_size}
use Rattle.kernel_expand.proofs.Alike.{Alike}
use Rattle.kernel_expand.proofs.AlikeTrees.{callees, blocks_alike}
use Rattle.kernel_expand.proofs.Weighing.{weighed, Begins, HasSizes, leaf_weighs, around_weighs, both_weighs}
use Rattle.kernel_expand.proofs.Weighing.{looped_weighs, trapped_weighs, there, blocks_same, value_same}
use Rattle.kernel_expand.proofs.Weighing.{site_same, same_signals, none_inside, one_inside, two_inside}
use Rattle.kernel_expand.proofs.Weighing.{local_inside}

counted_twice : (n : ℕ) → counted (counted n) ≡ counted n
counted_twice n = omega arith

-- the weights of an expression and of that with its numbers
test_weight : (n : Numbered) (d : Expr ℕ) → counted
    (counted (size_of_expression (expression_of d))) ≡ counted
    (size_of_expression (expression_of (in_numbers n d)))
test_weight n d = counted_twice (size_of_expression (expression_of d))
    ∙ ap counted (sym (same_size (number_of n) d))

-- ---- a node round one part, and of two parts

around_node : (K : Kernel) (t : Placed) (k w v : ℕ) (s : Sizes) → counted w ≡ counted v → s ≡ weighed K t k
    → around w s ≡ record {
      size = counted (1 + v + size_of K (unplaced t));
      copied =
          counted (1 + v + copied_size_of K (unplaced t));
      height = counted (1 + height_of (unplaced t));
      traps = counted (traps_round (unplaced t));
      sites = counted k;
    }
around_node K t k w v s same e = ap (around w) e ∙ around_weighs w v (size_of K (unplaced t))
    (copied_size_of K (unplaced t)) (height_of (unplaced t)) (traps_round (unplaced t)) k same

looped_node : (K : Kernel) (t : Placed) (k : ℕ) (s : Sizes) (pos : Pos) → s ≡ weighed K t k
    → looped s ≡ weighed K (Loop pos t) k
looped_node K t k s pos e = ap looped e ∙ looped_weighs (size_of K (unplaced t))
    (copied_size_of K (unplaced t)) (height_of (unplaced t)) (traps_round (unplaced t)) k

trapped_node : (K : Kernel) (t : Placed) (k : ℕ) (s : Sizes) (pos : Pos) → s ≡ weighed K t k
    → trapped s ≡ weighed K (Trap pos t) k
trapped_node K t k s pos e = ap trapped e ∙ trapped_weighs (size_of K (unplaced t))
    (copied_size_of K (unplaced t)) (height_of (unplaced t)) (traps_round (unplaced t)) k

choice_node : (K : Kernel) (p q : Placed) (j k : ℕ) (s s' : Sizes) (pos : Pos) (n : Numbered) (d : Expr ℕ)
    → s ≡ weighed K p j → s' ≡ weighed K q k
    → both (counted (size_of_expression (expression_of d))) s s' ≡ weighed K (If pos (in_numbers n d) p q)
    (j + k)
choice_node K p q j k s s' pos n d e f =
    (λ i. both (counted (size_of_expression (expression_of d))) (e i) (f i))
    ∙ both_weighs (counted (size_of_expression (expression_of d)))
    (size_of_expression (expression_of (in_numbers n d)))
    (size_of K (unplaced p)) (copied_size_of K (unplaced p)) (height_of (unplaced p))
    (traps_round (unplaced p)) j
    (size_of K (unplaced q)) (copied_size_of K (unplaced q)) (height_of (unplaced q))
    (traps_round (unplaced q)) k (test_weight n d)

seq_node : (K : Kernel) (p q : Placed) (j k : ℕ) (s s' : Sizes) (pos : Pos) → s ≡ weighed K p j
    → s' ≡ weighed K q k → both 0 s s' ≡ weighed K (Seq pos p q) (j + k)
seq_node K p q j k s s' pos e f =
    (λ i. both 0 (e i) (f i))
    ∙ both_weighs 0 0 (size_of K (unplaced p)) (copied_size_of K (unplaced p)) (height_of (unplaced p))
    (traps_round (unplaced p)) j
    (size_of K (unplaced q)) (copied_size_of K (unplaced q)) (height_of (unplaced q))
    (traps_round (unplaced q)) k refl

par_node : (K : Kernel) (p q : Placed) (j k : ℕ) (s s' : Sizes) (pos : Pos) → s ≡ weighed K p j
    → s' ≡ weighed K q k → both 0 s s' ≡ weighed K (Par pos p q) (j + k)
par_node K p q j k s s' pos e f = seq_node K p q j k s s' pos e f

-- ---- each operation

module _ (f : ℕ → Piece) (g : ℕ → Sizes) (pos : Pos) where
  emission : (s : ℕ) (e : Option (Expr ℕ)) → HasSizes ((numbering f pos).emit s e) ((sizes_given g).emit s e)
  emission s e a n =
      none_inside (Emit pos (number_of n s) (value_in_numbers n e)) n
      (leaf 0 (counted (size_of_optional (optional_expression e))))
      (λ K. leaf_weighs 0 (counted (size_of_optional (optional_expression e)))
      (size_of_optional (optional_expression (value_in_numbers n e))) 0 0
      (ap counted (sym (value_same n e))))

  site : (d : AsyncNode ℕ) → HasSizes ((numbering f pos).async d) ((sizes_given g).async d)
  site d a n =
      let one = site_in_numbers n d in
      record {
        new_signals = [];
        signals_are = same_signals n;
        new_sites = one ∷ [];
        sites_are = refl;
        sizes = λ K b.
            leaf_weighs 1 (counted (weight_of_async d)) (size_of_site (slice_get K.sites (length n.sites)))
            0 0
            (ap counted (sym (site_same n d) ∙ ap size_of_site
            (sym (ap (λ z. slice_get z (length n.sites)) b.sites_are ∙ there n.sites one b.more_sites))));
      }

  pub operations_weigh : Alike HasSizes (numbering f pos) (sizes_given g)
  operations_weigh =
      record {
        nothing = λ a n. none_inside (Nothing pos) n (leaf 0 0) (λ K. leaf_weighs 0 0 0 0 0 refl);
        pause = λ a n. none_inside (Pause pos) n (leaf 0 0) (λ K. leaf_weighs 0 0 0 0 0 refl);
        emit = emission;
        choice = λ d p s q s' h k a n.
            let x = p a n in
            let y = q a x.1 in
            two_inside (If pos (in_numbers n d) x.0 y.0) x y n s s' _
            (λ K i j e e'. choice_node K x.0 y.0 i j s s' pos n d e e') (h a n) (k a x.1);
        suspend = λ d p s h a n.
            let x = p a n in
            one_inside (Suspend pos (in_numbers n d) x.0) x n s _
            (λ K k e. around_node K x.0 k (counted (size_of_expression (expression_of d)))
            (size_of_expression (expression_of (in_numbers n d))) s (test_weight n d) e) (h a n);
        seq = λ p s q s' h k a n.
            let x = p a n in
            let y = q a x.1 in
            two_inside (Seq pos x.0 y.0) x y n s s' _ (λ K i j e e'. seq_node K x.0 y.0 i j s s' pos e e')
            (h a n) (k a x.1);
        par = λ p s q s' h k a n.
            let x = p a n in
            let y = q a x.1 in
            two_inside (Par pos x.0 y.0) x y n s s' _ (λ K i j e e'. par_node K x.0 y.0 i j s s' pos e e')
            (h a n) (k a x.1);
        loop = λ p s h a n. let x = p a n in one_inside (Loop pos x.0) x n s _
            (λ K k e. looped_node K x.0 k s pos e) (h a n);
        local = λ d p s h a n.
            let x = p a (with_place (local_signal d) n) in
            local_inside (Local pos (length n.signals) x.0) (local_signal d) x n
            (with_place (local_signal d) n) s _ refl refl
            (λ K k first e. around_node K x.0 k (blocks_of_first d.first)
            (value_blocks (first_at K (length n.signals))) s
            (ap counted (blocks_same d.kind d.first ∙ ap value_blocks (sym first))) e)
            (h a (with_place (local_signal d) n));
        async = site;
        trap = λ p s h a n. let x = p (in_trap None a) n in one_inside (Trap pos x.0) x n s _
            (λ K k e. trapped_node K x.0 k s pos e) (h (in_trap None a) n);
        exit = λ a n. none_inside (Exit pos 0) n (leaf 0 0) (λ K. leaf_weighs 0 0 0 0 0 refl);
        named_trap = λ p s h a n.
            let x = p (in_trap (Some n.traps) a) (with_trap n) in
            one_inside (Trap pos x.0) x n s _ (λ K k e. trapped_node K x.0 k s pos e)
            (h (in_trap (Some n.traps) a) (with_trap n));
        leave = λ t a n. none_inside (Exit pos (traps_between t a.traps)) n (leaf 0 0)
            (λ K. leaf_weighs 0 0 0 0 0 refl);
        counter = λ p s h a n.
            let inner : Around = record { traps = a.traps; counter = length n.signals } in
            let x = p inner (with_signal (counter_signal pos) n) in
            local_inside (Local pos (length n.signals) x.0) (counter_signal pos) x n
            (with_signal (counter_signal pos) n) s _ refl refl
            (λ K k first e. around_node K x.0 k 0 (value_blocks (first_at K (length n.signals))) s
            (ap (λ v. counted (value_blocks v)) (sym first)) e)
            (h inner (with_signal (counter_signal pos) n));
        suspend_counted = λ p s h a n.
            let x = p a n in
            let test = roll-Expr ℕ (record { pos = pos; node = node.Now a.counter }) in
            one_inside (Suspend pos test x.0) x n s _
            (λ K k e. around_node K x.0 k 1 (size_of_expression (expression_of test)) s
            (ap counted (sym (ap size_of_expression (expr-Now pos a.counter)))) e) (h a n);
        emit_counter = λ a n. none_inside (Emit pos a.counter None) n (leaf 0 0)
            (λ K. leaf_weighs 0 0 0 0 0 refl);
      }

-- ---- modules

everywhere : (P : ℕ → Type 0) → ((n : ℕ) → P n) → (ns : List ℕ) → AllByRecursion P ns
everywhere P h [] = tt
everywhere P h (n ∷ ns) = (h n, everywhere P h ns)

modules_weigh : (ms : List (ModuleNode ℕ)) (deep m : ℕ)
    → HasSizes (of_module numbering no_module ms deep m) (of_module measure (leaf 0 0) ms deep m)
unfolding of_module
modules_weigh ms zero m = λ a n. none_inside (Nothing (record { 0 = 0 })) n (leaf 0 0)
    (λ K. leaf_weighs 0 0 0 0 0 refl)
modules_weigh ms (suc deep) m = by_module (slice_get ms m) (modules_weigh ms deep)
  where
    by_module : (o : Option (ModuleNode ℕ)) → ((n : ℕ) → HasSizes (of_module numbering no_module ms deep n)
        (of_module measure (leaf 0 0) ms deep n))
        → HasSizes (body_means (numbering (of_module numbering no_module ms deep)) no_module o)
        (body_means (measure (of_module measure (leaf 0 0) ms deep)) (leaf 0 0) o)
    by_module None h = λ a n. none_inside (Nothing (record { 0 = 0 })) n (leaf 0 0)
        (λ K. leaf_weighs 0 0 0 0 0 refl)
    by_module (Some b) h =
        blocks_alike HasSizes (numbering (of_module numbering no_module ms deep))
        (measure (of_module measure (leaf 0 0) ms deep))
        (λ n. HasSizes (of_module numbering no_module ms deep n) (of_module measure (leaf 0 0) ms deep n))
        (operations_weigh (of_module numbering no_module ms deep) (of_module measure (leaf 0 0) ms deep))
        (λ pos n bindings w. λ a before. w no_traps _)
        b.block _ _ (everywhere (λ n. HasSizes (of_module numbering no_module ms deep n)
        (of_module measure (leaf 0 0) ms deep n)) h (callees (parts_of b)))

pub sizes_are_of_expansion : (parts : List (Part ℕ))
    → sizes_of_module (modules_of parts) 0 ≡ sizes_of_kernel (kernel_of_expansion (expansion_of parts))
sizes_are_of_expansion parts =
    let ms = modules_of parts in
    let start = at_start (main_interface (slice_get ms 0)) in
    let x = piece_of_module ms 0 no_traps start in
    let K = kernel_of_expansion (expansion_of parts) in
    let w = modules_weigh ms (length ms) 0 no_traps start in
    let whole : Begins x.1.signals x.1.sites K = record {
      more_signals = [];
      signals_are =
          sym (append-nil x.1.signals);
      more_sites = [];
      sites_are = sym (append-nil x.1.sites);
    } in
    w.sizes K whole ∙ ap (λ (z : List AsyncSite). weighed K x.0 (length z)) (sym w.sites_are)
