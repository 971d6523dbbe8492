-- What a walk over a statement has, by the pieces that its arm goes over.
use Rattle.std.proofs.Common.{◌≡◌, Option, Some, None, sym, ◌∙◌, ap, append_assoc}
use Rattle.std.specs.Prelude.{option_map}
use Rattle.std.proofs.Math.Path.{fun_ext}
use Rattle.module_tree.specs.Scopes.{InScope, Declared}
use Rattle.module_tree.specs.Parts.{Test, Walk, here, empty, then, if_there, block_walk}
use Rattle.module_tree.specs.declared.source.ExprAt.{ExprAt}
use Rattle.module_tree.specs.declared.source.BlockNode.{BlockNode}
use Rattle.module_tree.specs.declared.source.Statement.TheVariants as written
use Rattle.link_faults.specs.Named.{Name}
use Rattle.link_faults.specs.Walks.{statement_walk}
use Rattle.link_faults.proofs.WalkLaws.{walk_if, walk_if_else}

then_grouped : (a b c : Walk Name) → then a (then b c) ≡ then (then a b) c
then_grouped a b c = fun_ext (λ scope. fun_ext (λ before. by scope before))
  where
    by : (scope : InScope) (before : Declared) → then a (then b c) scope before ≡ then (then a b) c scope before
    by scope before =
        let one = a scope before in
        let two = b scope one.after in
        let three = c scope two.after in
        ap (λ ps. record { parts = ps; after = three.after })
        (sym (append_assoc one.parts two.parts three.parts))

pub walk_branches : (x : ExprAt Name) (b : BlockNode Name) (other : Option (BlockNode Name))
    → statement_walk (written.If x b other)
    ≡ then (then (here (Test x)) (block_walk b)) (if_there (option_map block_walk other))
walk_branches x b None = walk_if x b ∙ then_grouped (here (Test x)) (block_walk b) empty
walk_branches x b (Some other) = walk_if_else x b other
    ∙ then_grouped (here (Test x)) (block_walk b) (block_walk other)
