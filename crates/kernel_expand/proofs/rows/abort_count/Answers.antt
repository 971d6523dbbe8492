use Rattle.kernel_expand.specs.Interpretation.{test_of}
use Rattle.kernel_expand.specs.Measures.{sizes, leaf, both}
use Rattle.kernel_expand.specs.Rows as row
use Rattle.kernel_expand.proofs.Balanced.{three_items}
use Rattle.kernel_expand.proofs.rows.abort_count.Goals as goal

pub returns : goal.returns
returns c =
    let list = three_items (both 0) (leaf 0 0) (row.await_count sizes c.args.times
    (test_of c.args.test.now)) (leaf 0 0) (leaf 0 0) in
    cc
