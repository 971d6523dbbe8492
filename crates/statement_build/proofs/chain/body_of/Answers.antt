use Rattle.std.proofs.Common.{◌≡◌, ◌-◌, Some, refl, ◌∙◌, arith}
use Rattle.std.specs.Prelude.{slice_get}
use Rattle.kernel_expand.proofs.Listing.{found, not_found}
use Rattle.statement_build.specs.Levels.{modules_in, kernel_in}
use Rattle.statement_build.proofs.Chained.{not_deep, not_there, there, at_most}
use Rattle.statement_build.proofs.chain.body_of.Goals as goal

pub returns-then-level-eq0-clause-means : goal.returns-then-level-eq0-clause-means
returns-then-level-eq0-clause-means c = λ a n i.
    not_deep (modules_in c.args.level) c.args.place c.args.level.deep c.if-level-eq0.true i a n

pub returns-in-None-clause-means : goal.returns-in-None-clause-means
returns-in-None-clause-means c = λ a n i.
    let ms = modules_in c.args.level in
    not_there ms c.args.place c.args.level.deep
    (not_found c.args.level.modules.now ms c.args.place refl c.in-None.ensures.lookup.3) i a n

pub returns-in-Some-clause-means : goal.returns-in-Some-clause-means
returns-in-Some-clause-means c = λ a n i.
    let l = c.args.level in
    let look = c.in-Some.ensures.lookup in
    let got : slice_get (modules_in l) c.args.place ≡ Some c.in-Some.found.now.now =
    found l.modules.now (modules_in l) c.args.place c.in-Some.found.now refl look.3.0 look.1 in
    (there (modules_in l) c.args.place l.deep (l.deep - 1) c.in-Some.found.now.now (omega (arith, c.if-level-eq0.false))
    got ∙ c.innermost.ensures.means (kernel_in (record { modules = l.modules; deep = l.deep - 1 }))) i a n

pub returns-in-Some-clause-less : goal.returns-in-Some-clause-less
returns-in-Some-clause-less c =
    let l = c.args.level in
    let look = c.in-Some.ensures.lookup in
    let got : slice_get (modules_in l) c.args.place ≡ Some c.in-Some.found.now.now =
    found l.modules.now (modules_in l) c.args.place c.in-Some.found.now refl look.3.0 look.1 in
    record {
      modules = refl;
      deep = omega (arith, c.if-level-eq0.false);
      size = omega (arith, c.innermost.ensures.less, at_most (modules_in l) c.args.place c.in-Some.found.now.now got);
    }
