-- What the rules ask of bodies.
use Rattle.derived_laws.specs.Bodies.{BodiesObey}
use Rattle.derived_laws.proofs.KeptNumbers.{block_stands, block_stands_below}
use Rattle.derived_laws.proofs.Staying.{stays}
use Rattle.derived_laws.proofs.ExitTrees.{block_never}
use Rattle.derived_laws.proofs.OwnCounters.{counter_own}
use Rattle.derived_laws.proofs.NamedModules.{test_named, block_named}

pub bodies_obey : BodiesObey
bodies_obey =
    record {
      stands = block_stands;
      stands_below = block_stands_below;
      stays = stays;
      own = counter_own;
      test_named = test_named;
      block_named = λ parts linked deep m b scope before low seen bound.
          block_named parts linked deep m b scope before low seen bound;
      block_stays = λ parts linked deep m b scope before seen a n e o at.
          block_never parts linked deep m b scope before seen a n e o at;
    }
