use Rattle.std.proofs.Common.{◌≡◌, take}
use Rattle.link_faults.specs.declared.judge.Judgement.{Judgement}
use Rattle.link_faults.specs.Earliest.{first_by}
use Rattle.link_faults.proofs.judge.Judgement.over.Given as goal

abbrev pub invariant-parts : goal.invariant-parts
invariant-parts l = record {
  misfit : l.misfit ≡ first_by (λ (j : Judgement). j.misfit) (take l.part-index l.parts);
  unknown : l.unknown ≡ first_by (λ (j : Judgement). j.unknown) (take l.part-index l.parts);
}
