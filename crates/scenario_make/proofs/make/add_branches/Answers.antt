use Rattle.std.proofs.Common.{◌≡◌, ◌∙◌, ℕ, ◌+◌, List, ◌++◌, ap, ap₂, add-one, codes}
use Rattle.scenario_make.specs.Make.{branch_line, chosen, next, number_of}
use Rattle.scenario_make.proofs.Lines.{one_more}
use Rattle.scenario_make.proofs.make.add_branches.Goals as goal

pub branches-preserved : goal.branches-preserved
branches-preserved c =
    let number : c.next-number.result ≡ number_of c.args.seed (c.branches.before + 1) =
    rw add-one (c.next-number.ensures ∙ ap next c.branches.invariant.number) in
    record {
      number = number;
      lines =
          one_more (branch_line c.args.seed) c.branches.before _ _ _ _ c.branches.invariant.lines c.in_ok-add_branch.ensures
          (ap₂ (λ (w : List ℕ) (x : ℕ). w ++ codes " { " ++ chosen x ++ codes " }\n") c.word_of.ensures number);
    }
