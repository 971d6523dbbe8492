use Rattle.std.proofs.Common.{ap, ◌∙◌, map}
use Rattle.host_expr.specs.Expression.{expression_of}
use Rattle.loop_copy.specs.Renaming.{numbers_in, renamed_expr}
use Rattle.loop_copy.proofs.Renamed.{all_renamed}
use Rattle.loop_copy.proofs.renaming.renumbered_site.Goals as goal

pub returns : goal.returns
returns c =
    let f = numbers_in c.args.numbers.now in
    let args = ap (map expression_of) (c.from_vec.ensures ∙ c.in_ok-args.ensures ∙ ap (map (renamed_expr f)) c.as_slice.ensures)
    ∙ all_renamed f c.args.site.now.args in
    λ i. record {
      body = c.args.site.now.body;
      signal = c.target.ensures i;
      args = args i;
      kill = c.in_ok-kill.ensures i;
      suspend = c.in_ok-suspend.ensures i;
      resume = c.in_ok-resume.ensures i;
    }
