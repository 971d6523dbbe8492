use Rattle.std.proofs.Common.{ap, ◌∙◌, map}
use Rattle.net_block.specs.Written.{written}
use Rattle.net_block.proofs.written.written_site.Goals as goal

pub returns : goal.returns
returns c =
    let args = c.from_vec.ensures ∙ c.in_ok-args.ensures ∙ ap (map written) c.as_slice.ensures in
    λ i. record {
      body = c.args.site.now.body;
      signal = c.args.site.now.signal;
      args = args i;
      kill = c.in_ok-kill.ensures i;
      suspend = c.in_ok-suspend.ensures i;
      resume = c.in_ok-resume.ensures i;
    }
