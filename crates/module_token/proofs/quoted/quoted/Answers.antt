use Rattle.std.proofs.Common.{◌-◌, List, ℕ, length, drop, ap, ◌∙◌, arith}
use Rattle.module_token.specs.Front.{quote_end}
use Rattle.module_token.proofs.Quotes.{read_more, read_end, read_cuts}
use Rattle.module_token.proofs.quoted.quoted.Goals as goal

pub loop-others-preserved : goal.loop-others-preserved
loop-others-preserved c =
    let at = c.loop-others.invariant in
    record {
      read = read_more (drop 1 c.args.text.now) c.loop-others.rest.now c.in-Some.others.now _
          c.loop-others.len c.in-Some.ensures.next at.read;
      small = omega (arith, c.in-Some.ensures.shorter, at.small);
    }

pub returns-clause-value : goal.returns-clause-value
returns-clause-value c =
    let at = c.loop-others in
    c.quote_end.ensures ∙ ap (λ (l : List ℕ). quote_end (length l - length at.rest.now) at.len at.rest.now)
    c.as_bytes-bytes.ensures.value ∙ read_end c.args.text.now at.rest.now at.len at.invariant.read
    c.in_default.ensures.next

pub returns-clause-cut : goal.returns-clause-cut
returns-clause-cut c =
    let at = c.loop-others in
    rw (c.quote_end.ensures, c.as_bytes-bytes.ensures.value)
    (read_cuts c.args.text.now at.rest.now at.len c.utf8.text at.invariant.small at.invariant.read)
