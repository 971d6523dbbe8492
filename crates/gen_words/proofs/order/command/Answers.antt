use Rattle.std.proofs.Common.{◌∙◌, ap₂}
use Rattle.clap.specs.Words.{with_rule}
use Rattle.gen_words.proofs.TwoOptions.{both_read}
use Rattle.gen_words.proofs.order.command.Goals as goal

pub returns : goal.returns
returns c =
    let seed = c.numbered-seed.ensures in
    let size = c.numbered-size.ensures in
    record {
      app = c.in_ok-arg.ensures.shape size.is_option.local
          ∙ ap₂ with_rule (c.in_ok-one.ensures.shape seed.is_option.local ∙ ap₂ with_rule c.new.ensures.app seed.rule) size.rule;
      has_both = both_read c.new.result c.in_ok-one.one c.in_ok-arg.field-0 c.numbered-seed.result c.numbered-size.result
          c.in_ok-one.ensures c.in_ok-arg.ensures c.new.ensures.empty.0 c.new.ensures.empty.1 c.new.ensures.local c.new.ensures.negates
          seed.is_option size.is_option;
    }
