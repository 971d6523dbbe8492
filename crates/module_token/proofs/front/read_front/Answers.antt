use Rattle.std.proofs.Common.{sym, ap, ◌∙◌}
use Rattle.std.specs.Str.Iter.{chars_rest}
use Rattle.std.specs.Str.{chars}
use Rattle.std.proofs.lemmas.Str.{chars_past_char}
use Rattle.module_token.specs.Front.{front_of, front_by}
use Rattle.module_token.proofs.Cuts.{blank_cut}
use Rattle.module_token.proofs.Fronts.{front_sign}
use Rattle.module_token.proofs.front.read_front.Goals as goal

pub returns-then-is_blank-clause-cut : goal.returns-then-is_blank-clause-cut
returns-then-is_blank-clause-cut c =
    blank_cut c.args.text.now (chars_rest c.next.new.self) c.in-Some.first c.utf8.text
    (sym c.chars.ensures.rest ∙ c.in-Some.ensures.steps.0) (sym c.is_blank.ensures ∙ c.if-is_blank.true)

pub word-requires : goal.word-requires
word-requires c = (
  c.in-Some.first,
  chars (chars_rest c.next.new.self),
  chars_past_char c.args.text.now
      (chars_rest c.next.new.self) c.in-Some.first c.utf8.text (sym c.chars.ensures.rest
      ∙ c.in-Some.ensures.steps.0),
  sym c.starts_word.ensures ∙ c.if-starts_word.true,
)

pub returns-clause-value : goal.returns-clause-value
unfolding front_of
returns-clause-value c =
    let whole = chars_past_char c.args.text.now (chars_rest c.next.new.self) c.in-Some.first c.utf8.text
    (sym c.chars.ensures.rest ∙ c.in-Some.ensures.steps.0) in
    c.sign.ensures.value ∙ sym (ap (λ cs. front_by cs c.args.text.now) whole
    ∙ front_sign c.in-Some.first (chars (chars_rest c.next.new.self)) c.args.text.now
    (sym c.is_blank.ensures ∙ c.if-is_blank.false) (sym c.is_ascii_digit.ensures.value
    ∙ c.if-is_ascii_digit.false) c.if-first-eq34.false (sym c.starts_word.ensures
    ∙ c.if-starts_word.false))
