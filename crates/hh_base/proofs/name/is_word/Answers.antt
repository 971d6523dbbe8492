use Rattle.std.proofs.Common.{◌≡◌, ◌∷◌, ◌∙◌, sym, refl, true}
use Rattle.std.specs.Str.{chars}
use Rattle.std.specs.Str.Iter.{chars_rest}
use Rattle.std.proofs.lemmas.Str.{chars_past_char}
use Rattle.hh_base.specs.Name.{starts_word}
use Rattle.hh_base.proofs.name.is_word.Goals as goal

pub returns-then-starts_word : goal.returns-then-starts_word
returns-then-starts_word c =
    let split : chars c.args.text.now ≡ c.in-Some.first ∷ chars (chars_rest c.next.new.self) =
    chars_past_char _ _ _ c.utf8.text
    (sym c.chars-letters.ensures.rest ∙ c.in-Some.ensures.steps.0) in
    let starts : starts_word c.in-Some.first ≡ true = sym c.starts_word.ensures ∙ c.if-starts_word.true in
    rw (split, starts, c.goes_on.ensures, c.as_str.ensures) refl
