use Rattle.std.proofs.Common.{◌≡◌, ◌≤◌, ◌+◌, length, drop}
use Rattle.std.specs.Str.{chars, IsUtf8}
use Rattle.std.specs.Str.Iter.{chars_rest}
use Rattle.module_token.specs.Front.{word_len}
use Rattle.module_token.proofs.word.word_len.Given as goal

abbrev pub invariant-loop-letter : goal.invariant-loop-letter
invariant-loop-letter l = record {
  can : (goal.iterator-loop-letter).can_next l.letter-iterator;
  finite : (goal.iterator-loop-letter).is_finite l.letter-iterator;
  rest : drop l.len l.text ≡ chars_rest l.letter-iterator;
  within : l.len ≤ length l.text;
  utf8 : IsUtf8 (drop l.len l.text);
  total : word_len (chars l.text) ≡ l.len + word_len (chars (drop l.len l.text));
}
