use Rattle.std.proofs.Common.{◌-◌, All, length}
use Rattle.std.specs.Str.{IsCharBoundary}
use Rattle.module_token.specs.Place.{InText, Rising, toks}
use Rattle.module_token.proofs.Parted.{IsReadTo}
use Rattle.module_token.proofs.tokens.tokens.Given as goal

abbrev pub invariant-loop-tokens : goal.invariant-loop-tokens
invariant-loop-tokens l = record {
  cut : IsCharBoundary l.text l.at;
  read : IsReadTo l.text l.at (toks l.text l.tokens.items);
  in_text : All (InText l.text) l.tokens.items;
  rising : Rising 0 l.tokens.items l.at;
}

abbrev pub decreases-loop-tokens : goal.decreases-loop-tokens
decreases-loop-tokens l = length l.text - l.at
