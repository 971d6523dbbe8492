use Rattle.std.proofs.Common.{◌≡◌, ◌∙◌, List, ℕ, Some, ap, codes, sym, slice_get}
use Rattle.std.proofs.lemmas.Slice.Eq.{bytes_eq-Decides}
use Rattle.hiphop_main.proofs.generator.is_gen.Goals as goal

same_word : (word : List ℕ) (first : List (List ℕ)) → Some word ≡ slice_get first 0 → slice_get first 0 ≡ Some (codes "gen") → word ≡ codes "gen"
same_word word first is gen = let both : Some word ≡ Some (codes "gen") = is ∙ gen in cc

pub returns-in-Some : goal.returns-in-Some
returns-in-Some c = (
  λ t. sym c.in-Some.ensures ∙ ap Some ((bytes_eq-Decides c.in-Some.word.now _).0 (sym c.eq.ensures ∙ t)),
  λ e. c.eq.ensures ∙ (bytes_eq-Decides c.in-Some.word.now _).1 (same_word c.in-Some.word.now c.args.words.now c.in-Some.ensures e),
)
