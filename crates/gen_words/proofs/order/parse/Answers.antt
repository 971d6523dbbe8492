use Rattle.std.proofs.Common.{◌≡◌, ◌∙◌, List, [], ap, map, refl, subst, true}
use Rattle.std.specs.Borrow.{Bor}
use Rattle.clap.specs.Words.{App, Text, app_of, fault_of, is_simple, is_simple_and_free, matches_of}
use Rattle.clap.proofs.OnLiterals.{clap_on_literals}
use Rattle.gen_words.specs.Words.{command}
use Rattle.gen_words.proofs.order.parse.Goals as goal

simple : is_simple command ≡ true
unfolding clap_on_literals
simple = refl

free : is_simple_and_free command ≡ true
unfolding clap_on_literals
free = refl

pub returns-in-Ok-try_get_matches_from-clause-taken : goal.returns-in-Ok-try_get_matches_from-clause-taken
returns-in-Ok-try_get_matches_from-clause-taken c =
    let words : List Text = map (λ (w : Bor Text). w.now) c.args.words.now in
    let app : app_of c.in-Ok.command ≡ command = c.in-Ok.ensures.app in
    let parse = c.in-Ok-try_get_matches_from.ensures in
    record {
      taken = subst (λ (a : App). fault_of a words ≡ []) app (parse.kinds (ap is_simple_and_free app ∙ free));
      rows = (parse.matches (ap is_simple app ∙ simple)).0 ∙ ap (λ (a : App). matches_of a words) app;
      both = c.in-Ok.ensures.has_both c.in-Ok-try_get_matches_from.matches parse.parsed;
    }
