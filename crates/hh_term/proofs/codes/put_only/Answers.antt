use Rattle.std.proofs.Common.{◌≡◌, ap, sym, subst, ◌∙◌, true, false, replicate, get_or, set}
use Rattle.hh_term.proofs.FlagSets.{only_set}
use Rattle.hh_term.specs.Codes.{only}
use Rattle.hh_term.proofs.codes.put_only.Goals as goal

pub returns : goal.returns
returns c =
    let cleared : c.fill.new.self ≡ replicate 258 false =
    c.fill.ensures.after (λ y h. h) ∙ ap (λ n. replicate n false) c.told-codes in
    λ k. subst (λ x. get_or (set x c.args.code true) k false ≡ only c.args.code k) (sym cleared)
    (only_set 258 c.args.code c.requires k)
