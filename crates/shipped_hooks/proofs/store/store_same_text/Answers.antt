use Rattle.std.proofs.Common.{◌≡◌, ◌∙◌, ◌++◌, ◌∷◌, [], List, ap}
use Rattle.std.specs.Prelude.{codes}
use Rattle.std.proofs.Math.Logic.{∥∥₁_prop, ∥∥₁_elim}
use Rattle.hh_base.specs.declared.value.Kind.{Kind}
use Rattle.hh_base.specs.declared.value.Kind.TheVariants as kind
use Rattle.host_hooks.specs.Promise.{Promise}
use Rattle.host_hooks.specs.Stored.{promises_of}
use Rattle.shipped_hooks.proofs.store.store_same_text.Goals as goal

pub store-requires-clause-answers : goal.store-requires-clause-answers
store-requires-clause-answers g c = λ args v k called.
    ∥∥₁_elim (c.requires.answers args v (k ∙ c.in_ok-texts.ensures.items) called) ∥∥₁_prop
    (λ s. ∣ s.allowed c.in_ok-law.law c.in_ok-law.ensures.law ∣₁)

pub returns : goal.returns
returns g c =
    let promise : List Kind → Promise =
    λ params. record { name = codes "same_text"; params = params; answer = kind.Bool; law = c.in_ok-law.law } in
    record {
      law = c.in_ok-law.law;
      is_same = c.in_ok-law.ensures.law;
      added = c.in_ok-store.ensures ∙ ap (λ params. promises_of c.args.hooks.now ++ promise params ∷ [])
          c.in_ok-texts.ensures.items;
    }
