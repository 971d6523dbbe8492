use Rattle.std.proofs.Common.{Some, cond, ◌∙◌, ap, arith}
use Rattle.std.specs.Prelude.{string_bytes}
use Rattle.std.specs.Str.{bytes_eq}
use Rattle.std.proofs.lemmas.Map.Text.{hash_map_updates_text}
use Rattle.indexmap.specs.IndexMap.{get_by_text}
use Rattle.link_verdict.proofs.Parameters.{one_more_kind}
use Rattle.link_verdict.proofs.modules.kinds_of_parameters.Goals as goal

pub parameters-preserved : goal.parameters-preserved
parameters-preserved c = λ q.
    let p = c.index-parameters-parameters.result in
    let old = c.parameters.kinds in
    let step = hash_map_updates_text (string_bytes c.in_ok-key.key) old c.insert.new.self (Some p.kind)
    c.in_ok-insert.ensures.updates in
    step q
    ∙ ap (λ k. cond (bytes_eq k q) (Some p.kind) (get_by_text old q))
    (c.in_ok-key.ensures.ok ∙ c.as_str.ensures.text)
    ∙ ap (cond (bytes_eq p.name q) (Some p.kind)) (c.parameters.invariant q)
    ∙ one_more_kind c.args.parameters.now c.parameters.behind p q (omega (arith, c.parameters-test.true))
    c.index-parameters-parameters.is
