use Rattle.std.proofs.Common.{◌≡◌, ℕ, map, ap, ◌∙◌}
use Rattle.host_expr.specs.Expression.{expression_of}
use Rattle.module_tree.specs.declared.source.ExprAt.{ExprAt}
use Rattle.hh_term.specs.declared.program.Site.{Site}
use Rattle.hh_term.specs.Views.{site_of}
use Rattle.statement_build.specs.Building.{numbered_of}
use Rattle.kernel_expand.specs.Numbering.{Numbered, in_numbers, site_in_numbers}
use Rattle.statement_build.proofs.Sites.{site_pushed, arguments_are}
use Rattle.statement_build.proofs.builder.Builder.add_site.Goals as goal

pub returns-clause-after : goal.returns-clause-after
returns-clause-after c =
    let n : Numbered = numbered_of c.args.self.now in
    let node = c.args.node.now in
    let args : map expression_of c.in_ok-arguments.field-0 ≡ map
    (λ (x : ExprAt ℕ). expression_of (in_numbers n x.expr)) node.args =
    ap (map expression_of) (c.in_ok-arguments.ensures ∙ ap (map (λ (x : ExprAt ℕ). in_numbers n x.expr))
    c.as_slice.ensures) ∙ arguments_are n node.args in
    let site : Site = record {
      body = node.body.name;
      signal = c.result.result;
      args = c.in_ok-arguments.field-0;
      kill = c.in_ok-copy_text.field-0;
      suspend = c.in_ok-copy_text-2.field-0;
      resume = c.in_ok-copy_text-3.field-0;
    } in
    let same : site_of site ≡ site_in_numbers n node = λ i. record {
      body = node.body.name;
      signal = c.result.ensures i;
      args = args i;
      kill = c.in_ok-copy_text.ensures i;
      suspend = c.in_ok-copy_text-2.ensures i;
      resume = c.in_ok-copy_text-3.ensures i;
    } in
    let sites = site_pushed c.args.self.now.sites.items c.push.new.self.items site (site_in_numbers n node)
    c.in_ok-push.ensures.items same in
    λ i. record { signals = n.signals; sites = sites i; places = n.places; traps = n.traps }
