use Rattle.std.proofs.Common.{◌≡◌, refl, ap, ◌∙◌, map, length, arith}
use Rattle.std.proofs.lemmas.List.{map_push, length-map}
use Rattle.hh_term.specs.Views.{site_of}
use Rattle.hh_term.specs.ProgramView.{kernel_of}
use Rattle.loop_copy.specs.Renaming.{numbers_in, renamed_site}
use Rattle.loop_copy.specs.Numbered.{numbered}
use Rattle.loop_copy.proofs.Copying.{copies_async, site_at}
use Rattle.loop_copy.proofs.copier.Copier.site.Goals as goal

pub returns : goal.returns
returns c =
    let K = kernel_of c.args.program.now in
    let before = c.args.self.now in
    let after = record before { sites = c.push.new.self } in
    let placed = c.in_ok-number.ensures in
    let long = c.len.ensures in
    let ok = before.sites.ok in
    let same = length-map before.sites.items site_of in
    let many : c.in_ok-number.number ≡ length (map site_of before.sites.items) = omega (arith, placed, long, ok, same) in
    copies_async K (numbered before) (numbered after) c.args.site c.in_ok-number.number
    (site_of c.index-sites-site.result) (site_of c.in_ok-copy.copy)
    (site_at K c.sites-sites.result.now K.sites c.args.site c.index-sites-site.result c.sites-sites.ensures.kernel c.requires
    c.index-sites-site.is)
    many refl refl
    (ap (map site_of) c.in_ok-push.ensures.items ∙ map_push site_of before.sites.items c.in_ok-copy.copy)
    (c.in_ok-copy.ensures ∙ ap (λ ns. renamed_site (numbers_in ns) (site_of c.index-sites-site.result)) c.deref.ensures.value)
