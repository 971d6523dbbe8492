use Rattle.std.proofs.Common.{◌≡◌, ◌||◌, cond, None, [], ◌∷◌, length, map, take, ◌∙◌, ap, sym, subst}
use Rattle.std.proofs.lemmas.List.{length-map, length-take-le, map-append}
use Rattle.link_faults.specs.declared.fault.LinkKind.TheVariants as fault
use Rattle.link_faults.specs.Faults.{earlier}
use Rattle.link_faults.specs.Named.{is_named}
use Rattle.link_faults.specs.Meanings.{meaning_of, node_meaning}
use Rattle.link_faults.specs.NameTables.{IsTable, has_name, name_of, interface_name}
use Rattle.link_faults.specs.RunFaults.{first_implied, first_unbound, left_name}
use Rattle.link_faults.proofs.TableLaws.{named_in_table}
use Rattle.link_faults.proofs.TextLaws.{one_more}
use Rattle.link_faults.proofs.RunLaws.{unbound_more}
use Rattle.link_faults.proofs.runs.first_unbound.Goals as goal

pub nodes-preserved : goal.nodes-preserved
nodes-preserved c =
    let interface = c.args.interface.now in
    let before = take c.nodes.place interface in
    let d = c.index-interface-place.result in
    let q = d.signal.name in
    let meant = meaning_of c.args.names.now in
    let count : c.nodes.place ≡ length (map interface_name before) = sym (length-map before interface_name
    ∙ length-take-le c.nodes.place interface (c.nodes.auto.place-end)) in
    record {
      seen = one_more (λ ds. IsTable fault.TwiceDeclared (map interface_name ds) c.declare.new.self) interface
          c.nodes.place d c.nodes-test.true c.index-interface-place.is
          (subst (λ ns. IsTable fault.TwiceDeclared ns c.declare.new.self)
          (sym (map-append interface_name before (d ∷ [])))
          (c.in_ok-declare.ensures fault.TwiceDeclared (map interface_name before) c.nodes.invariant.seen count));
      first = λ k bindings lefts.
          one_more (λ ds. c.earlier-first.result ≡ first_unbound meant c.args.pos bindings ds) interface
          c.nodes.place d c.nodes-test.true c.index-interface-place.is
          (c.earlier-first.ensures
          ∙ ap (λ o. earlier o c.unless_bound.result) (c.nodes.invariant.first k bindings lefts)
          ∙ ap (earlier (first_unbound meant c.args.pos bindings before)) (c.unless_bound.ensures
          ∙ ap (λ b. cond b None (first_implied c.args.pos (node_meaning d) (meant q))) (c.is_among-bound.ensures
          ∙ ap (λ b. b || has_name c.args.lefts.now q)
          (named_in_table fault.TwiceDeclared (map interface_name before) c.nodes.seen q c.nodes.invariant.seen)
          ∙ ap (λ b. is_named (map name_of (map interface_name before)) q || b)
          (named_in_table k (map left_name bindings) c.args.lefts.now q lefts)))
          ∙ sym (unbound_more meant c.args.pos bindings before d));
    }
