-- The expansion of a linked text, where nothing refuses it, keeps the rules of a program.
use Rattle.std.proofs.Common.{◌≡◌, ◌≢◌, ℕ, suc, ◌+◌, ◌-◌, Bool, true, false, not, List, [], ◌∷◌}
use Rattle.std.proofs.Common.{◌++◌, length, map, take, drop, Option, Some, None, IsSome, refl, sym, ap, subst, ◌∙◌}
use Rattle.std.proofs.Common.{arith, length-append, leb-true}
use Rattle.std.specs.Prelude.{◌&&◌, ◌||◌, nat_lt, slice_get, IsTrue, bytes_eq}
use Rattle.std.specs.List.{AllByRecursion, list_all, list_any, range_with_len}
use Rattle.std.proofs.lemmas.List.{length-map, take_at, drop_at}
use Rattle.std.proofs.lemmas.Bool.{lt-ltb, not-true}
use Rattle.std.proofs.lemmas.Slice.Eq.{bytes_eq-Decides}
use Rattle.hh_base.specs.Value.{is_valued, is_interface}
use Rattle.hh_base.specs.declared.value.Pos.{Pos}
use Rattle.hh_base.specs.declared.value.Dir.{Dir}
use Rattle.hh_base.specs.declared.value.Dir.TheVariants as dir
use Rattle.host_expr.specs.Expression.{expression_of}
use Rattle.host_expr.specs.Kinds.{kind_of_expression}
use Rattle.host_expr.specs.Measures.{leaves_and_operators}
use Rattle.host_expr.specs.declared.expr.TheConstants.{EXPRESSION_LIMIT}
use Rattle.module_tree.specs.declared.source.InterfaceNode.{InterfaceNode}
use Rattle.module_tree.specs.declared.source.ParameterNode.{ParameterNode}
use Rattle.module_tree.specs.declared.source.ModuleNode.{ModuleNode}
use Rattle.module_tree.specs.declared.source.Part.{Part}
use Rattle.module_tree.specs.declared.source.Part.TheVariants as part
use Rattle.module_tree.specs.Callables.{modules_of}
use Rattle.module_tree.specs.DeclaredAt.{DeclaredAt, declared_signal, declared_in_block}
use Rattle.module_tree.specs.LinkedFacts.{IsLinked, no_more, sig_fits, declaration_fits, is_formed, is_small}
use Rattle.module_tree.specs.LinkedFacts.{declares_once, names_differ, first_fits, combine_fits}
use Rattle.hh_term.specs.declared.program.SignalDecl.{SignalDecl}
use Rattle.hh_term.specs.Pairs.{EachPair}
use Rattle.hh_term.specs.Kernel.{Kernel, Body}
use Rattle.hh_term.specs.Fits.{SignalFits, BodyIsFit, HasKind}
use Rattle.hh_term.specs.IsProgram.{IsProgram, NamesDiffer, NamesGoByPosition, interface_of, locals_declared}
use Rattle.kernel_expand.specs.Numbering.{Numbered, no_traps}
use Rattle.kernel_expand.specs.Expansion.{expansion_of, kernel_of_expansion, bodies_of}
use Rattle.kernel_expand.specs.Expansion.{interface_signal, main_interface, at_start, piece_of_module}
use Rattle.kernel_expand.specs.Refusals.{refusal_of}
use Rattle.kernel_expand.proofs.Progress.{both_true}
use Rattle.kernel_expand.proofs.Replaced.{all_map}
use Rattle.kernel_expand.proofs.Ordering.{IsLocal, OrderedIn, modules_in_order}
use Rattle.kernel_expand.proofs.Standing.{Whole, kinds_in}
use Rattle.kernel_expand.proofs.Sound.{Sound}
use Rattle.kernel_expand.proofs.GoodParts.{first_is, combine_is, is_this_kind, all_of_test}
use Rattle.kernel_expand.proofs.GoodRuns.{Bound}
use Rattle.kernel_expand.proofs.GoodModules.{modules_good, got_map}
use Rattle.kernel_expand.proofs.NamedTrees.{Named, modules_named, module_named}
use Rattle.kernel_expand.proofs.Accepted.{accepted}

-- ---- the declarations of a text

main_there : (ms : List (ModuleNode ℕ)) → no_more ms ≡ false → (m : ModuleNode ℕ) × (slice_get ms 0 ≡ Some m)
main_there [] h = absurd (let no : ⊥ = cc in no)
main_there (m ∷ ms) h = (m, refl)

of_main : (test : Part ℕ → Bool) (parts : List (Part ℕ)) → list_all test parts ≡ true → (m : ModuleNode ℕ)
    → slice_get (modules_of parts) 0 ≡ Some m → test (part.Module m) ≡ true
of_main test [] h m e = absurd (let no : ⊥ = cc in no)
of_main test (part.Module n ∷ parts) h m e =
    let same : n ≡ m = cc in
    subst (λ z. test (part.Module z) ≡ true) same (both_true (test (part.Module n)) (list_all test parts) h).0
of_main test (part.Body b ∷ parts) h m e = of_main test parts
    (both_true (test (part.Body b)) (list_all test parts) h).1 m e
of_main test (part.Host b ∷ parts) h m e = of_main test parts
    (both_true (test (part.Host b)) (list_all test parts) h).1 m e

valued : (ps : List ParameterNode) → list_all (λ (p : ParameterNode). is_valued p.kind) ps ≡ true
    → AllByRecursion (λ k. is_valued k ≡ true) (map (λ (p : ParameterNode). p.kind) ps)
valued [] h = tt
valued (p ∷ ps) h = let q = both_true (is_valued p.kind) _ h in (q.0, valued ps q.1)

pub bodies_fit : (parts : List (Part ℕ)) → list_all declaration_fits parts ≡ true
    → list_all is_formed parts ≡ true → AllByRecursion BodyIsFit (bodies_of parts)
bodies_fit [] d f = tt
bodies_fit (part.Module m ∷ parts) d f =
    bodies_fit parts (both_true (declaration_fits (part.Module m)) _ d).1
    (both_true (is_formed (part.Module m)) _ f).1
bodies_fit (part.Body b ∷ parts) d f =
    let e = both_true (declaration_fits (part.Body b)) (list_all declaration_fits parts) d in
    let g = both_true (is_formed (part.Body b)) (list_all is_formed parts) f in
    let params = map (λ (p : ParameterNode). p.kind) b.parameters in
    let h = both_true (list_all (λ (p : ParameterNode). is_valued p.kind) b.parameters && is_valued b.answer)
    (is_small b.expr) g.0 in
    let i = both_true (list_all (λ (p : ParameterNode). is_valued p.kind) b.parameters) (is_valued b.answer)
    h.0 in
    let kind : HasKind [] params b.answer (expression_of b.expr.expr) = record {
      kind = is_this_kind b.answer (kind_of_expression [] params (expression_of b.expr.expr)) e.0;
      small = leb-true (leaves_and_operators (expression_of b.expr.expr)) EXPRESSION_LIMIT h.1;
    } in
    (record { params = valued b.parameters i.0; expr = kind }, bodies_fit parts e.1 g.1)
bodies_fit (part.Host b ∷ parts) d f =
    let e = both_true (declaration_fits (part.Host b)) (list_all declaration_fits parts) d in
    let g = both_true (is_formed (part.Host b)) (list_all is_formed parts) f in
    (record { params = all_of_test is_valued b.parameters g.0; expr = tt }, bodies_fit parts e.1 g.1)

interface_fits : (ds : List InterfaceNode) → list_all (λ (d : InterfaceNode). sig_fits d.signal) ds ≡ true
    → AllByRecursion SignalFits (map interface_signal ds)
interface_fits [] h = tt
interface_fits (d ∷ ds) h =
    let q = both_true (sig_fits d.signal) (list_all (λ (d : InterfaceNode). sig_fits d.signal) ds) h in
    let r = both_true (first_fits d.signal.kind d.signal.first) (combine_fits d.signal.kind d.signal.combine) q.0 in (
      record {
        first = first_is d.signal.kind d.signal.first r.0;
        combine = combine_is d.signal.kind d.signal.combine r.1;
        named = tt;
      },
      interface_fits ds q.1,
    )

not_local : (d : Dir) → is_interface d ≡ true → d ≢ dir.Local
not_local d h e = let step : is_interface dir.Local ≡ true = ap is_interface (sym e) ∙ h in
    let no : ⊥ = cc in no

interface_directed : (ds : List InterfaceNode) → list_all (λ (d : InterfaceNode). is_interface d.dir) ds ≡ true
    → AllByRecursion (λ (d : SignalDecl). d.dir ≢ dir.Local) (map interface_signal ds)
interface_directed [] h = tt
interface_directed (d ∷ ds) h =
    let q = both_true (is_interface d.dir) (list_all (λ (d : InterfaceNode). is_interface d.dir) ds) h in
    (not_local d.dir q.0, interface_directed ds q.1)

all_named : (ds : List InterfaceNode) → AllByRecursion (λ (d : SignalDecl). IsSome d.name)
    (map interface_signal ds)
all_named [] = tt
all_named (d ∷ ds) = (refl, all_named ds)

other_names : (n : List ℕ) (ds : List InterfaceNode)
    → list_any (bytes_eq n) (map (λ (d : InterfaceNode). d.signal.name) ds) ≡ false
    → AllByRecursion (λ (e : SignalDecl). Some n ≢ e.name) (map interface_signal ds)
other_names n [] h = tt
other_names n (d ∷ ds) h =
    let q = neither (bytes_eq n d.signal.name) (list_any (bytes_eq n)
    (map (λ (d : InterfaceNode). d.signal.name) ds)) h in (
      λ e. (let same : n ≡ d.signal.name = cc in
          let yes = (bytes_eq-Decides n d.signal.name).1 same in
          let no : ⊥ = cc in no),
      other_names n ds q.1,
    )
  where
    neither : (a b : Bool) → (a || b) ≡ false → (a ≡ false) × (b ≡ false)
    neither false b e = (refl, e)
    neither true b e = absurd (let no : ⊥ = cc in no)

differ : (ds : List InterfaceNode) → names_differ (map (λ (d : InterfaceNode). d.signal.name) ds) ≡ true
    → EachPair (λ (d e : SignalDecl). d.name ≢ e.name) (map interface_signal ds)
differ [] h = tt
differ (d ∷ ds) h =
    let names = map (λ (d : InterfaceNode). d.signal.name) ds in
    let q = both_true (not (list_any (bytes_eq d.signal.name) names)) (names_differ names) h in
    (other_names d.signal.name ds (not-true (list_any (bytes_eq d.signal.name) names) q.0), differ ds q.1)

by_position : (name_at : Pos → Option (List ℕ)) (ds : List SignalDecl) → AllByRecursion (Named name_at) ds
    → NamesGoByPosition ds
by_position name_at [] h = tt
by_position name_at (d ∷ ds) h = (
  all_map (Named name_at) (λ (e : SignalDecl). d.pos ≡ e.pos → d.name ≡ e.name)
      (λ e n p. h.0 ∙ ap name_at p ∙ sym n) ds h.1,
  by_position name_at ds h.1,
)

interface_names : (name_at : Pos → Option (List ℕ)) (ds : List InterfaceNode) (others : List DeclaredAt)
    → AllByRecursion (λ (d : DeclaredAt). d.name ≡ name_at d.pos)
    (map (λ (d : InterfaceNode). declared_signal d.signal) ds ++ others)
    → AllByRecursion (Named name_at) (map interface_signal ds)
interface_names name_at [] others h = tt
interface_names name_at (d ∷ ds) others h = (h.0, interface_names name_at ds others h.1)

-- ---- the interface at the start

true_first : (a b : Bool) → a ≡ true → IsTrue (a || b)
true_first true b e = refl
true_first false b e = absurd (let no : ⊥ = cc in no)

bound_from : (bodies : List Body) (many : ℕ) (signals : List SignalDecl) (ds : List InterfaceNode) (j : ℕ)
    → j + length ds ≡ many
    → ((i : ℕ) (d : InterfaceNode) → slice_get ds i ≡ Some d
    → slice_get (kinds_in signals) (j + i) ≡ Some d.signal.kind)
    → Bound bodies many signals [] (range_with_len j (length ds)) ds
bound_from bodies many signals [] j e k = tt
bound_from bodies many signals (d ∷ ds) j e k =
    let here : j + 0 ≡ j = omega arith in (
      true_first (nat_lt j many) false (lt-ltb j many (omega arith)),
      subst (λ z. slice_get (kinds_in signals) z ≡ Some d.signal.kind) here (k 0 d refl),
      bound_from bodies many signals ds (j + 1) (omega arith)
          (λ i t is. let next : j + suc i ≡ (j + 1) + i = omega arith in
          subst (λ z. slice_get (kinds_in signals) z ≡ Some t.signal.kind) next (k (suc i) t is)),
    )

-- ---- the whole

module _ (parts : List (Part ℕ)) (linked : IsLinked parts)
    (ok : refusal_of (expansion_of parts) ≡ None) where
  abbrev ms : List (ModuleNode ℕ)
  ms = modules_of parts

  abbrev I : List InterfaceNode
  I = main_interface (slice_get ms 0)

  abbrev n : Numbered
  n = at_start I

  abbrev K : Kernel
  K = kernel_of_expansion (expansion_of parts)

  main : (m : ModuleNode ℕ) × (slice_get ms 0 ≡ Some m)
  main = main_there ms linked.main

  once : list_all declares_once parts ≡ true
  once = (both_true _ _ (both_true _ _ linked.names).0).1

  I-is : I ≡ main.0.interface
  I-is = ap main_interface main.1

  order : OrderedIn (piece_of_module ms 0 no_traps n) n
  order = modules_in_order ms (length ms) 0 no_traps n

  kinds_at : (i : ℕ) (d : InterfaceNode) → slice_get I i ≡ Some d
      → slice_get (kinds_in n.signals) (0 + i) ≡ Some d.signal.kind
  kinds_at i d e =
      let here : i ≡ 0 + i = omega arith in
      subst (λ z. slice_get (kinds_in n.signals) z ≡ Some d.signal.kind) here
      (got_map (λ (d : SignalDecl). d.kind) n.signals i (interface_signal d) (got_map interface_signal I i d e))

  sound : Sound (bodies_of parts) (length I) no_traps n [] (piece_of_module ms 0 no_traps n).0
      (piece_of_module ms 0 no_traps n).1
  sound =
      modules_good parts (record {
        scopes = linked.scopes;
        kinds = linked.kinds;
        limits = linked.limits;
        bindings = linked.bindings;
      }) (bodies_of parts) (length I) refl (length ms) 0 I
      (got_map (λ (m : ModuleNode ℕ). m.interface) ms 0 main.0 main.1 ∙ ap Some (sym I-is)) n [] refl
      (bound_from (bodies_of parts) (length I) n.signals I 0 (omega arith) kinds_at)

  whole : Whole (bodies_of parts) (length I) (piece_of_module ms 0 no_traps n).1 K
  whole = record { kinds = λ s k h. h; sites = λ i a h. h; bodies_are = refl; interface_is = refl }

  many : length (map interface_signal I) ≡ length I
  many = length-map I interface_signal

  all_are : length K.signals ≡ length I + length order.new_signals
  all_are = ap length order.signals_are ∙ length-append (map interface_signal I) order.new_signals
      ∙ ap (λ z. z + length order.new_signals) many

  front : interface_of K ≡ map interface_signal I
  front = ap (take (length I)) order.signals_are
      ∙ take_at (map interface_signal I) order.new_signals (length I) many

  back : locals_declared K ≡ order.new_signals
  back = ap (drop (length I)) order.signals_are
      ∙ drop_at (map interface_signal I) order.new_signals (length I) many

  named_signals : AllByRecursion (Named linked.names_by_position.name_at) K.signals
  named_signals =
      let at = linked.names_by_position.name_at in
      modules_named at ms linked.names_by_position.each (length ms) 0 no_traps n
      (subst (λ z. AllByRecursion (Named at) (map interface_signal z)) (sym I-is)
      (interface_names at main.0.interface (declared_in_block main.0.block)
      (module_named at ms linked.names_by_position.each 0 main.0 main.1)))

  pub keeps_rules : IsProgram K
  keeps_rules =
      let accepts = accepted (expansion_of parts) ok in
      record {
        interface_declared = omega (arith, all_are);
        interface_not_local = subst (AllByRecursion (λ (d : SignalDecl). d.dir ≢ dir.Local)) (sym front)
            (subst (λ z. AllByRecursion (λ (d : SignalDecl). d.dir ≢ dir.Local) (map interface_signal z))
            (sym I-is) (interface_directed main.0.interface (of_main is_formed parts linked.forms main.0 main.1)));
        others_local = subst (AllByRecursion IsLocal) (sym back) order.all_local;
        names_differ = subst NamesDiffer (sym front) (record {
          named = all_named I;
          differ = subst (λ z. EachPair (λ (d e : SignalDecl). d.name ≢ e.name) (map interface_signal z))
              (sym I-is) (differ main.0.interface (of_main declares_once parts once main.0 main.1));
        });
        names_by_position = by_position linked.names_by_position.name_at K.signals named_signals;
        signals_fit = sound.signals (subst (λ z. AllByRecursion SignalFits (map interface_signal z)) (sym I-is)
            (interface_fits main.0.interface (of_main declaration_fits parts linked.declarations main.0 main.1)));
        bodies_fit = bodies_fit parts linked.declarations linked.forms;
        sites_fit = sound.sites K whole tt;
        statement_fits = sound.fits K whole;
        loops_wait = accepts.loops;
        exits_fit = sound.exits;
        locals_in_order = order.locals_in_order
            ∙ ap (λ z. range_with_len z (length order.new_signals)) many
            ∙ ap (range_with_len (length I)) (let rest : length order.new_signals ≡ length K.signals - length I =
            omega (arith, all_are) in rest);
        sites_in_order = order.sites_in_order ∙ ap (λ z. range_with_len 0 (length z)) (sym order.sites_are);
        uses_in_scope = sound.uses K whole;
        within_limits = accepts.limits;
      }
