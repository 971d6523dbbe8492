-- What each part of a text without faults keeps in the resolved tree.
use Rattle.std.proofs.Common.{◌≡◌, ℕ, Bool, true, List, [], ◌∷◌, ◌++◌, map, Option, Some, None}
use Rattle.std.proofs.Common.{option_map, refl, sym, ap, subst, ◌∙◌}
use Rattle.std.specs.Prelude.{◌&&◌, ◌||◌, not, is_some, slice_get}
use Rattle.std.specs.List.{AllByRecursion, flat_map, list_all}
use Rattle.std.proofs.lemmas.Bool.{and_parts, and_from, not_from_false}
use Rattle.hh_base.specs.declared.value.Pos.{Pos}
use Rattle.hh_base.specs.declared.value.Kind.{Kind}
use Rattle.hh_base.specs.declared.value.Kind.TheVariants as kind
use Rattle.module_tree.specs.declared.source.NameAt.{NameAt}
use Rattle.module_tree.specs.declared.source.ExprAt.{ExprAt}
use Rattle.module_tree.specs.declared.source.SignalNode.{SignalNode}
use Rattle.module_tree.specs.declared.source.InterfaceNode.{InterfaceNode}
use Rattle.module_tree.specs.declared.source.Binding.{Binding}
use Rattle.module_tree.specs.declared.source.AsyncNode.{AsyncNode}
use Rattle.module_tree.specs.declared.source.ModuleNode.{ModuleNode}
use Rattle.module_tree.specs.Scopes.{Signal, InScope, signal_at, interface_signals}
use Rattle.module_tree.specs.Parts.{StatementPart, Test, Times, Emission, Locals, Exit, Call, Start, Placed}
use Rattle.module_tree.specs.Parts.{expressions_of, signals_written, signals_read, parameters_read}
use Rattle.module_tree.specs.Parts.{signals_named, parameters_named, if_any}
use Rattle.module_tree.specs.Callables.{Signature, signatures_of, interfaces_of}
use Rattle.module_tree.specs.LinkedFacts as linked
use Rattle.module_tree.specs.LinkedFacts.{Known, known_in, is_in_scope, refers, places_from, no_more, kinds_fit, has_kind}
use Rattle.module_tree.specs.LinkedFacts.{no_input_emitted, binds_interface, is_limited, locals_differ}
use Rattle.module_tree.specs.LinkedFacts.{is_kind, is_input, emits_in_scope, each_bound, sig_fits}
use Rattle.link_faults.specs.Named.{Name, signal_named, trap_named, signature_named, module_named}
use Rattle.link_faults.specs.SourceKinds.{wrong_for, wrong_value}
use Rattle.link_faults.specs.Rows as row
use Rattle.link_faults.specs.Rows.{module_place}
use Rattle.link_faults.specs.Rows.{Program, unknown_among, here_if, kinds_in, no_kinds, is_in}
use Rattle.module_link.specs.Resolved.{resolved, resolved_name, signal_place, body_place}
use Rattle.module_link.specs.Resolved.{resolved_binding, resolved_bindings, resolved_async, or_first}
use Rattle.module_link.proofs.Lists.{nothing_first, append_empty, all_split, all_append, all_weaker}
use Rattle.module_link.proofs.Lists.{all_tests, all_of_map, flat_map_empty}
use Rattle.module_link.proofs.Distinct.{place_found, no_name_twice}
use Rattle.module_link.proofs.Meanings.{all_known, none_known, is_there, nothing_here, MeansSignal}
use Rattle.module_link.proofs.Meanings.{signal_meant, trap_found}
use Rattle.module_link.proofs.ScopePlaces.{IsPlaced, signals_of}
use Rattle.module_link.proofs.SourceWalks.{counts_within}
use Rattle.module_tree.specs.SourceForms.{fits_expression}
use Rattle.module_link.proofs.Faultless.{Fine, FineText}
use Rattle.module_link.proofs.Bound.{true_from_not, Bound, written_for}
use Rattle.module_link.proofs.ResolvedParts.{resolved_in, resolved_placed}
use Rattle.module_link.proofs.PartExpressions.{AllKnown, kinds_of, kind_meant, kind_at, expression_fits}
use Rattle.module_link.proofs.PartExpressions.{expressions_same, reads_same, parameters_same, all_small}
use Rattle.module_link.proofs.RunParts.{RunOf, run_of, each_of_interface, places_of_interface, stands_at}

abbrev at : InScope → StatementPart Name → Placed Name
at c part = record { scope = c; part = part }

module _ (parts : Program) (text : FineText parts) (m : ModuleNode Name) (c : InScope) where
  abbrev FinePart : StatementPart Name → Type 0
  FinePart part = Fine parts m (at c part)

  -- ---- names of the part

  written_known : (part : StatementPart Name) → FinePart part → AllKnown c (signals_written part)
  written_known part fine =
      (all_split _ (signals_written part) (flat_map (λ (x : ExprAt Name). signals_read x.expr)
      (expressions_of part)) (all_known _ _ (append_empty _ _ fine.signals).0)).0

  read_known : (part : StatementPart Name) → FinePart part
      → AllKnown c (flat_map (λ (x : ExprAt Name). signals_read x.expr) (expressions_of part))
  read_known part fine =
      (all_split _ (signals_written part) (flat_map (λ (x : ExprAt Name). signals_read x.expr)
      (expressions_of part)) (all_known _ _ (append_empty _ _ fine.signals).0)).1

  none_taken : (part : StatementPart Name) → FinePart part → parameters_named part ≡ []
  none_taken part fine = none_known _ (append_empty _ _ fine.signals).1

  meant : (n : Name) (part : StatementPart Name) → FinePart part → is_some (signal_named c n) ≡ true
      → MeansSignal m c n
  meant n part fine known = signal_meant m c n fine.placed known

  -- ---- scopes

  abbrev IsFound : NameAt ℕ → Type 0
  IsFound n = is_some (signal_at c n.name) ≡ true

  found_by : (n : NameAt Name) (part : StatementPart Name) → FinePart part
      → is_some (signal_named c n.name) ≡ true → IsFound (resolved_name (signal_place c) n)
  found_by n part fine known =
      let q = meant n.name part fine known in
      ap (λ k. is_some (signal_at c k)) q.place ∙ ap is_some q.found

  all_found_by : (names : List (NameAt Name)) (part : StatementPart Name) → FinePart part → AllKnown c names
      → AllByRecursion IsFound (map (resolved_name (signal_place c)) names)
  all_found_by names part fine known = all_of_map IsFound (resolved_name (signal_place c)) names
      (all_weaker _ _ (λ n. found_by n part fine) names known)

  written_found : (part : StatementPart Name) → FinePart part → AllByRecursion IsFound
      (signals_written (resolved_in parts c part))
  written_found (Test x) fine = tt
  written_found (Times n) fine = tt
  written_found (Emission n x) fine = all_found_by (n ∷ []) (Emission n x) fine
      (written_known (Emission n x) fine)
  written_found (Locals signals) fine = tt
  written_found (Exit t) fine = tt
  written_found (Call callee written) fine =
      let run = run_of parts text m c callee written fine in
      all_of_map IsFound (λ (b : Binding ℕ). b.right) _
      (subst (AllByRecursion (λ (b : Binding ℕ). IsFound b.right)) (sym run.bindings_are)
      (all_of_map _ (λ (s : Signal). resolved_binding c callee.pos s (written_for written s)) _
      (all_weaker _ _ (λ s b. ap (λ k. is_some (signal_at c k)) b.right ∙ ap is_some b.found) _ run.bound)))
  written_found (Start a) fine = by a.signal (written_known (Start a) fine)
    where
      by : (o : Option (NameAt Name)) → AllKnown c (if_any o)
          → AllByRecursion IsFound (if_any (option_map (resolved_name (signal_place c)) o))
      by None known = tt
      by (Some n) known = all_found_by (n ∷ []) (Start a) fine known

  expressions_found : (part : StatementPart Name) → FinePart part
      → AllByRecursion IsFound (flat_map (λ (x : ExprAt ℕ). signals_read x.expr) (expressions_of
      (resolved_in parts c part)))
  expressions_found part fine =
      let xs = expressions_of part in
      let same = ap (flat_map (λ (x : ExprAt ℕ). signals_read x.expr)) (expressions_same parts c part)
      ∙ reads_same c xs in
      subst (AllByRecursion IsFound) (sym same) (all_found_by (flat_map (λ (x : ExprAt Name).
      signals_read x.expr) xs) part fine (read_known part fine))

  no_parameters : (part : StatementPart Name) → FinePart part
      → no_more (parameters_named (resolved_in parts c part)) ≡ true
  no_parameters part fine =
      ap (λ xs. no_more (flat_map (λ (x : ExprAt ℕ). parameters_read x.expr) xs)) (expressions_same parts c
      part) ∙ ap no_more (parameters_same c (expressions_of part))
      ∙ ap (λ ns. no_more (map (resolved_name (λ n. 0)) ns)) (none_taken part fine)

  -- the body that is started
  body_at : (a : AsyncNode Name) → FinePart (Start a)
      → (s : Signature) × ((signature_named parts a.body.name ≡ Some s)
      × (slice_get (signatures_of parts) (body_place parts a.body.name) ≡ Some s))
  body_at a fine =
      let q = is_there (signature_named parts a.body.name)
      (all_known (λ n. is_some (signature_named parts n)) (a.body ∷ []) fine.bodies).0 in (
        q.0,
        (
          q.1,
          stands_at (λ (s : Signature). s.name) (signatures_of parts) a.body.name q.0
              (place_found (λ (s : Signature). s.name) 0 (signatures_of parts) a.body.name q.0 q.1),
        ),
      )

  refers_to : (part : StatementPart Name) → FinePart part
      → refers (known_in parts m) c (resolved_in parts c part) ≡ true
  refers_to (Test x) fine = refl
  refers_to (Times n) fine = refl
  refers_to (Emission n x) fine = refl
  refers_to (Locals signals) fine = refl
  refers_to (Exit t) fine = trap_found c t.name
      (all_known (λ n. is_some (trap_named c n)) (t ∷ []) fine.traps).0
  refers_to (Call callee written) fine = ap is_some (run_of parts text m c callee written fine).interface_at
  refers_to (Start a) fine = ap is_some (body_at a fine).1.1

  pub scopes_hold : (part : StatementPart Name) → FinePart part
      → is_in_scope (known_in parts m) (resolved_placed parts (at c part)) ≡ true
  scopes_hold part fine =
      let named = signals_named (resolved_in parts c part) in
      let found = all_tests (λ (n : NameAt ℕ). is_some (signal_at c n.name)) named
      (all_append IsFound (signals_written (resolved_in parts c part)) _ (written_found part fine)
      (expressions_found part fine)) in
      let taken = no_more (parameters_named (resolved_in parts c part)) in
      and_from (list_all (λ (n : NameAt ℕ). is_some (signal_at c n.name)) named && taken)
      (refers (known_in parts m) c (resolved_in parts c part))
      (and_from (list_all (λ (n : NameAt ℕ). is_some (signal_at c n.name)) named) taken found
      (no_parameters part fine)) (refers_to part fine)

  -- ---- limits

  counts_same : (part : StatementPart Name) → FinePart part
      → linked.counts (resolved_in parts c part) ≡ true
  counts_same (Test x) fine = refl
  counts_same (Times n) fine = (and_parts _ true fine.written).0
  counts_same (Emission n x) fine = refl
  counts_same (Locals signals) fine = refl
  counts_same (Exit t) fine = refl
  counts_same (Call callee written) fine = refl
  counts_same (Start a) fine = refl

  pub limits_hold : (part : StatementPart Name) → FinePart part → is_limited (resolved_in parts c part) ≡ true
  limits_hold part fine =
      and_from (linked.counts (resolved_in parts c part)) (list_all linked.is_small
      (expressions_of (resolved_in parts c part))) (counts_same part fine)
      (ap (list_all linked.is_small) (expressions_same parts c part)
      ∙ all_small c (expressions_of part) (and_parts (counts_within part) (list_all fits_expression
      (expressions_of part)) fine.written).1)

  -- ---- names

  pub locals_hold : (part : StatementPart Name) → FinePart part
      → locals_differ (resolved_in parts c part) ≡ true
  locals_hold (Test x) fine = refl
  locals_hold (Times n) fine = refl
  locals_hold (Emission n x) fine = refl
  locals_hold (Locals signals) fine = ap linked.names_differ (sym (names signals))
      ∙ no_name_twice (map row.name_of_signal signals) fine.once
    where
      names : (ss : List SignalNode) → map (λ (n : NameAt Name). n.name) (map row.name_of_signal ss) ≡ map
          (λ (s : SignalNode). s.name) ss
      names [] = refl
      names (s ∷ ss) = ap (λ ns. s.name ∷ ns) (names ss)
  locals_hold (Exit t) fine = refl
  locals_hold (Call callee written) fine = refl
  locals_hold (Start a) fine = refl

  -- ---- inputs

  emits_by : (n : NameAt Name) (part : StatementPart Name) → FinePart part
      → is_some (signal_named c n.name) ≡ true
      → here_if (is_in (signal_named c n.name)) n.pos ≡ []
      → emits_in_scope c (signal_place c n.name) ≡ true
  emits_by n part fine known e =
      let q = meant n.name part fine known in
      ap (λ k. emits_in_scope c k) q.place ∙ ap linked.may_emit q.found
      ∙ not_from_false (is_input q.signal.dir) (ap is_in (sym q.named)
      ∙ nothing_here (is_in (signal_named c n.name)) n.pos e)

  abbrev bindings_of : NameAt Name → List (Binding Name) → List (Binding ℕ)
  bindings_of callee written = resolved_bindings c callee.pos written (module_named parts callee.name)

  -- what holds of each signal of an interface and what it is bound to
  bound_interface : (test : Binding ℕ → InterfaceNode → Bool) (callee : NameAt Name)
      (written : List (Binding Name)) → RunOf parts m c callee written
      → ((s : Signal) (b : Binding ℕ) → Bound m c s b
      → test b (record { dir = s.dir; signal = s.signal }) ≡ true)
      → each_bound test (bindings_of callee written) (slice_get (interfaces_of parts)
      (or_first (module_place parts callee.name))) ≡ true
  bound_interface test callee written run f =
      (λ i. each_bound test (run.bindings_are i) (run.interface_at i))
      ∙ each_of_interface test (λ (s : Signal). resolved_binding c callee.pos s (written_for written s)) 0
      run.module_run.interface
      (all_weaker _ _ (λ s b. f s _ b) (interface_signals run.module_run.interface) run.bound)

  pub inputs_hold : (part : StatementPart Name) → FinePart part
      → no_input_emitted (known_in parts m) c (resolved_in parts c part) ≡ true
  inputs_hold (Test x) fine = refl
  inputs_hold (Times n) fine = refl
  inputs_hold (Emission n x) fine =
      emits_by n (Emission n x) fine (written_known (Emission n x) fine).0
      (append_empty _ [] (append_empty _ [] fine.inputs).0).0
  inputs_hold (Locals signals) fine = refl
  inputs_hold (Exit t) fine = refl
  inputs_hold (Call callee written) fine =
      bound_interface (λ b d. is_input d.dir || emits_in_scope c b.right.name) callee written
      (run_of parts text m c callee written fine)
      (λ s b bound. ap (λ e. is_input s.dir || e) (ap (emits_in_scope c) bound.right
      ∙ ap linked.may_emit bound.found) ∙ bound.emits)
  inputs_hold (Start a) fine = by a.signal (written_known (Start a) fine) fine.inputs
    where
      by : (o : Option (NameAt Name)) → AllKnown c (if_any o)
          → flat_map (λ (n : NameAt Name). here_if (is_in (signal_named c n.name)) n.pos)
          (elim o as (λ x. List (NameAt Name)) [ None ↦ [] | Some n ↦ n ∷ [] ]) ++ [] ≡ []
          → linked.result_emits c (option_map (resolved_name (signal_place c)) o) ≡ true
      by None known e = refl
      by (Some n) known e = emits_by n (Start a) fine known.0
          (append_empty _ [] (append_empty _ [] e).0).0

  -- ---- bindings

  pub bindings_hold : (part : StatementPart Name) → FinePart part
      → binds_interface (known_in parts m) (resolved_in parts c part) ≡ true
  bindings_hold (Test x) fine = refl
  bindings_hold (Times n) fine = refl
  bindings_hold (Emission n x) fine = refl
  bindings_hold (Locals signals) fine = refl
  bindings_hold (Exit t) fine = refl
  bindings_hold (Call callee written) fine =
      let run = run_of parts text m c callee written fine in
      and_from (places_from 0 (bindings_of callee written))
      (each_bound (λ b d. true) (bindings_of callee written) (slice_get (interfaces_of parts)
      (or_first (module_place parts callee.name))))
      (ap (places_from 0) run.bindings_are
      ∙ places_of_interface (λ (s : Signal). resolved_binding c callee.pos s (written_for written s)) 0
      run.module_run.interface
      (all_weaker _ _ (λ s b. b.left) (interface_signals run.module_run.interface) run.bound))
      (bound_interface (λ b d. true) callee written run (λ s b bound. refl))
  bindings_hold (Start a) fine = refl

  -- ---- kinds

  kind_of_name : (n : NameAt Name) (part : StatementPart Name) → FinePart part
      → is_some (signal_named c n.name) ≡ true
      → (k : Kind) × ((kinds_in c n.name ≡ Some k) × (slice_get (kinds_of m) (signal_place c n.name) ≡ Some k))
  kind_of_name n part fine known =
      let q = meant n.name part fine known in
      (q.signal.signal.kind, kind_meant m c n.name q)

  fits_here : (k : Kind) (x : ExprAt Name) → IsPlaced (signals_of m) c → AllKnown c (signals_read x.expr)
      → parameters_read x.expr ≡ [] → wrong_for (kinds_in c) no_kinds k x ≡ []
      → has_kind (kinds_of m) [] k (resolved c x) ≡ true
  fits_here k x placed known taken e = expression_fits m c k x placed known taken e

  wrong_anyway : (ps : List Pos) (p : Pos) → wrong_value ps p ≡ [] → ⊥
  wrong_anyway [] p e = nothing_first p [] e
  wrong_anyway (q ∷ qs) p e = nothing_first q qs e

  -- the value of a signal, which is one expression
  only : (k : Kind) (x : ExprAt Name) → IsPlaced (signals_of m) c
      → AllKnown c (flat_map (λ (x : ExprAt Name). signals_read x.expr) (x ∷ []))
      → flat_map (λ (x : ExprAt Name). parameters_read x.expr) (x ∷ []) ≡ []
      → wrong_for (kinds_in c) no_kinds k x ≡ [] → has_kind (kinds_of m) [] k (resolved c x) ≡ true
  only k x placed known taken e = fits_here k x placed (all_split _ (signals_read x.expr) [] known).0
      (append_empty (parameters_read x.expr) [] taken).0 e

  valued : (k : Kind) (n : NameAt Name) (value : Option (ExprAt Name)) → IsPlaced (signals_of m) c
      → AllKnown c (flat_map (λ (x : ExprAt Name). signals_read x.expr) (if_any value))
      → flat_map (λ (x : ExprAt Name). parameters_read x.expr) (if_any value) ≡ []
      → row.wrong_emission (kinds_in c) n (Some k) value ≡ []
      → linked.emission_fits (kinds_of m) (Some k) (option_map (resolved c) value) ≡ true
  valued kind.Pure n None placed known taken e = refl
  valued kind.Pure n (Some x) placed known taken e = absurd (wrong_anyway _ x.pos e)
  valued kind.Int n None placed known taken e = absurd (nothing_first n.pos [] e)
  valued kind.Int n (Some x) placed known taken e = only kind.Int x placed known taken e
  valued kind.Bool n None placed known taken e = absurd (nothing_first n.pos [] e)
  valued kind.Bool n (Some x) placed known taken e = only kind.Bool x placed known taken e
  valued kind.Text n None placed known taken e = absurd (nothing_first n.pos [] e)
  valued kind.Text n (Some x) placed known taken e = only kind.Text x placed known taken e

  arguments : (call : Pos) (ks : List Kind) (xs : List (ExprAt Name)) → IsPlaced (signals_of m) c
      → AllKnown c (flat_map (λ (x : ExprAt Name). signals_read x.expr) xs)
      → flat_map (λ (x : ExprAt Name). parameters_read x.expr) xs ≡ []
      → row.wrong_arguments (kinds_in c) call ks xs ≡ []
      → linked.arguments_fit (kinds_of m) ks (map (resolved c) xs) ≡ true
  arguments call [] [] placed known taken e = refl
  arguments call [] (x ∷ xs) placed known taken e = absurd (nothing_first call _ e)
  arguments call (k ∷ ks) [] placed known taken e = absurd (nothing_first call _ e)
  arguments call (k ∷ ks) (x ∷ xs) placed known taken e =
      let reads = all_split _ (signals_read x.expr) (flat_map (λ (x : ExprAt Name). signals_read x.expr) xs)
      known in
      let takes = append_empty (parameters_read x.expr) (flat_map (λ (x : ExprAt Name).
      parameters_read x.expr) xs) taken in
      let wrong = append_empty (wrong_for (kinds_in c) no_kinds k x) (row.wrong_arguments (kinds_in c) call ks
      xs) e in
      and_from (has_kind (kinds_of m) [] k (resolved c x)) (linked.arguments_fit (kinds_of m) ks
      (map (resolved c) xs)) (fits_here k x placed reads.0 takes.0 wrong.0)
      (arguments call ks xs placed reads.1 takes.1 wrong.1)

  result : (part : StatementPart Name) → FinePart part → (answer : Kind) (o : Option (NameAt Name))
      → AllKnown c (if_any o) → row.wrong_result (kinds_in c) answer o ≡ []
      → linked.result_fits (kinds_of m) answer (option_map (resolved_name (signal_place c)) o) ≡ true
  result part fine answer None known e = refl
  result part fine answer (Some n) known e =
      let q = kind_of_name n part fine known.0 in
      ap (is_kind answer) q.1.1 ∙ true_from_not (is_kind answer (Some q.0))
      (ap (λ o. is_some o && not (is_kind answer o)) (sym q.1.0) ∙ nothing_here _ n.pos e)

  list_fits : (ss : List SignalNode) → flat_map row.wrong_signal ss ≡ [] → list_all sig_fits ss ≡ true
  list_fits ss e = all_tests sig_fits ss (all_weaker _ _ (λ s x. true_from_not (sig_fits s)
      (nothing_here (not (sig_fits s)) s.pos x)) ss (flat_map_empty row.wrong_signal ss e))

  pub kinds_hold : (part : StatementPart Name) → FinePart part
      → kinds_fit (known_in parts m) (resolved_in parts c part) ≡ true
  kinds_hold (Test x) fine =
      fits_here kind.Bool x fine.placed
      (all_split _ (signals_read x.expr) [] (read_known (Test x) fine)).0
      (append_empty (parameters_read x.expr) [] (none_taken (Test x) fine)).0 fine.kinds
  kinds_hold (Times n) fine = refl
  kinds_hold (Emission n value) fine =
      let q = kind_of_name n (Emission n value) fine (written_known (Emission n value) fine).0 in
      ap (λ o. linked.emission_fits (kinds_of m) o (option_map (resolved c) value)) q.1.1
      ∙ valued q.0 n value fine.placed (read_known (Emission n value) fine)
      (none_taken (Emission n value) fine)
      (ap (λ o. row.wrong_emission (kinds_in c) n o value) (sym q.1.0) ∙ fine.kinds)
  kinds_hold (Locals signals) fine = list_fits signals fine.kinds
  kinds_hold (Exit t) fine = refl
  kinds_hold (Call callee written) fine =
      bound_interface (λ b d. is_kind d.signal.kind (slice_get (kinds_of m) b.right.name)) callee written
      (run_of parts text m c callee written fine)
      (λ s b bound. ap (is_kind s.signal.kind) (ap (slice_get (kinds_of m)) bound.right
      ∙ kind_at m bound.signal bound.there) ∙ bound.kinds)
  kinds_hold (Start a) fine =
      let q = body_at a fine in
      let wrong = append_empty (row.wrong_arguments (kinds_in c) a.body.pos q.0.parameters a.args)
      (row.wrong_result (kinds_in c) q.0.answer a.signal)
      (ap (row.wrong_start (kinds_in c) a) (sym q.1.0) ∙ fine.kinds) in
      ap (linked.start_fits (kinds_of m) (resolved_async parts c a)) q.1.1
      ∙ and_from (linked.arguments_fit (kinds_of m) q.0.parameters (map (resolved c) a.args))
      (linked.result_fits (kinds_of m) q.0.answer (option_map (resolved_name (signal_place c)) a.signal))
      (arguments a.body.pos q.0.parameters a.args fine.placed (read_known (Start a) fine)
      (none_taken (Start a) fine) wrong.0)
      (result (Start a) fine q.0.answer a.signal (written_known (Start a) fine) wrong.1)
