-- The runs of a text without faults are those of its resolved tree, and none of them lies on a cycle.
use Rattle.std.proofs.Common.{◌≡◌, ℕ, zero, suc, ◌+◌, ◌<◌, Bool, true, false, List, [], ◌∷◌, ◌++◌, map, length}
use Rattle.std.proofs.Common.{Option, Some, None, inl, inr, refl, sym, ap, ◌∙◌, arith}
use Rattle.std.specs.Prelude.{◌==◌, cond, slice_get}
use Rattle.std.specs.Str.{bytes_eq}
use Rattle.std.specs.List.{AllByRecursion, Contains, cons_option, flat_map, filter_map}
use Rattle.std.proofs.lemmas.Bool.{or_cases, eqb-true}
use Rattle.std.proofs.lemmas.List.{length-map}
use Rattle.std.proofs.lemmas.List.Elements.{filter_map-append}
use Rattle.module_tree.specs.declared.source.NameAt.{NameAt}
use Rattle.module_tree.specs.declared.source.ModuleNode.{ModuleNode}
use Rattle.module_tree.specs.Scopes.{InScope}
use Rattle.module_tree.specs.Parts.{StatementPart, Test, Times, Emission, Locals, Exit, Call, Start, Placed}
use Rattle.module_tree.specs.Parts.{parts_of}
use Rattle.module_tree.specs.Callables.{modules_of}
use Rattle.module_tree.specs.Runs.{callee_of, callees_of, runs_of, or_none, is_among}
use Rattle.run_graph.specs.Reach.{InRange}
use Rattle.run_graph.specs.Components.{HasNoCycle}
use Rattle.link_faults.specs.declared.fault.LinkKind.TheVariants as fault
use Rattle.link_faults.specs.Named.{Name, place_from}
use Rattle.link_faults.specs.Rows.{Program, called, module_place, runs_in, source_runs}
use Rattle.link_faults.specs.FirstFault.{IsFaultless}
use Rattle.module_link.specs.Resolved.{resolved_parts, resolved_module, or_first}
use Rattle.module_link.proofs.ResolvedParts.{resolved_in, resolved_placed, parts_resolved}
use Rattle.module_link.proofs.SameDeclarations.{modules_resolved}
use Rattle.module_link.proofs.Faultless.{Fine, FineText}
use Rattle.module_link.proofs.Distinct.{place_found}
use Rattle.module_link.proofs.RunParts.{run_of}

abbrev meant : Program → NameAt Name → Option ℕ
meant parts n = module_place parts n.name

-- ---- one part

only_run : (o : Option ℕ) (k : ℕ) → o ≡ Some k → (n : NameAt Name) (f : NameAt Name → Option ℕ) → f n ≡ o
    → or_first o ∷ [] ≡ filter_map f (n ∷ [])
only_run o k e n f same =
    ap (λ (p : Option ℕ). or_first p ∷ []) e ∙ sym (filtered (f n) (same ∙ e))
  where
    filtered : (p : Option ℕ) → p ≡ Some k → cons_option p [] ≡ k ∷ []
    filtered p e = ap (λ (q : Option ℕ). cons_option q []) e

same_callee : (parts : Program) → FineText parts → (m : ModuleNode Name) (c : InScope)
    (part : StatementPart Name) → Fine parts m (record { scope = c; part = part })
    → callee_of (resolved_in parts c part) ≡ filter_map (meant parts) (called part)
same_callee parts text m c (Test x) fine = refl
same_callee parts text m c (Times n) fine = refl
same_callee parts text m c (Emission n x) fine = refl
same_callee parts text m c (Locals signals) fine = refl
same_callee parts text m c (Exit t) fine = refl
same_callee parts text m c (Call callee written) fine =
    let run = run_of parts text m c callee written fine in
    let q = place_found (λ (n : ModuleNode Name). n.name) 0 (modules_of parts) callee.name run.module_run
    run.named in
    only_run (module_place parts callee.name) (0 + q.index) q.place_is callee (meant parts) refl
same_callee parts text m c (Start a) fine = refl

-- ---- one module

same_callees : (parts : Program) → FineText parts → (m : ModuleNode Name) (ps : List (Placed Name))
    → AllByRecursion (Fine parts m) ps
    → flat_map (λ (p : Placed ℕ). callee_of p.part) (map (resolved_placed parts) ps)
    ≡ filter_map (meant parts) (flat_map (λ (p : Placed Name). called p.part) ps)
same_callees parts text m [] fine = refl
same_callees parts text m (p ∷ ps) fine =
    (λ i. same_callee parts text m p.scope p.part fine.0 i ++ same_callees parts text m ps fine.1 i)
    ∙ sym (filter_map-append (meant parts) (called p.part)
    (flat_map (λ (p : Placed Name). called p.part) ps))

same_rows : (parts : Program) → FineText parts → (ms : List (ModuleNode Name))
    → AllByRecursion (λ (m : ModuleNode Name). AllByRecursion (Fine parts m) (parts_of m)) ms
    → map callees_of (map (resolved_module parts) ms) ≡ map (λ (m : ModuleNode Name).
    filter_map (meant parts) (runs_in m)) ms
same_rows parts text [] fine = refl
same_rows parts text (m ∷ ms) fine =
    let row = ap (flat_map (λ (p : Placed ℕ). callee_of p.part)) (parts_resolved parts m)
    ∙ same_callees parts text m (parts_of m) fine.0 in
    λ i. row i ∷ same_rows parts text ms fine.1 i

pub same_runs : (parts : Program) → FineText parts → runs_of (resolved_parts parts) ≡ source_runs parts
same_runs parts text = ap (map callees_of) (modules_resolved parts parts)
    ∙ same_rows parts text (modules_of parts) text.each

-- ---- cycles

-- a module among those that are meant by runs is meant by one of them
record MeantBy (parts : Program) (runs : List (NameAt Name)) (n : ℕ) : Type 0 where
  run : NameAt Name
  written : Contains runs run
  means : meant parts run ≡ Some n

meant_by : (parts : Program) (runs : List (NameAt Name)) (n : ℕ)
    → is_among (filter_map (meant parts) runs) n ≡ true → MeantBy parts runs n
meant_by parts [] n e = absurd (wrong e)
  where
    wrong : false ≡ true → ⊥
    wrong e = cc
meant_by parts (r ∷ rs) n e = by (meant_by parts rs n) (meant parts r) refl e
  where
    later : MeantBy parts rs n → MeantBy parts (r ∷ rs) n
    later q = record {
      run = q.run;
      written = (suc q.written.0, omega (arith, q.written.1), q.written.2);
      means = q.means;
    }

    by : (is_among (filter_map (meant parts) rs) n ≡ true → MeantBy parts rs n) → (o : Option ℕ)
        → meant parts r ≡ o → is_among (cons_option o (filter_map (meant parts) rs)) n ≡ true
        → MeantBy parts (r ∷ rs) n
    by others None is e = later (others e)
    by others (Some k) is e = elim (or_cases (k == n) (is_among (filter_map (meant parts) rs) n) e) [
      | inl same ↦ record {
        run = r;
        written = (0, omega arith, refl);
        means = is ∙ ap Some (eqb-true k n same);
      }
      | inr among ↦ later (others among)
    ]

held_by : (parts : Program) (ms : List (ModuleNode Name)) (m n : ℕ)
    → is_among (or_none (slice_get (map (λ (m : ModuleNode Name). filter_map (meant parts) (runs_in m)) ms) m))
    n ≡ true → (holder : ModuleNode Name) × ((slice_get ms m ≡ Some holder)
    × (is_among (filter_map (meant parts) (runs_in holder)) n ≡ true))
held_by parts [] m n e = absurd (wrong e)
  where
    wrong : false ≡ true → ⊥
    wrong e = cc
held_by parts (x ∷ xs) zero n e = (x, (refl, e))
held_by parts (x ∷ xs) (suc m) n e = held_by parts xs m n e

pub no_cycle : (parts : Program) → IsFaultless parts → HasNoCycle (source_runs parts)
no_cycle parts faultless m n runs reaches =
    let q = held_by parts (modules_of parts) m n runs in
    let r = meant_by parts (runs_in q.0) n q.1.1 in
    faultless fault.RunCycle r.run.pos (record {
      caller = m;
      holder = q.0;
      run = r.run;
      callee = n;
      held = q.1.0;
      written = r.written;
      meant = r.means;
      reaches = reaches;
      place = refl;
    })

-- ---- places

place_within : (n k : ℕ) (ns : List Name) (name : Name) → place_from n ns name ≡ Some k → k < n + length ns
place_within n k [] name e = absurd (wrong e)
  where
    wrong : None ≡ Some k → ⊥
    wrong e = cc
place_within n k (m ∷ ms) name e = by (place_within (n + 1) k ms name) (bytes_eq m name) e
  where
    by : (place_from (n + 1) ms name ≡ Some k → k < (n + 1) + length ms) → (b : Bool)
        → cond b (Some n) (place_from (n + 1) ms name) ≡ Some k → k < n + length (m ∷ ms)
    by others true e =
        let same : n ≡ k = cc in
        omega arith
    by others false e =
        let h = others e in
        omega (arith, h)

pub in_range : (parts : Program) → InRange (source_runs parts)
in_range parts m n runs =
    let q = held_by parts (modules_of parts) m n runs in
    let r = meant_by parts (runs_in q.0) n q.1.1 in
    let names = map (λ (m : ModuleNode Name). m.name) (modules_of parts) in
    let within = place_within 0 n names r.run.name r.means in
    let same = length-map (modules_of parts) (λ (m : ModuleNode Name). m.name) in
    let rows = length-map (modules_of parts) (λ (m : ModuleNode Name). filter_map
    (λ (n : NameAt Name). module_place parts n.name) (runs_in m)) in
    omega (arith, within, same, rows)
