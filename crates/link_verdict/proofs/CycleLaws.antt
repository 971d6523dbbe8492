-- The runs on a cycle by the roots of modules are those of the text.
use Rattle.std.proofs.Common.{◌≡◌, ℕ, ◌+◌, ◌<◌, ◌⊎◌, inl, inr, Bool, true, false, cond, Option, Some, None, List, []}
use Rattle.std.proofs.Common.{◌∷◌, ◌++◌, length, map, take, get_or, zero, suc, refl, sym, ◌∙◌, ap, subst, arith, append_assoc}
use Rattle.std.specs.Prelude.{slice_get}
use Rattle.std.specs.List.{Contains, flat_map, filter_map, cons_option}
use Rattle.std.specs.Str.{bytes_eq}
use Rattle.std.proofs.lemmas.List.{length-map, length-take, take_more}
use Rattle.std.proofs.lemmas.List.Elements.{Contains-append_left, Contains-append_right, Contains-append_cases}
use Rattle.std.proofs.lemmas.List.Elements.{Contains-push_cases}
use Rattle.hh_base.specs.declared.value.Pos.{Pos}
use Rattle.module_tree.specs.declared.source.NameAt.{NameAt}
use Rattle.module_tree.specs.declared.source.ModuleNode.{ModuleNode}
use Rattle.module_tree.specs.Parts.{Placed, parts_of}
use Rattle.module_tree.specs.Callables.{modules_of}
use Rattle.module_tree.specs.Runs.{is_among, or_none}
use Rattle.run_graph.specs.Reach.{Runs, InRange}
use Rattle.run_graph.specs.Flood.{root_of}
use Rattle.run_graph.specs.Components.{ShowCycles}
use Rattle.run_graph.proofs.Members.{among_cases, among_head, among_tail}
use Rattle.link_faults.specs.declared.fault.LinkKind.TheVariants as fault
use Rattle.link_faults.specs.declared.fault.LinkFault.{LinkFault}
use Rattle.link_faults.specs.declared.walk.RunAt.{RunAt}
use Rattle.link_faults.specs.Faults.{earlier}
use Rattle.link_faults.specs.Earliest.{first_at, first_by}
use Rattle.link_faults.specs.Named.{Name, place_from}
use Rattle.link_faults.specs.Rows.{Program, here_if, called, module_place, runs_in, source_runs}
use Rattle.link_faults.specs.FirstFault.{RunsInCycle}
use Rattle.link_faults.specs.Walks.{run_to, cons_run, runs_among, runs_placed}
use Rattle.link_faults.proofs.EarlierLaws.{earlier_none, earlier_grouped, first_at_joined, first_at_each}
use Rattle.link_faults.proofs.VerdictLaw.{is_first_one, is_later_one}
use Rattle.link_verdict.specs.Declarations.{placed_runs}
use Rattle.link_verdict.specs.Cycles.{callees, AreCycles, IsFirstCycle, is_one_root, is_on_cycle, first_of_run}
use Rattle.link_verdict.specs.Cycles.{first_from}

-- ---- elements of lists

none_in : {A : Type 0} (x : A) → Contains [] x → ⊥
none_in x h = omega (arith, h.1)

in_cons : {A : Type 0} (x : A) (xs : List A) (y : A) → Contains (x ∷ xs) y → (x ≡ y) ⊎ Contains xs y
in_cons {A} x xs y h = by (Contains-append_cases (x ∷ []) xs y h)
  where
    only : Contains {X = A} [] y ⊎ (x ≡ y) → (x ≡ y) ⊎ Contains xs y
    only (inl h) = absurd (none_in y h)
    only (inr e) = inl e

    by : Contains (x ∷ []) y ⊎ Contains xs y → (x ≡ y) ⊎ Contains xs y
    by (inl h) = only (Contains-push_cases [] x y h)
    by (inr h) = inr h

in_flat_map : {A B : Type 0} (f : A → List B) (xs : List A) (y : B) → Contains (flat_map f xs) y
    → (x : A) × Contains xs x × Contains (f x) y
in_flat_map f [] y h = absurd (none_in y h)
in_flat_map {A} {B} f (x ∷ xs) y h = by (Contains-append_cases (f x) (flat_map f xs) y h)
    (λ h. in_flat_map f xs y h)
  where
    by : Contains (f x) y ⊎ Contains (flat_map f xs) y
        → (Contains (flat_map f xs) y → (z : A) × Contains xs z × Contains (f z) y)
        → (z : A) × Contains (x ∷ xs) z × Contains (f z) y
    by (inl h) rest = (x, is_first_one x xs x refl, h)
    by (inr h) rest =
        let later = rest h in
        (later.0, is_later_one x xs later.0 later.1, later.2)

to_flat_map : {A B : Type 0} (f : A → List B) (xs : List A) (x : A) (y : B) → Contains xs x → Contains (f x) y
    → Contains (flat_map f xs) y
to_flat_map f [] x y at h = absurd (none_in x at)
to_flat_map {A} {B} f (z ∷ xs) x y at h = by (in_cons z xs x at) (λ at. to_flat_map f xs x y at h)
  where
    by : (z ≡ x) ⊎ Contains xs x → (Contains xs x → Contains (flat_map f xs) y) → Contains (flat_map f (z ∷ xs)) y
    by (inl e) rest = Contains-append_left (f z) (flat_map f xs) y (subst (λ x. Contains (f x) y) (sym e) h)
    by (inr at) rest = Contains-append_right (f z) (flat_map f xs) y (rest at)

held_mapped : {A B : Type 0} (f : A → B) (xs : List A) (i : ℕ) (y : B) → slice_get (map f xs) i ≡ Some y
    → (x : A) × (slice_get xs i ≡ Some x) × (f x ≡ y)
held_mapped f [] i y e = cc
held_mapped f (x ∷ xs) zero y e = (x, refl, cc)
held_mapped f (x ∷ xs) (suc i) y e = held_mapped f xs i y e

to_mapped : {A B : Type 0} (f : A → B) (xs : List A) (i : ℕ) (x : A) → slice_get xs i ≡ Some x
    → slice_get (map f xs) i ≡ Some (f x)
to_mapped f [] i x e = cc
to_mapped {A} {B} f (z ∷ xs) zero x e =
    let same : z ≡ x = cc in
    ap (λ (w : A). Some (f w)) same
to_mapped f (z ∷ xs) (suc i) x e = to_mapped f xs i x e

among_in : (ms : List ℕ) (m : ℕ) → is_among ms m ≡ true → Contains ms m
among_in [] m e = cc
among_in (w ∷ ws) m e = by (among_cases w ws m e) (λ e. among_in ws m e)
  where
    by : (w ≡ m) ⊎ (is_among ws m ≡ true) → (is_among ws m ≡ true → Contains ws m) → Contains (w ∷ ws) m
    by (inl e) rest = is_first_one w ws m e
    by (inr e) rest = is_later_one w ws m (rest e)

in_among : (ms : List ℕ) (m : ℕ) → Contains ms m → is_among ms m ≡ true
in_among [] m h = absurd (none_in m h)
in_among (w ∷ ws) m h = by (in_cons w ws m h) (λ h. in_among ws m h)
  where
    by : (w ≡ m) ⊎ Contains ws m → (Contains ws m → is_among ws m ≡ true) → is_among (w ∷ ws) m ≡ true
    by (inl e) rest = subst (λ n. is_among (w ∷ ws) n ≡ true) e (among_head w ws)
    by (inr h) rest = among_tail w ws m (rest h)

-- ---- the runs of a module

among_joined : (parts : Program) (ns ms : List (NameAt Name))
    → runs_among parts (ns ++ ms) ≡ runs_among parts ns ++ runs_among parts ms
among_joined parts [] ms = refl
among_joined parts (n ∷ ns) ms = ap (λ rs. cons_run n (module_place parts n.name) ++ rs) (among_joined parts ns ms)
    ∙ sym (append_assoc (cons_run n (module_place parts n.name)) (runs_among parts ns) (runs_among parts ms))

placed_among : (parts : Program) (ps : List (Placed Name)) → flat_map (runs_placed parts) ps
    ≡ runs_among parts (flat_map (λ (p : Placed Name). called p.part) ps)
placed_among parts [] = refl
placed_among parts (p ∷ ps) = ap (λ rs. runs_among parts (called p.part) ++ rs) (placed_among parts ps)
    ∙ sym (among_joined parts (called p.part) (flat_map (λ (p : Placed Name). called p.part) ps))

-- a run of a module by its name
record IsRunOf (parts : Program) (ns : List (NameAt Name)) (r : RunAt) : Type 0 where
  name : NameAt Name
  written : Contains ns name
  meant : module_place parts name.name ≡ Some r.callee
  place : name.pos ≡ r.pos

one_run : (parts : Program) (n : NameAt Name) (r : RunAt) (o : Option ℕ) → module_place parts n.name ≡ o
    → Contains (cons_run n o) r → IsRunOf parts (n ∷ []) r
one_run parts n r None e h = absurd (none_in r h)
one_run parts n r (Some p) e h = by (in_cons (run_to n p) [] r h)
  where
    by : (run_to n p ≡ r) ⊎ Contains [] r → IsRunOf parts (n ∷ []) r
    by (inl is) = record {
      name = n;
      written = is_first_one n [] n refl;
      meant = e ∙ ap (λ (s : RunAt). Some s.callee) is;
      place = ap (λ (s : RunAt). s.pos) is;
    }
    by (inr h) = absurd (none_in r h)

in_among_runs : (parts : Program) (ns : List (NameAt Name)) (r : RunAt) → Contains (runs_among parts ns) r
    → IsRunOf parts ns r
in_among_runs parts [] r h = absurd (none_in r h)
in_among_runs parts (n ∷ ns) r h =
    by (Contains-append_cases (cons_run n (module_place parts n.name)) (runs_among parts ns) r h)
    (λ h. in_among_runs parts ns r h)
  where
    later : IsRunOf parts ns r → IsRunOf parts (n ∷ ns) r
    later f = record {
      name = f.name;
      written = is_later_one n ns f.name f.written;
      meant = f.meant;
      place = f.place;
    }

    here : IsRunOf parts (n ∷ []) r → IsRunOf parts (n ∷ ns) r
    here f = record {
      name = f.name;
      written = Contains-append_left (n ∷ []) ns f.name f.written;
      meant = f.meant;
      place = f.place;
    }

    by : Contains (cons_run n (module_place parts n.name)) r ⊎ Contains (runs_among parts ns) r
        → (Contains (runs_among parts ns) r → IsRunOf parts ns r) → IsRunOf parts (n ∷ ns) r
    by (inl h) rest = here (one_run parts n r (module_place parts n.name) refl h)
    by (inr h) rest = later (rest h)

to_among_runs : (parts : Program) (ns : List (NameAt Name)) (n : NameAt Name) (p : ℕ) → Contains ns n
    → module_place parts n.name ≡ Some p → Contains (runs_among parts ns) (run_to n p)
to_among_runs parts [] n p h e = absurd (none_in n h)
to_among_runs parts (m ∷ ns) n p h e = by (in_cons m ns n h) (λ h. to_among_runs parts ns n p h e)
  where
    by : (m ≡ n) ⊎ Contains ns n → (Contains ns n → Contains (runs_among parts ns) (run_to n p))
        → Contains (runs_among parts (m ∷ ns)) (run_to n p)
    by (inl same) rest = Contains-append_left (cons_run m (module_place parts m.name)) (runs_among parts ns) (run_to n p)
        (subst (λ o. Contains (cons_run m o) (run_to n p)) (sym (ap (λ (k : NameAt Name). module_place parts k.name) same ∙ e))
        (is_first_one (run_to m p) [] (run_to n p) (ap (λ (k : NameAt Name). run_to k p) same)))
    by (inr h) rest = Contains-append_right (cons_run m (module_place parts m.name)) (runs_among parts ns)
        (run_to n p) (rest h)

-- ---- the graph of runs

callees_among : (parts : Program) (ns : List (NameAt Name)) → callees (runs_among parts ns)
    ≡ filter_map (λ (n : NameAt Name). module_place parts n.name) ns
callees_among parts [] = refl
callees_among parts (n ∷ ns) = by (module_place parts n.name)
    ∙ ap (cons_option (module_place parts n.name)) (callees_among parts ns)
  where
    by : (o : Option ℕ) → callees (cons_run n o ++ runs_among parts ns)
        ≡ cons_option o (callees (runs_among parts ns))
    by None = refl
    by (Some p) = refl

callees_placed : (parts : Program) (m : ModuleNode Name) → callees (placed_runs parts m)
    ≡ filter_map (λ (n : NameAt Name). module_place parts n.name) (runs_in m)
callees_placed parts m = ap callees (placed_among parts (parts_of m)) ∙ callees_among parts (runs_in m)

same_graph : (parts : Program) (ms : List (ModuleNode Name)) → map callees (map (placed_runs parts) ms)
    ≡ map (λ (m : ModuleNode Name). filter_map (λ (n : NameAt Name). module_place parts n.name) (runs_in m)) ms
same_graph parts [] = refl
same_graph parts (m ∷ ms) = ap (λ cs. cs ∷ map callees (map (placed_runs parts) ms)) (callees_placed parts m)
    ∙ ap (λ css. filter_map (λ (n : NameAt Name). module_place parts n.name) (runs_in m) ∷ css) (same_graph parts ms)

to_filtered : (parts : Program) (ns : List (NameAt Name)) (n : NameAt Name) (p : ℕ) → Contains ns n
    → module_place parts n.name ≡ Some p
    → Contains (filter_map (λ (n : NameAt Name). module_place parts n.name) ns) p
to_filtered parts ns n p h e = subst (λ ps. Contains ps p) (callees_among parts ns)
    (to_callees (runs_among parts ns) (run_to n p) (to_among_runs parts ns n p h e))
  where
    to_callees : (rs : List RunAt) (r : RunAt) → Contains rs r → Contains (callees rs) r.callee
    to_callees [] r h = absurd (none_in r h)
    to_callees (s ∷ rs) r h = by (in_cons s rs r h) (λ h. to_callees rs r h)
      where
        by : (s ≡ r) ⊎ Contains rs r → (Contains rs r → Contains (callees rs) r.callee)
            → Contains (callees (s ∷ rs)) r.callee
        by (inl e) rest = is_first_one s.callee (callees rs) r.callee (ap (λ (r : RunAt). r.callee) e)
        by (inr h) rest = is_later_one s.callee (callees rs) r.callee (rest h)

-- ---- positions

abbrev on_cycle : List (Option ℕ) → ℕ → RunAt → List Pos
on_cycle roots n r = here_if (is_on_cycle roots n r) r.pos

abbrev positions_from : List (Option ℕ) → ℕ → List (List RunAt) → List Pos
positions_from roots n [] = []
positions_from roots n (runs ∷ others) = flat_map (on_cycle roots n) runs ++ positions_from roots (n + 1) others

positions_first : (roots : List (Option ℕ)) (n : ℕ) (rss : List (List RunAt))
    → first_from roots n rss ≡ first_at fault.RunCycle (positions_from roots n rss)
positions_first roots n [] = refl
positions_first roots n (runs ∷ others) =
    ap (λ o. earlier o (first_from roots (n + 1) others)) (sym (first_at_each fault.RunCycle (on_cycle roots n) runs))
    ∙ ap (earlier (first_at fault.RunCycle (flat_map (on_cycle roots n) runs))) (positions_first roots (n + 1) others)
    ∙ sym (first_at_joined fault.RunCycle (flat_map (on_cycle roots n) runs) (positions_from roots (n + 1) others))

-- a run on a cycle, of the module at a place
record IsOnCycle (roots : List (Option ℕ)) (n : ℕ) (rss : List (List RunAt)) (p : Pos) : Type 0 where
  at : ℕ
  runs : List RunAt
  run : RunAt
  held : slice_get rss at ≡ Some runs
  written : Contains runs run
  cycle : is_on_cycle roots (n + at) run ≡ true
  place : run.pos ≡ p

in_here : (b : Bool) (q p : Pos) → Contains (here_if b q) p → (b ≡ true) × (q ≡ p)
in_here true q p h = by (in_cons q [] p h)
  where
    by : (q ≡ p) ⊎ Contains [] p → (true ≡ true) × (q ≡ p)
    by (inl e) = (refl, e)
    by (inr h) = absurd (none_in p h)
in_here false q p h = absurd (none_in p h)

in_positions : (roots : List (Option ℕ)) (n : ℕ) (rss : List (List RunAt)) (p : Pos)
    → Contains (positions_from roots n rss) p → IsOnCycle roots n rss p
in_positions roots n [] p h = absurd (none_in p h)
in_positions roots n (runs ∷ others) p h =
    by (Contains-append_cases (flat_map (on_cycle roots n) runs) (positions_from roots (n + 1) others) p h)
    (λ h. in_positions roots (n + 1) others p h)
  where
    first : ((r : RunAt) × Contains runs r × Contains (on_cycle roots n r) p) → IsOnCycle roots n (runs ∷ others) p
    first f =
        let here = in_here (is_on_cycle roots n f.0) f.0.pos p f.2 in
        record {
          at = 0;
          runs = runs;
          run = f.0;
          held = refl;
          written = f.1;
          cycle = subst (λ k. is_on_cycle roots k f.0 ≡ true) (omega arith) here.0;
          place = here.1;
        }

    later : IsOnCycle roots (n + 1) others p → IsOnCycle roots n (runs ∷ others) p
    later f = record {
      at = suc f.at;
      runs = f.runs;
      run = f.run;
      held = f.held;
      written = f.written;
      cycle = subst (λ k. is_on_cycle roots k f.run ≡ true) (omega arith) f.cycle;
      place = f.place;
    }

    by : Contains (flat_map (on_cycle roots n) runs) p ⊎ Contains (positions_from roots (n + 1) others) p
        → (Contains (positions_from roots (n + 1) others) p → IsOnCycle roots (n + 1) others p)
        → IsOnCycle roots n (runs ∷ others) p
    by (inl h) rest = first (in_flat_map (on_cycle roots n) runs p h)
    by (inr h) rest = later (rest h)

to_positions : (roots : List (Option ℕ)) (n : ℕ) (rss : List (List RunAt)) (at : ℕ) (runs : List RunAt) (r : RunAt)
    → slice_get rss at ≡ Some runs → Contains runs r → is_on_cycle roots (n + at) r ≡ true
    → Contains (positions_from roots n rss) r.pos
to_positions roots n [] at runs r held h on = cc
to_positions roots n (rs ∷ others) zero runs r held h on =
    let same : rs ≡ runs = cc in
    Contains-append_left (flat_map (on_cycle roots n) rs) (positions_from roots (n + 1) others) r.pos
    (to_flat_map (on_cycle roots n) rs r r.pos (subst (λ xs. Contains xs r) (sym same) h)
    (subst (λ b. Contains (here_if b r.pos) r.pos)
    (sym (subst (λ k. is_on_cycle roots k r ≡ true) (omega arith) on)) (is_first_one r.pos [] r.pos refl)))
to_positions roots n (rs ∷ others) (suc at) runs r held h on =
    Contains-append_right (flat_map (on_cycle roots n) rs) (positions_from roots (n + 1) others) r.pos
    (to_positions roots (n + 1) others at runs r held h
    (subst (λ k. is_on_cycle roots k r ≡ true) (omega arith) on))

-- ---- roots

one_root : (a b : Option ℕ) → is_one_root a b ≡ true → a ≡ b
one_root None None e = refl
one_root None (Some b) e = cc
one_root (Some a) None e = cc
one_root (Some a) (Some b) e =
    let same : a ≡ b = grind arith in
    ap (λ (n : ℕ). Some n) same

same_root : (a : Option ℕ) → is_one_root a a ≡ true
same_root None = refl
same_root (Some a) = grind arith

-- ---- the runs on a cycle

module _ (parts : Program) (roots : List (Option ℕ)) (shows : ShowCycles (source_runs parts) roots) where
  abbrev runs_of_text : List (List RunAt)
  runs_of_text = map (placed_runs parts) (modules_of parts)

  runs_there : (at : ℕ) (m : ModuleNode Name) (c : ℕ) → slice_get (modules_of parts) at ≡ Some m
      → Contains (filter_map (λ (n : NameAt Name). module_place parts n.name) (runs_in m)) c
      → Runs (source_runs parts) at c
  runs_there at m c held h = subst (λ o. is_among (or_none o) c ≡ true)
      (sym (to_mapped (λ (m : ModuleNode Name). filter_map (λ (n : NameAt Name). module_place parts n.name) (runs_in m))
      (modules_of parts) at m held))
      (in_among (filter_map (λ (n : NameAt Name). module_place parts n.name) (runs_in m)) c h)

  found_there : (p : Pos) → IsOnCycle roots 0 runs_of_text p → RunsInCycle parts p
  found_there p f = by (held_mapped (placed_runs parts) (modules_of parts) f.at f.runs f.held)
    where
      by : ((m : ModuleNode Name) × (slice_get (modules_of parts) f.at ≡ Some m) × (placed_runs parts m ≡ f.runs))
          → RunsInCycle parts p
      by held =
          let m = held.0 in
          let run = in_among_runs parts (runs_in m) f.run (subst (λ rs. Contains rs f.run)
          (sym held.2 ∙ placed_among parts (parts_of m)) f.written) in
          let runs = runs_there f.at m f.run.callee held.1 (to_filtered parts (runs_in m) run.name f.run.callee
          run.written run.meant) in
          record {
            caller = f.at;
            holder = m;
            run = run.name;
            callee = f.run.callee;
            held = held.1;
            written = run.written;
            meant = run.meant;
            reaches = (shows f.at f.run.callee runs).0 (one_root (root_of roots f.at) (root_of roots f.run.callee)
                (subst (λ k. is_on_cycle roots k f.run ≡ true) (omega arith) f.cycle));
            place = run.place ∙ f.place;
          }

  all_found : (p : Pos) → RunsInCycle parts p → Contains (positions_from roots 0 runs_of_text) p
  all_found p r =
      let run = run_to r.run r.callee in
      let runs = runs_there r.caller r.holder r.callee r.held (to_filtered parts (runs_in r.holder) r.run r.callee
      r.written r.meant) in
      let same : root_of roots r.caller ≡ root_of roots r.callee = (shows r.caller r.callee runs).1 r.reaches in
      subst (Contains (positions_from roots 0 runs_of_text)) r.place
      (to_positions roots 0 runs_of_text r.caller (placed_runs parts r.holder) run
      (to_mapped (placed_runs parts) (modules_of parts) r.caller r.holder r.held)
      (subst (λ rs. Contains rs run) (sym (placed_among parts (parts_of r.holder)))
      (to_among_runs parts (runs_in r.holder) r.run r.callee r.written r.meant))
      (subst (λ k. is_on_cycle roots k run ≡ true) (omega arith)
      (ap (λ o. is_one_root o (root_of roots r.callee)) same ∙ same_root (root_of roots r.callee))))

  are_cycles : AreCycles parts (positions_from roots 0 runs_of_text)
  are_cycles = record {
    there = λ p h. found_there p (in_positions roots 0 runs_of_text p h);
    all = all_found;
  }

pub cycles_found : (parts : Program) (runs : List (List RunAt)) (roots : List (Option ℕ)) (v : Option LinkFault)
    → runs ≡ map (placed_runs parts) (modules_of parts) → ShowCycles (map callees runs) roots
    → v ≡ first_from roots 0 runs → IsFirstCycle parts v
cycles_found parts runs roots v e shows is =
    let text = map (placed_runs parts) (modules_of parts) in (
      positions_from roots 0 text,
      is ∙ ap (first_from roots 0) e ∙ positions_first roots 0 text,
      are_cycles parts roots (subst (λ g. ShowCycles g roots) (ap (map callees) e ∙ same_graph parts (modules_of parts))
          shows),
    )

-- ---- each module that is run is there

placed_below : (k : ℕ) (names : List Name) (q : Name) (p : ℕ) → place_from k names q ≡ Some p
    → p < k + length names
placed_below k [] q p e = cc
placed_below k (m ∷ ms) q p e = by (bytes_eq m q) e (λ e. placed_below (k + 1) ms q p e)
  where
    by : (b : Bool) → cond b (Some k) (place_from (k + 1) ms q) ≡ Some p
        → (place_from (k + 1) ms q ≡ Some p → p < (k + 1) + length ms) → p < k + suc (length ms)
    by true e rest =
        let same : k ≡ p = cc in
        omega arith
    by false e rest = let later = rest e in omega arith

callees_in : (rs : List RunAt) (c : ℕ) → Contains (callees rs) c → (r : RunAt) × Contains rs r × (r.callee ≡ c)
callees_in [] c h = absurd (none_in c h)
callees_in (r ∷ rs) c h = by (in_cons r.callee (callees rs) c h) (λ h. callees_in rs c h)
  where
    by : (r.callee ≡ c) ⊎ Contains (callees rs) c
        → (Contains (callees rs) c → (s : RunAt) × Contains rs s × (s.callee ≡ c))
        → (s : RunAt) × Contains (r ∷ rs) s × (s.callee ≡ c)
    by (inl e) rest = (r, is_first_one r rs r refl, e)
    by (inr h) rest =
        let later = rest h in
        (later.0, is_later_one r rs later.0 later.1, later.2)

graph_length : (parts : Program) (ms : List (ModuleNode Name))
    → length (map callees (map (placed_runs parts) ms)) ≡ length ms
graph_length parts ms = length-map (map (placed_runs parts) ms) callees ∙ length-map ms (placed_runs parts)

callee_below : (parts : Program) (m : ModuleNode Name) (n : ℕ) → Contains (callees (placed_runs parts m)) n
    → n < length (modules_of parts)
callee_below parts m n h =
    let found = callees_in (placed_runs parts m) n h in
    let run = in_among_runs parts (runs_in m) found.0 (subst (λ rs. Contains rs found.0)
    (placed_among parts (parts_of m)) found.1) in
    let less = placed_below 0 (map (λ (m : ModuleNode Name). m.name) (modules_of parts)) run.name.name
    found.0.callee run.meant in
    let size = length-map (modules_of parts) (λ (m : ModuleNode Name). m.name) in
    let same : found.0.callee ≡ n = found.2 in
    omega arith

run_below : (parts : Program) (ms : List (ModuleNode Name)) (m n : ℕ)
    → is_among (or_none (slice_get (map callees (map (placed_runs parts) ms)) m)) n ≡ true
    → n < length (modules_of parts)
run_below parts [] m n h = cc
run_below parts (x ∷ ms) zero n h = callee_below parts x n (among_in (callees (placed_runs parts x)) n h)
run_below parts (x ∷ ms) (suc m) n h = run_below parts ms m n h

pub runs_in_range : (parts : Program) (runs : List (List RunAt))
    → runs ≡ map (placed_runs parts) (modules_of parts) → InRange (map callees runs)
runs_in_range parts runs e m n h = subst (λ k. n < k)
    (sym (graph_length parts (modules_of parts)) ∙ ap (λ rss. length (map callees rss)) (sym e))
    (run_below parts (modules_of parts) m n
    (subst (λ rss. is_among (or_none (slice_get (map callees rss) m)) n ≡ true) e h))

-- ---- the runs of one module more

from_joined : (roots : List (Option ℕ)) (n : ℕ) (rss : List (List RunAt)) (rs : List RunAt)
    → first_from roots n (rss ++ rs ∷ []) ≡ earlier (first_from roots n rss)
    (first_by (first_of_run roots (n + length rss)) rs)
from_joined roots n [] rs = earlier_none (first_by (first_of_run roots n) rs)
    ∙ ap (λ k. first_by (first_of_run roots k) rs) (omega arith)
from_joined roots n (qs ∷ rss) rs =
    ap (earlier (first_by (first_of_run roots n) qs)) (from_joined roots (n + 1) rss rs
    ∙ ap (λ k. earlier (first_from roots (n + 1) rss) (first_by (first_of_run roots k) rs)) (omega arith))
    ∙ sym (earlier_grouped (first_by (first_of_run roots n) qs) (first_from roots (n + 1) rss)
    (first_by (first_of_run roots (n + suc (length rss))) rs))

pub first_from_more : (roots : List (Option ℕ)) (rss : List (List RunAt)) (i : ℕ) (d : List RunAt)
    → i < length rss → first_from roots 0 (take (i + 1) rss)
    ≡ earlier (first_from roots 0 (take i rss)) (first_by (first_of_run roots i) (get_or rss i d))
first_from_more roots rss i d within =
    ap (first_from roots 0) (take_more rss i d within) ∙ from_joined roots 0 (take i rss) (get_or rss i d)
    ∙ ap (λ k. earlier (first_from roots 0 (take i rss)) (first_by (first_of_run roots k) (get_or rss i d)))
    (omega (arith, length-take i rss))
