-- The rule of `run`, and that of replaced signals on which it rests.
use Rattle.std.proofs.Common.{◌≡◌, refl, sym, ap, ◌∙◌, subst, inl, inr, ℕ, zero, suc, ◌+◌, ◌-◌, ◌<◌, ◌≤◌}
use Rattle.std.proofs.Common.{false, Option, Some, None, List, [], ◌∷◌, length, arith}
use Rattle.std.proofs.lemmas.List.{length-map}
use Rattle.std.proofs.lemmas.List.FromFn.{length-range_with_len, get_or-range_with_len}
use Rattle.std.proofs.lemmas.Bool.{cases_lt, cases_eq, eq-eqb, ne_eqb}
use Rattle.std.specs.Prelude.{slice_get, slice_index_or, option_map}
use Rattle.std.specs.List.{AllByRecursion}
use Rattle.host_expr.specs.Environment.{Env}
use Rattle.module_tree.specs.declared.source.Binding.{Binding}
use Rattle.hh_term.specs.Selection.{Selection, Task}
use Rattle.hh_term.specs.Kernel.{Kernel}
use Rattle.hh_term.specs.MustCan.{Index, table_of, must_can}
use Rattle.hh_term.specs.Step.{step}
use Rattle.hh_term.specs.Placed.{unplaced}
use Rattle.kernel_expand.specs.Modules.{of_module}
use Rattle.kernel_expand.specs.Numbering.{numbering, number_of, inside_run, no_traps}
use Rattle.kernel_expand.specs.Expansion.{at_start, interface_signal, no_module}
use Rattle.derived_laws.specs.Resting.{RestsAt}
use Rattle.derived_laws.specs.Naming.{naming, nothing_named}
use Rattle.derived_laws.specs.Replacements.{statement_with, seen_by, must_can_with, stepped_with, IsAlone, Declares}
use Rattle.derived_laws.specs.Runs.{ReplacedObeys, RunObeys, Call, Binds, Programs, interface_of, expanded}
use Rattle.derived_laws.specs.Runs.{as_program, bound, signal_for, site_for}
use Rattle.derived_laws.proofs.ReplacedBags.{must_can_replaced}
use Rattle.derived_laws.proofs.ReplacedSteps.{step_replaced}
use Rattle.derived_laws.proofs.ReplacedMarks.{rests_replaced}
use Rattle.derived_laws.proofs.NamedModules.{run_binds}
use Rattle.derived_laws.proofs.RunPieces.{Stands, Matches, modules_alike}

pub replaced_obeys : ReplacedObeys
replaced_obeys =
    record {
      must_can = λ f g T T' p t i E d. must_can_replaced f g T T' p t i E d;
      step = λ f g T T' p t E d. step_replaced f g T T' p t E d;
      marks = λ f g T T' p m d r. rests_replaced f g T T' p d m r;
    }

-- ---- what stands for a signal

abbrev or_behind : ℕ → Option ℕ → ℕ
or_behind d o = (elim o [ Some t ↦ t | None ↦ d ])

index_is : (xs : List ℕ) (p d : ℕ) → p < length xs → or_behind d (slice_get xs p) ≡ slice_index_or xs p 0
index_is [] p d lt = absurd (let no : ⊥ = omega (arith, lt) in no)
index_is (x ∷ xs) zero d lt = refl
index_is (x ∷ xs) (suc p) d lt = index_is xs p d (omega (arith, lt))

past : (xs : List ℕ) (p : ℕ) → length xs ≤ p → slice_get xs p ≡ None
past [] p le = refl
past (x ∷ xs) zero le = absurd (let no : ⊥ = omega (arith, le) in no)
past (x ∷ xs) (suc p) le = past xs p (omega (arith, le))

below : (L : ℕ) (xs : List ℕ) (p d : ℕ) → AllByRecursion (λ s. s < L) xs → p < length xs
    → or_behind d (slice_get xs p) < L
below L [] p d h lt = absurd (let no : ⊥ = omega (arith, lt) in no)
below L (x ∷ xs) zero d h lt = h.0
below L (x ∷ xs) (suc p) d h lt = below L xs p d h.1 (omega (arith, lt))

module _ (c : Call) (b : Binds c) where
  behind : (s : ℕ) → length (bound c) ≤ s → signal_for c s ≡ length c.before.signals + (s - length (bound c))
  behind s le = ap (or_behind (length c.before.signals + (s - length (bound c)))) (past (bound c) s le)

  high : (s : ℕ) → length (bound c) ≤ s → signal_for c s + length (bound c) ≡ length c.before.signals + s
  high s le = omega (arith, le, behind s le)

  alone : (s : ℕ) → length (bound c) ≤ s → IsAlone (signal_for c) s
  alone s le t = elim (cases_lt t (length (bound c))) [
    | inl lt ↦ ne_eqb (signal_for c t) (signal_for c s)
        (λ e. let no : ⊥ = omega (
          arith,
          e,
          behind s le,
          below (length c.before.signals) (bound c) t (length c.before.signals + (t - length (bound c))) b.declared lt,
        ) in no)
        ∙ sym (ne_eqb t s (λ e. let no : ⊥ = omega (arith, e, lt, le) in no))
    | inr ge ↦ elim (cases_eq t s) [
      | inl e ↦ eq-eqb (signal_for c t) (signal_for c s) (ap (signal_for c) e) ∙ sym (eq-eqb t s e)
      | inr ne ↦ ne_eqb (signal_for c t) (signal_for c s)
          (λ e. ne (omega (arith, e, behind s le, behind t ge, le, ge))) ∙ sym (ne_eqb t s ne)
    ]
  ]

  many : length (bound c) ≡ length (interface_of c)
  many = length-map c.bindings (λ (x : Binding ℕ). number_of c.before x.right.name) ∙ b.all

  first_places : (p : ℕ) → p < length c.bindings →
      number_of (inside_run c.bindings c.before) p ≡ signal_for c (number_of (at_start (interface_of c)) p)
  first_places p lt =
      let here : p < length (bound c) =
      omega (arith, lt, length-map c.bindings (λ (x : Binding ℕ). number_of c.before x.right.name)) in
      let place : number_of (at_start (interface_of c)) p ≡ p =
      omega (arith, get_or-range_with_len 0 (length (interface_of c)) p 0 (omega (arith, lt, b.all))) in
      sym (ap (signal_for c) place
      ∙ index_is (bound c) p (length c.before.signals + (p - length (bound c))) here)

  begin : Stands (length (bound c)) (length c.before.signals) (length c.before.sites) (signal_for c) high alone
      (length c.bindings) (at_start (interface_of c)) (inside_run c.bindings c.before)
  begin =
      record {
        count = length-range_with_len 0 (length (interface_of c)) ∙ sym b.all;
        same_count = length-map c.bindings (λ (x : Binding ℕ). number_of c.before x.right.name);
        places = first_places;
        floor = omega (arith, many, length-map (interface_of c) interface_signal);
        signals = omega (arith, many, length-map (interface_of c) interface_signal);
        sites = omega arith;
        traps = refl;
      }

  matched : Matches (length (bound c)) (length c.before.signals) (length c.before.sites) (signal_for c) high alone
      (of_module naming nothing_named c.modules c.deep c.callee false (length c.bindings)).1
      (at_start (interface_of c)) (inside_run c.bindings c.before) (as_program c)
      (of_module numbering no_module c.modules c.deep c.callee no_traps (inside_run c.bindings c.before))
  matched =
      modules_alike (length (bound c)) (length c.before.signals) (length c.before.sites) (signal_for c) high alone
      c.modules c.deep c.callee false (length c.bindings) no_traps no_traps (at_start (interface_of c))
      (inside_run c.bindings c.before)
      (record { traps = refl; counter = λ e. absurd (let no : ⊥ = cc in no) }) begin b.own

  expands : unplaced (expanded c).0 ≡ statement_with (signal_for c) (site_for c) (unplaced (as_program c).0)
  expands = matched.statement

  module _ (K K' : Kernel) (ps : Programs c K K') where
    declares : Declares (table_of K) (table_of K') (signal_for c) (site_for c) (unplaced (as_program c).0)
    declares = matched.declares K K' ps.callee
        (record { signals = ps.caller.signals; sites = ps.caller.sites }) ps.bodies

    musts : (t : Task) (i : Index) (E : Env) →
        must_can (table_of K') (unplaced (expanded c).0) t i E
        ≡ must_can_with (signal_for c)
        (must_can (table_of K) (unplaced (as_program c).0) t i (seen_by (signal_for c) E))
    musts t i E =
        ap (λ p. must_can (table_of K') p t i E) expands
        ∙ must_can_replaced (signal_for c) (site_for c) (table_of K) (table_of K') (unplaced (as_program c).0) t i E
        declares

    steps : (t : Task) (E : Env) →
        step (table_of K') (unplaced (expanded c).0) t E
        ≡ option_map (stepped_with (signal_for c) (site_for c))
        (step (table_of K) (unplaced (as_program c).0) t (seen_by (signal_for c) E))
    steps t E =
        ap (λ p. step (table_of K') p t E) expands
        ∙ step_replaced (signal_for c) (site_for c) (table_of K) (table_of K') (unplaced (as_program c).0) t E declares

    rests : (m : Selection) → RestsAt (table_of K') (unplaced (expanded c).0) m
        → RestsAt (table_of K) (unplaced (as_program c).0) m
    rests m r =
        rests_replaced (signal_for c) (site_for c) (table_of K) (table_of K') (unplaced (as_program c).0) declares m
        (subst (λ p. RestsAt (table_of K') p m) expands r)

pub run_obeys : RunObeys
run_obeys =
    record {
      binds = λ parts linked m scope callee c same at seen bound low numbers.
          run_binds parts linked m scope callee c same at seen bound low numbers;
      must_can = λ c K K' b ps t i E. musts c b K K' ps t i E;
      step = λ c K K' b ps t E. steps c b K K' ps t E;
      marks = λ c K K' b ps m r. rests c b K K' ps m r;
      expands = λ c b. expands c b;
    }
