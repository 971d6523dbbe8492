-- A run makes a good statement where the module that is run is good and its interface is bound.
use Rattle.std.proofs.Common.{◌≡◌, ℕ, suc, ◌≤◌, Bool, true, List, [], ◌∷◌, map, Option, Some, length}
use Rattle.std.proofs.Common.{None, refl, sym, ap, ◌∙◌, arith}
use Rattle.std.specs.Prelude.{is_some, slice_get}
use Rattle.std.specs.List.{AllByRecursion}
use Rattle.hh_base.specs.declared.value.Pos.{Pos}
use Rattle.module_tree.specs.declared.source.NameAt.{NameAt}
use Rattle.module_tree.specs.declared.source.InterfaceNode.{InterfaceNode}
use Rattle.module_tree.specs.declared.source.Binding.{Binding}
use Rattle.module_tree.specs.Scopes.{InScope, Declared, signal_at}
use Rattle.module_tree.specs.Parts.{Call}
use Rattle.module_tree.specs.LinkedFacts.{Known, is_kind, each_bound, each_binding}
use Rattle.hh_term.specs.declared.program.SignalDecl.{SignalDecl}
use Rattle.hh_term.specs.Statement as term
use Rattle.hh_term.specs.Statement.{Statement}
use Rattle.hh_term.specs.Kernel.{Kernel, Body}
use Rattle.hh_term.specs.Scopes.{ExitsFit}
use Rattle.hh_term.specs.Placed.{unplaced}
use Rattle.kernel_expand.specs.Numbering.{Around, Numbered, Piece, number_of, inside_run, behind_run, no_traps}
use Rattle.kernel_expand.specs.Numbering.{numbering}
use Rattle.kernel_expand.proofs.Replaced.{both_all}
use Rattle.kernel_expand.proofs.Standing.{Scoped, kinds_in, seen_at}
use Rattle.kernel_expand.proofs.Sound.{Sound, WholeIn}
use Rattle.kernel_expand.proofs.Good.{Inside, Goes, Good, Standing}
use Rattle.kernel_expand.proofs.GoodParts.{PartStands, is_this_kind, names_seen, same_kinds}
use Rattle.kernel_expand.proofs.Progress.{both_true}

-- where more traps stand round it, each exit has its trap too
pub exits_more : (t : Statement) (n m : ℕ) → n ≤ m → ExitsFit n t → ExitsFit m t
exits_more term.Nothing n m le h = tt
exits_more term.Pause n m le h = tt
exits_more (term.Emit s e) n m le h = tt
exits_more (term.If e p q) n m le h = (exits_more p n m le h.0, exits_more q n m le h.1)
exits_more (term.Suspend e p) n m le h = exits_more p n m le h
exits_more (term.Seq p q) n m le h = (exits_more p n m le h.0, exits_more q n m le h.1)
exits_more (term.Par p q) n m le h = (exits_more p n m le h.0, exits_more q n m le h.1)
exits_more (term.Loop p) n m le h = exits_more p n m le h
exits_more (term.Trap p) n m le h = exits_more p (suc n) (suc m) (omega arith) h
exits_more (term.Exit k) n m le h = omega arith
exits_more (term.Local s p) n m le h = exits_more p n m le h
exits_more (term.Async i) n m le h = tt

module _ (bodies : List Body) (interface : ℕ) where
  -- these numbers are those of an interface: in scope, and of its kinds
  abbrev pub Bound : List SignalDecl → List ℕ → List ℕ → List InterfaceNode → Type 0
  Bound signals ls [] [] = Unit {0}
  Bound signals ls (s ∷ ss) (d ∷ ds) = Scoped bodies interface ls s
      × (slice_get (kinds_in signals) s ≡ Some d.signal.kind) × Bound signals ls ss ds
  Bound signals ls _ _ = ⊥

  abbrev pub GoodModule : Piece → List InterfaceNode → Type 0
  GoodModule p ds = (n : Numbered) (ls : List ℕ) → n.traps ≡ 0 → Bound n.signals ls n.places ds
      → Sound bodies interface no_traps n ls (p no_traps n).0 (p no_traps n).1

  abbrev pub GoodModules : (ℕ → Piece) → List (List InterfaceNode) → Type 0
  GoodModules f interfaces = (m : ℕ) (ds : List InterfaceNode) → slice_get interfaces m ≡ Some ds
      → GoodModule (f m) ds

  module _ (known : Known) (scope : InScope) (before : Declared) (a : Around) (n : Numbered) (ls : List ℕ)
      (st : Standing bodies interface known.kinds scope before a n ls) where
    abbrev kind_bound : Binding ℕ → InterfaceNode → Bool
    kind_bound b d = is_kind d.signal.kind (slice_get known.kinds b.right.name)

    bound_all : (bs : List (Binding ℕ)) (ds : List InterfaceNode) → each_binding kind_bound bs ds ≡ true
        → AllByRecursion (λ (n : NameAt ℕ). is_some (signal_at scope n.name) ≡ true)
        (map (λ (b : Binding ℕ). b.right) bs)
        → Bound n.signals ls (map (λ (b : Binding ℕ). number_of n b.right.name) bs) ds
    bound_all [] [] e h = tt
    bound_all [] (d ∷ ds) e h = absurd (let no : ⊥ = cc in no)
    bound_all (b ∷ bs) [] e h = absurd (let no : ⊥ = cc in no)
    bound_all (b ∷ bs) (d ∷ ds) e h =
        let q = both_true (kind_bound b d) (each_binding kind_bound bs ds) e in
        let s = seen_at bodies interface known.kinds scope before a n ls st b.right.name h.0 in
        let same : s.kind ≡ d.signal.kind = same_kinds s.kind d.signal.kind (sym s.of_module
        ∙ is_this_kind d.signal.kind (slice_get known.kinds b.right.name) q.0) in
        (s.scoped, s.has_kind ∙ ap Some same, bound_all bs ds q.1 h.1)

  pub good_run : (known : Known) (f : ℕ → Piece) (pos : Pos) → GoodModules f known.interfaces
      → (scope : InScope) (before : Declared) (callee : NameAt ℕ) (bs : List (Binding ℕ)) (c : Inside)
      → PartStands known (record { scope = scope; part = Call callee bs })
      → Good bodies interface known.kinds c scope before before ((numbering f pos).run callee.name bs)
  good_run known f pos good scope before callee bs c s a n ls al st =
      by_interface (slice_get known.interfaces callee.name) refl s.kinds
    where
      seen : AllByRecursion (λ (n : NameAt ℕ). is_some (signal_at scope n.name) ≡ true)
          (map (λ (b : Binding ℕ). b.right) bs)
      seen = (both_all (λ (n : NameAt ℕ). is_some (signal_at scope n.name) ≡ true)
          (map (λ (b : Binding ℕ). b.right) bs) []
          (names_seen known (record { scope = scope; part = Call callee bs }) s)).0

      by_interface : (o : Option (List InterfaceNode)) → slice_get known.interfaces callee.name ≡ o
          → each_bound (λ b d. is_kind d.signal.kind (slice_get known.kinds b.right.name)) bs o ≡ true
          → Goes bodies interface known.kinds before a n ls ((numbering f pos).run callee.name bs a n).0
          ((numbering f pos).run callee.name bs a n).1
      by_interface None at e = absurd (let no : ⊥ = cc in no)
      by_interface (Some ds) at e =
          let m = inside_run bs n in
          let x = f callee.name no_traps m in
          let w = good callee.name ds at m ls refl (bound_all known scope before a n ls st bs ds e seen) in
          let inner : (K : Kernel) → WholeIn bodies interface (behind_run n x.1) K
          → WholeIn bodies interface x.1 K = λ K v. record {
            kinds = v.kinds;
            sites = v.sites;
            bodies_are = v.bodies_are;
            interface_is = v.interface_is;
          } in
          record {
            sound = record {
              kept = record { kinds = w.kept.kinds; sites = w.kept.sites; places = λ p h. (h, refl) };
              exits = exits_more (unplaced x.0) 0 (length a.traps) (omega arith) w.exits;
              fits = λ K v. w.fits K (inner K v);
              uses = λ K v. w.uses K (inner K v);
              sites = λ K v. w.sites K (inner K v);
              signals = w.signals;
            };
            places = st.places;
            traps = st.traps;
          }
