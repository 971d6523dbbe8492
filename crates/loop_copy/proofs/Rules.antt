-- The copy of a program keeps the rules of copied programs.
use Rattle.std.proofs.Common.{◌≡◌, ◌≢◌, ◌+◌, ◌-◌, ◌<◌, ◌≤◌, List, [], ◌∷◌, length, drop, refl, sym, ap, subst, ◌∙◌, arith}
use Rattle.std.proofs.Common.{length-append, Some, Bool, true, false}
use Rattle.std.specs.Prelude.{◌||◌, nat_lt, slice_get, IsTrue}
use Rattle.std.specs.List.{AllByRecursion, range_with_len}
use Rattle.std.proofs.lemmas.List.{take_at, drop_at, length-take-le, take-append-drop}
use Rattle.std.proofs.lemmas.Bool.{ltb-true}
use Rattle.hh_base.specs.declared.value.Dir.TheVariants as dir
use Rattle.hh_term.specs.declared.program.SignalDecl.{SignalDecl}
use Rattle.hh_term.specs.declared.limits.TheConstants.{COPIED_LIMIT, HEIGHT_LIMIT, TRAP_LIMIT}
use Rattle.hh_term.specs.Kernel.{Kernel, AsyncSite}
use Rattle.hh_term.specs.Pairs.{EachPair}
use Rattle.hh_term.specs.Scopes.{locals_of}
use Rattle.hh_term.specs.Fits.{SignalFits}
use Rattle.hh_term.specs.IsProgram.{IsProgram, NamesDiffer, interface_of, locals_declared}
use Rattle.loop_copy.specs.Copies.{copied_program, copied_locals, copied_sites, local_count, items_at}
use Rattle.loop_copy.specs.Within.{LiesWithin}
use Rattle.loop_copy.specs.IsCopied.{IsCopied}
use Rattle.loop_copy.proofs.Lists.{all_both, all_map, all_zip, all_take, all_at, all_at_drop, all_items, all_any, all_range}
use Rattle.loop_copy.proofs.Lists.{got_front, holds_behind, Holds}
use Rattle.loop_copy.proofs.Shapes.{locals_in_order, sites_in_order, exits_fit, same_height, same_traps, loops_wait, loops_are_doubled}
use Rattle.loop_copy.proofs.Shapes.{copied_are, lies_within}
use Rattle.loop_copy.proofs.Scoping.{Scoped, Sound, sound, more_signals, more_sites, kinds_same}

-- ---- names by positions

abbrev Named : SignalDecl → SignalDecl → Type 0
Named d e = d.pos ≡ e.pos → d.name ≡ e.name

square : (ds : List SignalDecl) → EachPair Named ds → AllByRecursion (λ d. AllByRecursion (Named d) ds) ds
square [] h = tt
square (d ∷ ds) h = (
  ((λ p. refl), h.0),
  all_map (λ e. Named d e × AllByRecursion (Named e) ds) (λ e. AllByRecursion (Named e) (d ∷ ds))
      (λ e q. ((λ p. sym (q.0 (sym p))), q.1)) ds
      (all_zip (Named d) (λ e. AllByRecursion (Named e) ds) ds h.0 (square ds h.1)),
)

all_pairs : (ds : List SignalDecl) → AllByRecursion (λ d. AllByRecursion (Named d) ds) ds → EachPair Named ds
all_pairs [] h = tt
all_pairs (d ∷ ds) h = (
  h.0.1,
  all_pairs ds (all_map (λ e. AllByRecursion (Named e) (d ∷ ds)) (λ e. AllByRecursion (Named e) ds) (λ e q. q.1) ds h.1),
)

pub either_first : (a : Bool) → IsTrue (a || false) → a ≡ true
either_first true h = refl
either_first false h = h

module _ (K : Kernel) (r : IsProgram K) where
  abbrev front : List SignalDecl
  front = interface_of K

  abbrev behind : List SignalDecl
  behind = items_at K.signals (copied_locals K.statement)

  abbrev sites : List AsyncSite
  sites = copied_sites K.sites (λ s. s) K.interface K.statement

  abbrev C : Kernel
  C = copied_program K

  many : length front ≡ K.interface
  many = length-take-le K.interface K.signals r.interface_declared

  locals_are : AllByRecursion (λ s. (K.interface ≤ s) × (s < length K.signals)) (locals_of K.statement)
  locals_are =
      let declared = r.interface_declared in
      subst (AllByRecursion (λ s. (K.interface ≤ s) × (s < length K.signals))) (sym r.locals_in_order)
      (all_range (λ s. (K.interface ≤ s) × (s < length K.signals)) K.interface (length K.signals - K.interface)
      (λ i h k. (h, omega (arith, declared, k))))

  pub within : LiesWithin (length K.signals) (length K.sites) K.statement
  within =
      lies_within (length K.signals) (length K.sites) K.statement
      (all_map (λ s. (K.interface ≤ s) × (s < length K.signals)) (λ s. s < length K.signals) (λ s h. h.1) (locals_of K.statement)
      locals_are)
      (subst (AllByRecursion (λ a. a < length K.sites)) (sym r.sites_in_order)
      (all_range (λ a. a < length K.sites) 0 (length K.sites) (λ i h k. omega (arith, k))))

  front_same : interface_of C ≡ interface_of K
  front_same = take_at front behind K.interface many

  behind_same : locals_declared C ≡ behind
  behind_same = drop_at front behind K.interface many

  all_signals : (P : SignalDecl → Type 0) → AllByRecursion P K.signals → AllByRecursion P C.signals
  all_signals P h =
      all_both P front behind (all_take P K.interface K.signals h)
      (all_items P K.signals (copied_locals K.statement)
      (all_any (λ i. (d : SignalDecl) → slice_get K.signals i ≡ Some d → P d) (λ i d e. all_at P K.signals i d h e)
      (copied_locals K.statement)))

  are_local : AllByRecursion (λ (d : SignalDecl). d.dir ≡ dir.Local) behind
  are_local =
      all_items (λ (d : SignalDecl). d.dir ≡ dir.Local) K.signals (copied_locals K.statement)
      (all_map (λ s. (K.interface ≤ s) × (s < length K.signals))
      (λ i. (d : SignalDecl) → slice_get K.signals i ≡ Some d → d.dir ≡ dir.Local)
      (λ i h d e. all_at_drop (λ (d : SignalDecl). d.dir ≡ dir.Local) K.interface K.signals i d r.others_local h.0 e)
      (copied_locals K.statement)
      (copied_are (λ s. (K.interface ≤ s) × (s < length K.signals)) K.statement locals_are))

  count : length C.signals ≡ K.interface + local_count K.statement
  count = length-append front behind ∙ (λ i. many i + more_signals K K.statement within i)

  scoped : Scoped K C refl refl (λ s. s) [] []
  scoped t h =
      let low = ltb-true t K.interface (either_first (nat_lt t K.interface) h) in
      let under : t < length front = omega (arith, low, many) in (
        h,
        kinds_same K C refl refl t t (got_front front behind (drop K.interface K.signals) t under
            ∙ ap (λ ds. slice_get ds t) (take-append-drop K.interface K.signals)),
      )

  good : Sound K C refl refl (λ s. s) K.interface 0 [] K.statement
  good =
      sound K C refl refl r.sites_fit (λ s. s) K.interface 0 [] [] K.statement (record {
        scoped = scoped;
        signals = subst (λ n. Holds C.signals n behind) many (holds_behind front behind);
        sites = holds_behind [] sites;
        within = within;
        uses = r.uses_in_scope;
        fits = r.statement_fits;
      })

  pub keeps_rules : IsCopied C
  keeps_rules =
      record {
        interface_declared = omega (arith, count);
        interface_not_local = subst (AllByRecursion (λ (d : SignalDecl). d.dir ≢ dir.Local)) (sym front_same) r.interface_not_local;
        others_local = subst (AllByRecursion (λ (d : SignalDecl). d.dir ≡ dir.Local)) (sym behind_same) are_local;
        names_differ = subst NamesDiffer (sym front_same) r.names_differ;
        names_by_position = all_pairs C.signals (all_map (λ d. AllByRecursion (Named d) K.signals)
            (λ d. AllByRecursion (Named d) C.signals) (λ d h. all_signals (Named d) h) C.signals
            (all_signals (λ d. AllByRecursion (Named d) K.signals) (square K.signals r.names_by_position)));
        signals_fit = all_signals SignalFits r.signals_fit;
        bodies_fit = r.bodies_fit;
        sites_fit = good.sites;
        statement_fits = good.fits;
        loops_wait = loops_wait (λ s. s) K.interface 0 K.statement r.loops_wait;
        loops_are_doubled = loops_are_doubled (λ s. s) K.interface 0 K.statement r.loops_wait;
        exits_fit = exits_fit 0 (λ s. s) K.interface 0 K.statement r.exits_fit;
        locals_in_order = locals_in_order (λ s. s) K.interface 0 K.statement
            ∙ ap (range_with_len K.interface) (let rest : local_count K.statement ≡ length C.signals - K.interface = omega (arith, count) in rest);
        sites_in_order = sites_in_order (λ s. s) K.interface 0 K.statement
            ∙ ap (range_with_len 0) (sym (more_sites K (λ s. s) K.interface K.statement within));
        uses_in_scope = good.uses;
        within_limits = record {
          size = subst (λ n. n ≤ COPIED_LIMIT) (sym good.size) r.within_limits.copied;
          height = subst (λ n. n ≤ HEIGHT_LIMIT) (sym (same_height (λ s. s) K.interface 0 K.statement)) r.within_limits.height;
          traps = subst (λ n. n ≤ TRAP_LIMIT) (sym (same_traps (λ s. s) K.interface 0 K.statement)) r.within_limits.traps;
        };
      }
