-- A walker where signals of a list come into scope, and where they leave it.
use Rattle.std.proofs.Common.{◌≡◌, ℕ, ◌+◌, Some, List, [], ◌∷◌, ◌++◌, map, drop, length, refl, sym, ◌∙◌, ap, subst}
use Rattle.std.proofs.Common.{zero, suc, append_assoc, length-append}
use Rattle.std.specs.Prelude.{slice_get}
use Rattle.std.proofs.lemmas.List.{map-append}
use Rattle.indexmap.specs.IndexMap.{get_by_text}
use Rattle.module_tree.specs.declared.source.SignalNode.{SignalNode}
use Rattle.module_tree.specs.Scopes.{Signal, InScope, local_signals, with_signals}
use Rattle.link_faults.specs.declared.names.Meaning.{Meaning}
use Rattle.link_faults.specs.declared.scope.Scope.{Scope}
use Rattle.link_faults.specs.declared.walk.Walker.{Walker}
use Rattle.link_faults.specs.InnermostFirst.{Named, IsScope, in_scope, shown}
use Rattle.link_faults.specs.Meanings.{meaning}
use Rattle.link_faults.specs.Walks.{shown_by, shown_signal, Stands, local_meaning}
use Rattle.link_faults.proofs.RunLaws.{at_seam}
use Rattle.link_faults.proofs.WalkLaws.{head_of, tail_of}

kept : (ms more : List Meaning) (p : ℕ) (m : Meaning) → slice_get ms p ≡ Some m
    → slice_get (ms ++ more) p ≡ Some m
kept [] more p m e = cc
kept (x ∷ ms) more zero m e = e
kept (x ∷ ms) more (suc p) m e = kept ms more p m e

still_shown : (ms more : List Meaning) (ns : List Named) (ss : List Signal)
    → map (shown_by ms) ns ≡ map shown_signal ss → map (shown_by (ms ++ more)) ns ≡ map shown_signal ss
still_shown ms more [] ss e = e
still_shown ms more (n ∷ ns) [] e = cc
still_shown ms more (n ∷ ns) (s ∷ ss) e =
    let first : shown_by ms n ≡ shown_signal s = ap (head_of (shown_signal s)) e in
    let there = kept ms more n.place (meaning s) (ap (λ x. x.meaning) first) in
    ap (λ m. record { name = n.name; meaning = m } ∷ map (shown_by (ms ++ more)) ns) there
    ∙ ap (λ name. record { name = name; meaning = Some (meaning s) } ∷ map (shown_by (ms ++ more)) ns)
    (ap (λ x. x.name) first)
    ∙ ap (λ xs. shown_signal s ∷ xs) (still_shown ms more ns ss (ap tail_of e))

now_shown : (pre : List Meaning) (signals : List SignalNode) (place n : ℕ) → place ≡ length pre
    → map (shown_by (pre ++ map local_meaning signals)) (map shown (local_signals place signals))
    ≡ map shown_signal (local_signals n signals)
now_shown pre [] place n e = refl
now_shown pre (s ∷ signals) place n e =
    let whole = pre ++ local_meaning s ∷ map local_meaning signals in
    let here : slice_get whole place ≡ Some (local_meaning s) = ap (slice_get whole) e
    ∙ at_seam pre (local_meaning s) (map local_meaning signals) in
    ap (λ m. record { name = s.name; meaning = m } ∷ map (shown_by whole)
    (map shown (local_signals (place + 1) signals))) here
    ∙ ap (λ xs. record { name = s.name; meaning = Some (local_meaning s) } ∷ xs)
    (ap (λ ms. map (shown_by ms) (map shown (local_signals (place + 1) signals)))
    (sym (append_assoc pre (local_meaning s ∷ []) (map local_meaning signals)))
    ∙ now_shown (pre ++ local_meaning s ∷ []) signals (place + 1) (n + 1)
    (ap (λ k. k + 1) e ∙ sym (length-append pre (local_meaning s ∷ []))))

-- the signals of a list come into scope
pub stands_within : (scope : InScope) (n place : ℕ) (signals : List SignalNode) (old new : Walker)
    → Stands scope old → place ≡ length old.names.meanings → IsScope new.names.signals
    → in_scope new.names.signals ≡ map shown (local_signals place signals) ++ in_scope old.names.signals
    → new.names.meanings ≡ old.names.meanings ++ map local_meaning signals
    → new.names.parameters ≡ old.names.parameters → new.traps ≡ old.traps
    → Stands (with_signals n signals scope) new
stands_within scope n place signals old new s at ready entered meanings parameters traps =
    let before = old.names.meanings in
    let more = map local_meaning signals in
    let ns = in_scope old.names.signals in
    let locals = map shown (local_signals place signals) in
    record {
      signals = ready;
      meant = ap (map (shown_by new.names.meanings)) entered
          ∙ ap (λ ms. map (shown_by ms) (locals ++ ns)) meanings
          ∙ map-append (shown_by (before ++ more)) locals ns
          ∙ ap (λ xs. xs ++ map (shown_by (before ++ more)) ns) (now_shown before signals place n at)
          ∙ ap (λ xs. map shown_signal (local_signals n signals) ++ xs)
          (still_shown before more ns scope.signals s.meant)
          ∙ sym (map-append shown_signal (local_signals n signals) scope.signals);
      traps = subst IsScope (sym traps) s.traps;
      named = ap (λ (t : Scope). map (λ (n : Named). n.name) (in_scope t)) traps ∙ s.named;
      bodiless = ap (λ ps. λ q. get_by_text ps q) parameters ∙ s.bodiless;
    }

mapped_drop : {A B : Type 0} (f : A → B) (k : ℕ) (xs : List A) → map f (drop k xs) ≡ drop k (map f xs)
mapped_drop f zero xs = refl
mapped_drop f (suc k) [] = refl
mapped_drop f (suc k) (x ∷ xs) = mapped_drop f k xs

dropped : (n : ℕ) (signals : List SignalNode) (ss : List Signal)
    → drop (length signals) (map shown_signal (local_signals n signals ++ ss)) ≡ map shown_signal ss
dropped n [] ss = refl
dropped n (s ∷ signals) ss = dropped (n + 1) signals ss

-- the signals of a list leave it
pub stands_outside : (scope : InScope) (n count : ℕ) (signals : List SignalNode) (old new : Walker)
    → count ≡ length signals → Stands (with_signals n signals scope) old → IsScope new.names.signals
    → in_scope new.names.signals ≡ drop count (in_scope old.names.signals)
    → new.names.meanings ≡ old.names.meanings → new.names.parameters ≡ old.names.parameters
    → new.traps ≡ old.traps → Stands scope new
stands_outside scope n count signals old new long s ready left meanings parameters traps = record {
  signals = ready;
  meant = ap (map (shown_by new.names.meanings)) left
      ∙ ap (λ ms. map (shown_by ms) (drop count (in_scope old.names.signals))) meanings
      ∙ mapped_drop (shown_by old.names.meanings) count (in_scope old.names.signals)
      ∙ ap (drop count) s.meant
      ∙ ap (λ k. drop k (map shown_signal (local_signals n signals ++ scope.signals))) long
      ∙ dropped n signals scope.signals;
  traps = subst IsScope (sym traps) s.traps;
  named = ap (λ (t : Scope). map (λ (n : Named). n.name) (in_scope t)) traps ∙ s.named;
  bodiless = ap (λ ps. λ q. get_by_text ps q) parameters ∙ s.bodiless;
}
