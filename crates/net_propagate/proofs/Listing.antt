-- The emissions of a signal, by their numbers.
use Rattle.std.proofs.Common.{◌≡◌, refl, sym, ap, ◌∙◌, ℕ, suc, ◌+◌, Bool, true, false, cond, ◌==◌}
use Rattle.std.proofs.Common.{Some, List, [], ◌∷◌, ◌++◌, get_or, slice_get, append-nil, arith}
use Rattle.std.specs.List.{flat_map}
use Rattle.std.proofs.lemmas.Option.{slice_get_within}
use Rattle.std.proofs.lemmas.Grind.{flat_map-append}
use Rattle.host_expr.specs.declared.cell.Cell.{Cell}
use Rattle.net_list.specs.declared.record.NetEmit.{NetEmit}
use Rattle.net_list.specs.declared.record.NetSignal.{NetSignal}
use Rattle.net_list.specs.declared.record.NetRecords.{NetRecords}
use Rattle.net_readers.specs.Readers.{each_time, emissions_from}
use Rattle.net_solution.specs.declared.valuation.Valuation.{Valuation as Place}
use Rattle.net_solution.specs.Question.{Question}
use Rattle.net_solution.specs.Equations.{emission_of, input_of, emissions_of, carried}
use Rattle.net_solution.specs.Places.{seen_in, statuses_in}
use Rattle.net_propagate.specs.declared.watchers.Watchers.{Watchers}
use Rattle.net_propagate.specs.Settling.{IsListed, emission_at, emission_if}

module _ {A : Type 0} (s : ℕ) (f : NetEmit → List A) (at : ℕ → List A)
    (others : (e : NetEmit) → (e.signal == s) ≡ false → f e ≡ []) where
  -- what is listed gives what all give, since the others give nothing
  listed : (m : ℕ) (es : List NetEmit)
      → ((i k : ℕ) (e : NetEmit) → m + i ≡ k → slice_get es i ≡ Some e → at k ≡ f e)
      → flat_map at (emissions_from m s es) ≡ flat_map f es
  listed m [] h = refl
  listed m (e ∷ es) h =
      flat_map-append at (each_time s m (e.signal ∷ [])) (emissions_from (suc m) s es)
      ∙ (λ i. first (e.signal == s) refl i ++ listed (suc m) es
      (λ n k x p q. h (suc n) k x (omega (arith, p)) q) i)
    where
      first : (b : Bool) → (e.signal == s) ≡ b → flat_map at (cond b (m ∷ []) [] ++ []) ≡ f e
      first true p = append-nil (at m) ∙ h 0 m e (omega arith) refl
      first false p = sym (others e p)

pub all_listed : (N : NetRecords) (Q : Question) (v : Place) (w : Watchers) (s : ℕ) (d : NetSignal) → IsListed N w
    → slice_get N.signals s ≡ Some d
    → flat_map (input_of s) Q.given
    ++ flat_map (emission_at N Q v d.decl.kind s) (get_or w.readers.signals.items s [])
    ≡ emissions_of N Q (statuses_in v) (seen_in v) d.decl.kind s
all_listed N Q v w s d lists there =
    ap (λ ns. flat_map (input_of s) Q.given ++ flat_map (emission_at N Q v d.decl.kind s) ns)
    (lists.1 s (slice_get_within N.signals s d there))
    ∙ ap (λ es. flat_map (input_of s) Q.given ++ es)
    (listed s (emission_of Q (statuses_in v) (seen_in v) d.decl.kind s) (emission_at N Q v d.decl.kind s)
    (λ e no. ap (λ b. cond b ((statuses_in v e.control, carries e) ∷ []) []) no) 0 N.emits
    (λ i k e p there.
    let same : k ≡ i = omega (arith, p) in
    ap (λ n. emission_at N Q v d.decl.kind s n) same ∙ at i e there))
  where
    carries : NetEmit → Cell
    carries e = carried Q (seen_in v) d.decl.kind e.sent

    at : (i : ℕ) (e : NetEmit) → slice_get N.emits i ≡ Some e
        → emission_at N Q v d.decl.kind s i ≡ emission_of Q (statuses_in v) (seen_in v) d.decl.kind s e
    at i e there = ap (emission_if Q v d.decl.kind s) there
