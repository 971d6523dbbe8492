-- The rounds of a reaction, from the first one to a standstill.
use Rattle.std.proofs.Common.{◌≡◌, refl, sym, ap, subst, ◌∙◌, ℕ, ◌+◌, ◌<◌, ◌≤◌, Bool, true, false, Some}
use Rattle.std.proofs.Common.{⊎_elim}
use Rattle.std.proofs.Common.{List, [], ◌∷◌, length, map, slice_get, replicate, arith, Vec, Global}
use Rattle.std.proofs.lemmas.Option.{slice_get_within}
use Rattle.std.proofs.lemmas.List.{length-map, length-replicate}
use Rattle.std.proofs.lemmas.Bool.{cases_lt}
use mathlib.Core.Path.{fun_ext}
use Rattle.hh_base.specs.declared.value.Value.{Value}
use Rattle.host_expr.specs.Environment.{Env, env_of, blank}
use Rattle.hh_term.specs.IsProgram.{IsProgram}
use Rattle.hh_term.specs.Kernel.{Kernel}
use Rattle.hh_term.specs.Selection.{Control}
use Rattle.hh_term.specs.MustCan.{table_of}
use Rattle.hh_term.specs.Reaction.{outers_from, solved, program_must_can, program_step}
use Rattle.status_table.specs.declared.state.Statuses.{Statuses}
use Rattle.status_table.specs.declared.tally.Known.{Known}
use Rattle.status_table.specs.Flat.{Cells}
use Rattle.status_table.specs.TableView.{cells_in}
use Rattle.status_table.specs.Walking.{in_row}
use Rattle.status_table.specs.Moving.{nothing_known}
use Rattle.status_table.specs.WholeProgram.{NotIn, opened, program_flat, program_flat_step}
use Rattle.status_table.proofs.Whole.{program_is_solved}
use Rattle.status_rounds.specs.Before.{last_at, lasts_of, cell_after}
use Rattle.status_rounds.specs.Given.{NoneTwice}
use Rattle.status_rounds.specs.Loops.{loops_round}
use Rattle.status_rounds.specs.NothingKnown.{nothing}
use Rattle.status_rounds.specs.Rounds.{Went, shape_of}
use Rattle.status_rounds.proofs.Beginning.{blank_rows, map-replicate}
use Rattle.status_rounds.proofs.Declared.{rules_unique}
use Rattle.status_rounds.proofs.Going.{replicate_at}
use Rattle.status_rounds.proofs.Interface.{differ_from, outside_from, opened_of, opened_from, moves_from}
use Rattle.status_rounds.proofs.Interface.{stands_from}
use Rattle.status_rounds.proofs.Sound.{Sound, sound_start, Onward, sound_round}
use Rattle.status_rounds.proofs.Unknowns.{left_in, fewer_in_env, fewer_in_table}

-- ---- the first table

lengths : (rs : List (Vec Known Global)) → map (λ r. length r.items) rs ≡ map length (map (λ r. r.items) rs)
lengths [] = refl
lengths (r ∷ rs) = ap (λ l. length r.items ∷ l) (lengths rs)

pub first_shape : (t : Statuses) (N S : ℕ) → map (λ r. r.items) t.rows.items ≡ replicate N
    (replicate S nothing) →
    shape_of t ≡ replicate N S
first_shape t N S e = lengths t.rows.items ∙ ap (map length) e ∙ map-replicate length N (replicate S nothing)
    ∙ ap
    (replicate N) (length-replicate S nothing)

pub first_table : (t : Statuses) (N S : ℕ) → map (λ r. r.items) t.rows.items ≡ replicate N
    (replicate S nothing) →
    cells_in t ≡ nothing_known
first_table t N S e = fun_ext (λ s. fun_ext (λ n. ap (λ z. in_row (slice_get z n) s) e ∙ blank_rows N S n s))

same_cells : (cs : List (Bool × Value)) → map cell_after cs ≡ map opened_of (lasts_of cs)
same_cells [] = refl
same_cells (c ∷ cs) = ap (λ l. cell_after c ∷ l) (same_cells cs)

some_same : (x y : ℕ) → Some x ≡ Some y → x ≡ y
some_same x y e = cc

module _ (K : Kernel) (c : Control) (is : List (ℕ × Value)) (cs : List (Bool × Value)) (rules : ∥ IsProgram K
    ∥₁)
    (count : length cs ≡ K.interface) (once : NoneTwice is) where
  abbrev OfRounds : Env → Cells → Type 0
  OfRounds F τ = Sound (table_of K) (outers_from 0 is (lasts_of cs)) K.statement c F τ

  first_env : env_of (map cell_after cs) ≡ opened (outers_from 0 is (lasts_of cs))
  first_env = fun_ext (λ i. ap (λ z. env_of z i) (same_cells cs) ∙ opened_from 0 i is (lasts_of cs) ∙ ap
      (opened (outers_from 0 is (lasts_of cs))) (let e : 0 + i ≡ i = omega arith in e))

  pub rounds_begin : (F : Env) (τ : Cells) → F ≡ env_of (map cell_after cs) → τ ≡ nothing_known → OfRounds F τ
  rounds_begin F τ e f = subst (λ G. OfRounds G τ) (sym (e ∙ first_env))
      (subst (λ z. OfRounds (opened (outers_from 0 is (lasts_of cs))) z) (sym f)
      (sound_start (table_of K) (outers_from 0 is (lasts_of cs)) K.statement c (differ_from 0 is
      (lasts_of cs))))

  count_is : length (lasts_of cs) ≡ K.interface
  count_is = length-map cs last_at ∙ count

  outside : (s : ℕ) → NotIn s (outers_from 0 is (lasts_of cs)) → K.interface ≤ s
  outside s n = ⊎_elim (λ lt. absurd (outside_from 0 s is (lasts_of cs) n (omega arith)
      (omega (arith, lt, count_is))))
      (λ le. le) (cases_lt s K.interface)

  pub rounds_go_on : (more : Bool) (F F' : Env) (τ τ' : Cells) → OfRounds F τ → Went K c is more F F' τ τ' →
      Onward
      (table_of K) (outers_from 0 is (lasts_of cs)) K.statement c F F' τ τ'
  rounds_go_on more F F' τ τ' h w = sound_round (table_of K) (outers_from 0 is (lasts_of cs)) K.statement c F
      F' τ
      τ' (rules_unique K rules) h
      (moves_from (table_of K) 0 is (lasts_of cs) (program_flat (table_of K) τ K.statement c F) F F' once
      (λ s lt. w.interface s (omega (arith, lt, count_is)))) (λ s n. w.others s (outside s n)) w.puts

  pub rounds_end : (F F' : Env) (τ τ' : Cells) → OfRounds F τ → Went K c is true F F' τ τ' → left_in
      K.interface
      (length K.signals) (loops_round K.statement + 1) F' τ' < left_in K.interface (length K.signals)
      (loops_round K.statement + 1) F τ
  rounds_end F F' τ τ' h w =
      let o = rounds_go_on true F F' τ τ' h w in
      let S : ℕ = length K.signals in
      let N : ℕ = loops_round K.statement + 1 in
      ⊎_elim
      (λ r. fewer_in_env K.interface S N r.0 F F' τ τ' (λ s. o.env.at s) (λ s n. o.table.at s n) r.1 r.2)
      (λ r.
      let lt : r.1 < N = subst (λ k. r.1 < k) (length-replicate N S)
      (slice_get_within (replicate N S) r.1 r.2.0 r.2.1) in
      let k : r.2.0 ≡ S = some_same r.2.0 S (sym r.2.1 ∙ replicate_at N S r.1 lt) in
      fewer_in_table K.interface S N r.0 r.1 F F' τ τ' (λ s. o.env.at s) (λ s n. o.table.at s n)
      (subst (λ z. r.0 < z) k r.2.2) lt r.3)
      (w.other refl)

  pub rounds_settle : (F F' : Env) (τ τ' : Cells) → OfRounds F τ → Went K c is false F F' τ τ' →
      (F' ≡ solved (table_of K) (outers_from 0 is (lasts_of cs)) (program_must_can (table_of K) K.statement c)
      blank)
      × (program_flat_step (table_of K) τ' K.statement c F' ≡ program_step (table_of K) K.statement c F')
  rounds_settle F F' τ τ' h w =
      let same : F' ≡ F = fun_ext (w.same refl) in
      let stays : τ' ≡ τ = fun_ext (λ s. fun_ext (w.stays refl s)) in
      let r = program_is_solved (table_of K) (outers_from 0 is (lasts_of cs)) K.statement c F τ
      (rules_unique K rules) (differ_from 0 is (lasts_of cs)) h.reaches
      (stands_from (table_of K) 0 is (lasts_of cs) (program_flat (table_of K) τ K.statement c F) F once
      (λ s lt. sym (w.interface s (omega (arith, lt, count_is))) ∙ w.same refl s) h.last) (w.stands refl) in (
        same ∙ r.0,
        ap (λ z. program_flat_step (table_of K) z K.statement c F') stays ∙ ap
            (program_flat_step (table_of K) τ K.statement c) same ∙ r.1 ∙ ap
            (program_step (table_of K) K.statement c) (sym same),
      )
