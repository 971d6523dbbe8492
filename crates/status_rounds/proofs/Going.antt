-- One round, put together.
use Rattle.std.proofs.Common.{◌≡◌, ◌≢◌, refl, sym, ap, subst, ◌∙◌, ℕ, ◌+◌, ◌<◌, Bool, true, false, ◌||◌}
use Rattle.std.proofs.Common.{◌⊎◌, inl, inr, ⊎_elim, Some, List, [], ◌∷◌, ◌++◌, length, slice_get, replicate}
use Rattle.std.proofs.Common.{arith, ◌==◌, not, eqb-true, eq-eqb}
use Rattle.std.proofs.lemmas.Option.{slice_get-get_or}
use Rattle.std.proofs.lemmas.List.{length-map, length-replicate, get_or-replicate}
use Rattle.hh_base.specs.declared.value.Tri.{Tri}
use Rattle.hh_base.specs.declared.value.Value.{Value}
use Rattle.host_expr.specs.declared.cell.Cell.{Cell}
use Rattle.host_expr.specs.Environment.{Env, env_of}
use Rattle.hh_term.specs.IsProgram.{IsProgram}
use Rattle.hh_term.specs.Kernel.{Kernel}
use Rattle.hh_term.specs.Statement.{Statement}
use Rattle.hh_term.specs.Selection.{Control, Fresh, At, Ended, Start, Resume}
use Rattle.hh_term.specs.MustCan.{Table, MustCan, Bag, table_of, Executed, gives, raised, cells_of}
use Rattle.status_table.specs.declared.state.Raise.{Raise}
use Rattle.status_table.specs.declared.state.Pass.{Pass}
use Rattle.status_table.specs.declared.state.Statuses.{Statuses}
use Rattle.status_table.specs.Flat.{Cells}
use Rattle.status_table.specs.TableView.{cells_in}
use Rattle.status_table.specs.Walking.{AllPut, Fits, Tallied}
use Rattle.status_table.specs.WholeProgram.{program_flat, ProgramStands}
use Rattle.status_table.proofs.Meeting.{cells-append}
use Rattle.status_table.proofs.Rounds.{puts_key}
use Rattle.status_rounds.specs.Given.{given_all, with_inputs}
use Rattle.status_rounds.specs.Loops.{loops_round}
use Rattle.status_rounds.specs.Rounds.{ProgramPuts, Seen, IsFresh, solved_by, Conclusions, HasPlace, Taken}
use Rattle.status_rounds.specs.Rounds.{Ready, Went, shape_of}
use Rattle.status_rounds.proofs.Declared.{rules_fit}
use Rattle.status_rounds.proofs.Places.{has_place, puts_level}
use Rattle.status_rounds.proofs.Taking.{put_same, put_at}

-- ---- places

pub replicate_at : (N S n : ℕ) → n < N → slice_get (replicate N S) n ≡ Some S
replicate_at N S n lt =
    slice_get-get_or (replicate N S) n S (subst (λ k. n < k) (sym (length-replicate N S)) lt) ∙ ap Some
    (get_or-replicate N n S S lt)

program_place : (S N : ℕ) (T : Table) (τ : Cells) (p : Statement) (c : Control) (E : Env) (s n : ℕ)
    (v : Tri × Cell) → Fits S N 0 p → 0 < N → ProgramPuts T τ p c E s n v → HasPlace (replicate N S) s n
program_place S N T τ p Fresh E s n v f z h = (
  S,
  replicate_at N S n (puts_level S N T τ s n v p 0 0 Start Executed E f z h),
  has_place S N 0 p s f (puts_key T τ p 0 0 Start Executed E s n v h).0,
)
program_place S N T τ p (At m) E s n v f z h = (
  S,
  replicate_at N S n (puts_level S N T τ s n v p 0 0 (Resume m) Executed E f z h),
  has_place S N 0 p s f (puts_key T τ p 0 0 (Resume m) Executed E s n v h).0,
)
program_place S N T τ p Ended E s n v f z h = absurd h

or_first : (a b : Bool) → (a || b) ≡ false → a ≡ false
or_first true b e = cc
or_first false b e = refl

or_second : (a b : Bool) → (a || b) ≡ false → b ≡ false
or_second true b e = cc
or_second false b e = e

or_either : (a b : Bool) → (a || b) ≡ true → (a ≡ true) ⊎ (b ≡ true)
or_either true b e = inl refl
or_either false b e = inr e

-- whether there are raises
pub raises_none : (rs : List Raise) (n : ℕ) (r : Bool) → length rs ≡ n → r ≡ (n == 0) → not r ≡ false → rs ≡
    []
raises_none [] n r e f g = refl
raises_none (x ∷ rs) n true e f g = let z : n ≡ 0 = eqb-true n 0 (sym f) in absurd (omega (arith, e, z))
raises_none (x ∷ rs) n false e f g = cc

pub raises_some : (rs : List Raise) (n : ℕ) (r : Bool) → length rs ≡ n → r ≡ (n == 0) → not r ≡ true → rs ≡ []
    → ⊥
raises_some rs n true e f g h = cc
raises_some rs n false e f g h =
    let z : n ≡ 0 = sym e ∙ ap length h in
    let t : (n == 0) ≡ true = eq-eqb n 0 z in
    let no_way : false ≡ true = f ∙ t in
    cc

-- ---- what is ready for a round

module _ (K : Kernel) (t : Statuses) (b0 b1 : Pass) (ready : Ready K t b0)
    (same : b1.cells.signals.items ≡ b0.cells.signals.items) where
  pub rows_are : length t.rows.items ≡ loops_round K.statement + 1
  rows_are = sym (length-map t.rows.items (λ r. length r.items)) ∙ ap length ready.shape ∙ length-replicate
      (loops_round K.statement + 1) (length K.signals)

  pub cells_are : length b1.cells.signals.items ≡ length K.signals
  cells_are = ap length same ∙ ready.signals

  pub table_fits : ∥ IsProgram K ∥₁ → Fits (length b1.cells.signals.items) (length t.rows.items) 0 K.statement
  table_fits rules = subst (λ k. Fits k (length t.rows.items) 0 K.statement) (sym cells_are)
      (subst (λ k. Fits (length K.signals) k 0 K.statement) (sym rows_are) (rules_fit K rules))

module _ (K : Kernel) (c : Control) (is : List (ℕ × Value)) (t : Statuses) (b0 b1 b2 b3 : Pass)
    (rules : ∥ IsProgram K ∥₁) (ready : Ready K t b0) (same : b1.cells.signals.items ≡ b0.cells.signals.items)
    (bare : b1.raised.items ≡ b0.raised.items)
    (given : Tallied (table_of K) (gives (given_all is) 0 Executed) b0.tallies.items b1.tallies.items)
    (seen : Seen (table_of K) (cells_in t) K.statement c b1 b2) (kept : b3.raised.items ≡ b2.raised.items)
  where
    abbrev E : Env
    E = env_of b0.cells.signals.items

    env_is : env_of b1.cells.signals.items ≡ E
    env_is = ap env_of same

    news_are : b3.raised.items ≡ seen.raised.news
    news_are = kept ∙ seen.raised.is ∙ ap (λ z. z ++ seen.raised.news) (bare ∙ ready.raised)

    pub raises_put : AllPut (λ s n v. ProgramPuts (table_of K) (cells_in t) K.statement c E s n v)
        b3.raised.items
    raises_put = subst (AllPut (λ s n v. ProgramPuts (table_of K) (cells_in t) K.statement c E s n v))
        (sym news_are)
        (subst (λ F. AllPut (λ s n v. ProgramPuts (table_of K) (cells_in t) K.statement c F s n v)
        seen.raised.news)
        env_is seen.raised.put)

    raises_change : AllPut (λ s n v. v ≢ cells_in t s n) b3.raised.items
    raises_change = subst (AllPut (λ s n v. v ≢ cells_in t s n)) (sym news_are) seen.raised.changes

    pub raises_placed : AllPut (λ s n v. HasPlace (replicate (loops_round K.statement + 1) (length K.signals)) s
        n)
        b3.raised.items
    raises_placed = put_same (λ s n v. ProgramPuts (table_of K) (cells_in t) K.statement c E s n v)
        (λ s n v. HasPlace (replicate (loops_round K.statement + 1) (length K.signals)) s n) b3.raised.items
        (λ s n v h. program_place (length K.signals) (loops_round K.statement + 1) (table_of K) (cells_in t)
        K.statement c E s n v (rules_fit K rules) (omega arith) h) raises_put

    pub raises_in : AllPut (λ s n v. HasPlace (shape_of t) s n) b3.raised.items
    raises_in = subst (λ z. AllPut (λ s n v. HasPlace z s n) b3.raised.items) (sym ready.shape) raises_placed

    module _ (t' : Statuses) (changed raises : Bool) (conc : Conclusions (table_of K) K.interface changed b2 b3)
        (taken : Taken b3.raised.items (cells_in t) (cells_in t')) (none : raises ≡ false → b3.raised.items ≡
        [])
        (some : raises ≡ true → b3.raised.items ≡ [] → ⊥) where
      abbrev F : Env
      F = env_of b3.cells.signals.items

      env_seen : env_of b2.cells.signals.items ≡ E
      env_seen = ap env_of seen.signals ∙ env_is

      abbrev a : MustCan
      a = program_flat (table_of K) (cells_in t) K.statement c E

      abbrev bag : Bag
      bag = given_all is

      solved_at : (s : ℕ) → s < K.interface → F s ≡ raised (table_of K) s (E s) (with_inputs is a)
      solved_at s lt =
          let T : Table = table_of K in
          let a1 : MustCan = program_flat T (cells_in t) K.statement c (env_of b1.cells.signals.items) in
          let f = ready.fresh s lt in
          let x = given.adds s f.tally f.here in
          let y = seen.tallies.adds s x.0 x.1 in
          let q = y.2.adds (cells_of s (given_all is)) (cells_of s (given_all is))
          (x.2.adds [] [] (f.none (T.kind s) (T.word s))) in
          conc.solved s y.0 (cells_of s (given_all is) ++ cells_of s a1.must)
          (cells_of s (given_all is) ++ cells_of s a1.can) lt y.1 q
          ∙ ap (λ z. solved_by T s (z s) (cells_of s (given_all is) ++ cells_of s a1.must)
          (cells_of s (given_all is) ++ cells_of s a1.can)) env_seen
          ∙ ap (λ z. solved_by T s (E s)
          (cells_of s (given_all is) ++ cells_of s (program_flat T (cells_in t) K.statement c z).must)
          (cells_of s (given_all is) ++ cells_of s (program_flat T (cells_in t) K.statement c z).can)) env_is
          ∙ ap (λ z. solved_by T s (E s) z (cells_of s (given_all is) ++ cells_of s a.can))
          (sym (cells-append s (given_all is) a.must))
          ∙ ap (λ z. solved_by T s (E s) (cells_of s (given_all is ++ a.must)) z)
          (sym (cells-append s (given_all is) a.can))

      first_raise : (rs : List Raise) → AllPut (λ s n v. v ≢ cells_in t s n) rs → AllPut
          (λ s n v. HasPlace (replicate (loops_round K.statement + 1) (length K.signals)) s n) rs → Taken rs
          (cells_in t) (cells_in t') → (rs ≡ [] → ⊥) → (s : ℕ) × (n : ℕ) × HasPlace
          (replicate (loops_round K.statement + 1) (length K.signals)) s n × (cells_in t' s n ≢ cells_in t s n)
      first_raise [] ch pl tk ne = absurd (ne refl)
      first_raise (r ∷ rs) ch pl tk ne = (
        r.signal,
        r.level,
        pl.0,
        ⊎_elim (λ x. absurd (x.1 (r.known.status, r.known.value) (inl (refl, refl, refl))))
            (λ x. put_at (λ s n v. v ≢ cells_in t s n) (r ∷ rs) r.signal r.level (cells_in t' r.signal r.level)
            ch x)
            (tk r.signal r.level),
      )

      pub round_went : Went K c is (changed || raises) (env_of b0.cells.signals.items)
          (env_of b3.cells.signals.items) (cells_in t) (cells_in t')
      round_went = record {
        interface = solved_at;
        others = λ s le. conc.others s le ∙ ap (λ z. z s) env_seen;
        puts = λ s n. ⊎_elim (λ x. inl x.0)
            (λ x. inr (put_at (λ s n v. ProgramPuts (table_of K) (cells_in t) K.statement c E s n v)
            b3.raised.items s n
            (cells_in t' s n) raises_put x)) (taken s n);
        same = λ e s. conc.same (or_first changed raises e) s ∙ ap (λ z. z s) env_seen;
        stays = λ e s n.
            let em = none (or_second changed raises e) in
            let tk : Taken [] (cells_in t) (cells_in t') = subst (λ z. Taken z (cells_in t) (cells_in t')) em
            taken in
            ⊎_elim (λ x. x.0) (λ x. absurd x) (tk s n);
        stands = λ e. subst (ProgramStands (table_of K) (cells_in t) K.statement c) env_is
            (seen.raised.still (sym news_are ∙ none (or_second changed raises e)));
        other = λ e. ⊎_elim
            (λ x. let r = conc.other x in inl (r.0, r.1, λ q. r.2 (q ∙ sym (ap (λ z. z r.0) env_seen))))
            (λ x. inr (first_raise b3.raised.items raises_change raises_placed taken (some x)))
            (or_either changed raises e);
      }

      pub round_ready : (b4 : Pass) → b4.cells.signals.items ≡ b3.cells.signals.items → b4.cells.args.items ≡
          b3.cells.args.items → b4.tallies.items ≡ b3.tallies.items → b4.raised.items ≡ [] → b1.cells.args.items
          ≡
          b0.cells.args.items → shape_of t' ≡ shape_of t → Ready K t' b4
      round_ready b4 es ea et er e1 sh = record {
        args = ea ∙ conc.args ∙ seen.args ∙ e1 ∙ ready.args;
        signals = ap length es ∙ conc.signals ∙ ap length (seen.signals ∙ same) ∙ ready.signals;
        tallies = ap length et ∙ conc.tallies ∙ seen.tallies.count ∙ given.count ∙ ready.tallies;
        fresh = λ s lt. subst (λ z. IsFresh z s) (sym et) (conc.fresh s lt);
        raised = er;
        shape = sh ∙ ready.shape;
      }
