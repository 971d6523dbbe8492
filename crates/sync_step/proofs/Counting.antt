-- The emissions of each signal are those that ran, and those of the interface are told so.
use Rattle.std.proofs.Common.{◌≡◌, refl, sym, ap, ◌∙◌, subst, ℕ, suc, ◌+◌, ◌<◌, Some, List, []}
use Rattle.std.proofs.Common.{◌∷◌, ◌++◌, length, map, slice_get, get_or, arith}
use Rattle.std.specs.Prelude.{ℤ, pos, ◌+ℤ◌}
use Rattle.std.specs.List.{range_with_len}
use Rattle.std.proofs.lemmas.Int.{ints}
use Rattle.std.proofs.lemmas.List.{length-map, map-append}
use Rattle.std.proofs.lemmas.List.FromFn.{map-range_with_len_more}
use Rattle.std.proofs.lemmas.Option.{slice_get-get_or}
use Rattle.hh_base.specs.declared.value.Kind.{Kind}
use Rattle.hh_base.specs.declared.value.Value.{Value}
use Rattle.host_expr.specs.declared.cell.Cell.{Cell}
use Rattle.host_expr.specs.Combination.{counts_as}
use Rattle.host_expr.specs.declared.cell.SigCell.{SigCell}
use Rattle.host_expr.specs.Environment.{Env, env_of}
use Rattle.hh_term.specs.MustCan.{Table, Bag, cells_of}
use Rattle.hh_term.specs.Reaction.{Last, Now, outers_from, now_of}
use Rattle.hh_term.specs.Step.{values_of}
use Rattle.last_walk.specs.declared.last_pass.Emitted.{Emitted}
use Rattle.last_walk.specs.LastWalk.{Adds, Counts, EmittedMore, sum_of}
use Rattle.last_walk.specs.Whole.{NoEmissions}
use Rattle.status_rounds.specs.Given.{given_all, NoneTwice}
use Rattle.sync_step.specs.Reacting.{Counted, count_of, now_at, now_by}
use Rattle.sync_step.specs.declared.answer.SignalNow.{SignalNow}
use Rattle.sync_step.specs.Told.{now_in}
use Rattle.sync_step.proofs.Left.{outer_at, given_too}
use Rattle.sync_step.proofs.Undecided.{env_at}

none_yet : Emitted
none_yet = record { count = 0; sum = pos 0 }

plus_none : (n m : ℕ) → n ≡ 0 → n + m ≡ m
plus_none n m e = omega (arith, e)

sum_none : (n m : ℤ) → n ≡ pos 0 → n +ℤ m ≡ m
sum_none n m e = omega (arith, ints, e)

counts : (k : Kind) (cells : List Cell) (x y : Emitted) → Counts x [] → Adds k cells x y → Counts y
    (map (counts_as k) cells)
counts k cells x y h a = record {
  count = a.count ∙ plus_none x.count (length cells) h.count ∙ sym (length-map cells (counts_as k));
  sum = a.sum ∙ sum_none x.sum (sum_of k cells) h.sum;
}

pub counted : (T : Table) (n : ℕ) (bag : Bag) (es us : List Emitted) → NoEmissions n es → EmittedMore T bag es us →
    (s : ℕ) → s < n → Counted us s (values_of T s bag)
counted T n bag es us none more s lt =
    let x : Emitted = get_or es s none_yet in
    let here : slice_get es s ≡ Some x = slice_get-get_or es s none_yet (subst (λ m. s < m) (sym none.len) lt) in
    let y = more.adds s x here in
    record {
      emissions = y.0;
      here = y.1;
      counts = counts (T.kind s) (cells_of s bag) x y.0 (none.none s x here) y.2;
    }

-- ---- the interface

module _ (T : Table) (E : Env) (is : List (ℕ × Value)) (twice : NoneTwice is) (bag : Bag) (us : List Emitted) where
  one_now : (k : ℕ) (l : Last) → Counted us k (values_of T k (given_all is ++ bag)) → now_at E us k
      ≡ now_of E bag (outer_at k is l)
  one_now k l c =
      ap with_count
      (ap count_of c.here ∙ c.counts.count
      ∙ length-map (cells_of k (given_all is ++ bag)) (counts_as (T.kind k))
      ∙ sym (ap length (given_too k is l bag twice)))
    where
      with_count : ℕ → Now
      with_count n = let x : Now = now_at E us k in record x { emissions = n }

  pub nows_are : (k : ℕ) (ls : List Last) → ((s : ℕ) → s < k + length ls → Counted us s
      (values_of T s (given_all is ++ bag))) → map (now_at E us) (range_with_len k (length ls))
      ≡ map (now_of E bag) (outers_from k is ls)
  nows_are k [] h = refl
  nows_are k (l ∷ ls) h =
      let more : k + 1 ≡ suc k = omega arith in
      ap (λ x. x ∷ map (now_at E us) (range_with_len (k + 1) (length ls))) (one_now k l (h k (omega arith)))
      ∙ ap (λ z. now_of E bag (outer_at k is l) ∷ z)
      (ap (λ m. map (now_at E us) (range_with_len m (length ls))) more
      ∙ nows_are (suc k) ls (λ s lt. h s (omega (arith, lt))))

pub now_one : (cells : List SigCell) (em : List Emitted) (n : ℕ) (x : Now) (c : SigCell) (e : Emitted) → n < length cells →
    c ≡ get_or cells n c → slice_get em n ≡ Some e → x ≡ now_by n c e.count → x ≡ now_at (env_of cells) em n
now_one cells em n x c e lt here there is =
    is ∙ ap (λ y. now_by n y e.count) (sym (env_at cells n c lt here))
    ∙ ap (λ o. now_by n (env_of cells n) (count_of o)) (sym there)

pub now_more : (g : ℕ → Now) (n : ℕ) (vs us : List SignalNow) (x : SignalNow) → map now_in vs ≡ map g (range_with_len 0 n) →
    us ≡ vs ++ x ∷ [] → now_in x ≡ g n → map now_in us ≡ map g (range_with_len 0 (n + 1))
now_more g n vs us x h e f =
    ap (map now_in) e ∙ map-append now_in vs (x ∷ []) ∙ ap (λ z. z ++ now_in x ∷ []) h
    ∙ ap (λ y. map g (range_with_len 0 n) ++ y ∷ []) f
    ∙ sym (map-range_with_len_more g 0 n n (let q : 0 + n ≡ n = omega arith in q))
