-- What is kept of the emissions of a signal gives the definition's status and value.
use Rattle.std.proofs.Common.{◌≡◌, refl, sym, ap, ◌∙◌, ℕ, ◌+◌, Bool, true, false, cond, ◌&&◌, ◌||◌, Option}
use Rattle.std.proofs.Common.{Some, None, List, [], ◌∷◌, ◌++◌, length, map, arith, append-nil}
use Rattle.std.specs.Prelude.{ℤ, pos, ◌+ℤ◌}
use Rattle.std.specs.Int.{int_min, int_max}
use Rattle.std.proofs.lemmas.Int.{ints}
use Rattle.hh_base.specs.declared.value.Kind.{Kind}
use Rattle.hh_base.specs.declared.value.Value.{Value}
use Rattle.hh_base.specs.declared.value.Value.TheVariants as value
use Rattle.hh_base.specs.declared.value.CombineWord.{CombineWord}
use Rattle.hh_base.specs.declared.value.CombineWord.TheVariants as word
use Rattle.host_expr.specs.declared.cell.Cell.{Cell}
use Rattle.host_expr.specs.declared.cell.Cell.TheVariants as cell
use Rattle.host_expr.specs.Environment.{is_known}
use Rattle.hh_base.specs.Value.{default_of}
use Rattle.host_expr.specs.Combination.{counts_as, numbers_in, truths_in, whole_sum, least_of, greatest_of}
use Rattle.host_expr.specs.Combination.{all_of, any_of, combined, combined_by, number_or_zero}
use Rattle.hh_term.specs.MustCan.{all_known, value_by}
use Rattle.status_table.specs.declared.tally.Running.{Running}
use Rattle.status_table.specs.declared.tally.Running.TheVariants.{Nothing, Sum, Least, Greatest, All, Any}
use Rattle.status_table.specs.declared.tally.Running.TheVariants.{Several}
use Rattle.status_table.specs.declared.tally.Tally.{Tally}
use Rattle.status_table.specs.Tallies.{number_of, sum_with, lesser, larger, both, any, met, unit_of, joined}
use Rattle.status_table.specs.Tallies.{joined_all, running_of, value_of, tally_of, is_whole, Adds}
use Rattle.status_table.specs.Tallies as tally

-- ---- the combination

-- the least of these and of what there was
least_from : Option ℤ → List ℤ → Option ℤ
least_from o [] = o
least_from o (n ∷ ns) = least_from (lesser o (Some n)) ns

sum_turn : (a n b : ℤ) → (a +ℤ n) +ℤ b ≡ a +ℤ (n +ℤ b)
sum_turn a n b = omega (arith, ints)

sum_end : (n : ℤ) → n ≡ n +ℤ pos 0
sum_end n = omega (arith, ints)

sum_start : (n : ℤ) → pos 0 +ℤ n ≡ n
sum_start n = omega (arith, ints)

joined_sum : (n : ℤ) (vs : List Value) → joined_all (Some word.Plus) (Sum n) vs ≡ Sum
    (n +ℤ whole_sum (numbers_in vs))
joined_sum n [] = ap Sum (sum_end n)
joined_sum n (value.Int m ∷ vs) = joined_sum (n +ℤ m) vs ∙ ap Sum (sum_turn n m (whole_sum (numbers_in vs)))
joined_sum n (value.Unit ∷ vs) = joined_sum n vs
joined_sum n (value.Bool b ∷ vs) = joined_sum n vs
joined_sum n (value.Text t ∷ vs) = joined_sum n vs

abbrev least_in : Option ℤ → List ℤ → Option ℤ
least_in None [] = None
least_in None (n ∷ ns) = Some (least_of n ns)
least_in (Some m) ns = Some (least_of m ns)

least_turn : (m n k : ℤ) → int_min (int_min m n) k ≡ int_min m (int_min n k)
least_turn m n k = grind (arith, ints)

least_step : (m n : ℤ) (ns : List ℤ) → least_of (int_min m n) ns ≡ least_of m (n ∷ ns)
least_step m n [] = refl
least_step m n (k ∷ ns) = least_turn m n (least_of k ns)

joined_least : (o : Option ℤ) (vs : List Value) → joined_all (Some word.Min) (Least o) vs ≡ Least
    (least_in o (numbers_in vs))
joined_least None [] = refl
joined_least (Some m) [] = refl
joined_least None (value.Int n ∷ vs) = joined_least (Some n) vs
joined_least (Some m) (value.Int n ∷ vs) = joined_least (Some (int_min m n)) vs ∙ ap (λ x. Least (Some x))
    (least_step m n (numbers_in vs))
joined_least None (value.Unit ∷ vs) = joined_least None vs
joined_least (Some m) (value.Unit ∷ vs) = joined_least (Some m) vs
joined_least None (value.Bool b ∷ vs) = joined_least None vs
joined_least (Some m) (value.Bool b ∷ vs) = joined_least (Some m) vs
joined_least None (value.Text t ∷ vs) = joined_least None vs
joined_least (Some m) (value.Text t ∷ vs) = joined_least (Some m) vs

abbrev greatest_in : Option ℤ → List ℤ → Option ℤ
greatest_in None [] = None
greatest_in None (n ∷ ns) = Some (greatest_of n ns)
greatest_in (Some m) ns = Some (greatest_of m ns)

greatest_turn : (m n k : ℤ) → int_max (int_max m n) k ≡ int_max m (int_max n k)
greatest_turn m n k = grind (arith, ints)

greatest_step : (m n : ℤ) (ns : List ℤ) → greatest_of (int_max m n) ns ≡ greatest_of m (n ∷ ns)
greatest_step m n [] = refl
greatest_step m n (k ∷ ns) = greatest_turn m n (greatest_of k ns)

joined_greatest : (o : Option ℤ) (vs : List Value) → joined_all (Some word.Max) (Greatest o) vs ≡ Greatest
    (greatest_in o (numbers_in vs))
joined_greatest None [] = refl
joined_greatest (Some m) [] = refl
joined_greatest None (value.Int n ∷ vs) = joined_greatest (Some n) vs
joined_greatest (Some m) (value.Int n ∷ vs) = joined_greatest (Some (int_max m n)) vs ∙ ap
    (λ x. Greatest (Some x)) (greatest_step m n (numbers_in vs))
joined_greatest None (value.Unit ∷ vs) = joined_greatest None vs
joined_greatest (Some m) (value.Unit ∷ vs) = joined_greatest (Some m) vs
joined_greatest None (value.Bool b ∷ vs) = joined_greatest None vs
joined_greatest (Some m) (value.Bool b ∷ vs) = joined_greatest (Some m) vs
joined_greatest None (value.Text t ∷ vs) = joined_greatest None vs
joined_greatest (Some m) (value.Text t ∷ vs) = joined_greatest (Some m) vs

and_turn : (a b c : Bool) → ((a && b) && c) ≡ (a && (b && c))
and_turn true b c = refl
and_turn false b c = refl

and_end : (a : Bool) → a ≡ (a && true)
and_end true = refl
and_end false = refl

or_turn : (a b c : Bool) → ((a || b) || c) ≡ (a || (b || c))
or_turn true b c = refl
or_turn false b c = refl

or_end : (a : Bool) → a ≡ (a || false)
or_end true = refl
or_end false = refl

joined_both : (a : Bool) (vs : List Value) → joined_all (Some word.And) (All a) vs ≡ All
    (a && all_of (truths_in vs))
joined_both a [] = ap All (and_end a)
joined_both a (value.Bool b ∷ vs) = joined_both (a && b) vs ∙ ap All (and_turn a b (all_of (truths_in vs)))
joined_both a (value.Int n ∷ vs) = joined_both a vs
joined_both a (value.Unit ∷ vs) = joined_both a vs
joined_both a (value.Text t ∷ vs) = joined_both a vs

joined_any : (a : Bool) (vs : List Value) → joined_all (Some word.Or) (Any a) vs ≡ Any
    (a || any_of (truths_in vs))
joined_any a [] = ap Any (or_end a)
joined_any a (value.Bool b ∷ vs) = joined_any (a || b) vs ∙ ap Any (or_turn a b (any_of (truths_in vs)))
joined_any a (value.Int n ∷ vs) = joined_any a vs
joined_any a (value.Unit ∷ vs) = joined_any a vs
joined_any a (value.Text t ∷ vs) = joined_any a vs

several_stays : (vs : List Value) → joined_all None Several vs ≡ Several
several_stays [] = refl
several_stays (v ∷ vs) = several_stays vs

least_value : (ns : List ℤ) → value.Int (tally.number_or_zero (least_in None ns)) ≡ number_or_zero least_of ns
least_value [] = refl
least_value (n ∷ ns) = refl

greatest_value : (ns : List ℤ) → value.Int (tally.number_or_zero (greatest_in None ns)) ≡ number_or_zero
    greatest_of ns
greatest_value [] = refl
greatest_value (n ∷ ns) = refl

by_word : (k : Kind) (w : CombineWord) (vs : List Value) → value_of k (joined_all (Some w) (unit_of w) vs) ≡
    combined_by w vs
by_word k word.Plus vs = ap (value_of k)
    (joined_sum (pos 0) vs ∙ ap Sum (sum_start (whole_sum (numbers_in vs))))
by_word k word.Min vs = ap (value_of k) (joined_least None vs) ∙ least_value (numbers_in vs)
by_word k word.Max vs = ap (value_of k) (joined_greatest None vs) ∙ greatest_value (numbers_in vs)
by_word k word.And vs = ap (value_of k) (joined_both true vs)
by_word k word.Or vs = ap (value_of k) (joined_any false vs)

same_start : (w : CombineWord) (v u : Value) → joined (Some w) (joined (Some w) (unit_of w) v) u ≡ met
    (met (unit_of w) v) u
same_start word.Plus v u = refl
same_start word.Min v u = refl
same_start word.Max v u = refl
same_start word.And v u = refl
same_start word.Or v u = refl

-- the running combination gives the value
pub running_is : (k : Kind) (w : Option CombineWord) (vs : List Value) → value_of k (running_of w vs) ≡
    combined k w vs
running_is k w [] = nothing w
  where
    nothing : (w : Option CombineWord) → value_of k (running_of w []) ≡ default_of k
    nothing None = refl
    nothing (Some w) = refl
running_is k None (v ∷ []) = refl
running_is k (Some w) (v ∷ []) = refl
running_is k None (v ∷ u ∷ vs) = ap (value_of k) (several_stays vs)
running_is k (Some w) (v ∷ u ∷ vs) = ap (λ r. value_of k (joined_all (Some w) r vs)) (sym (same_start w v u))
    ∙ by_word k w (v ∷ u ∷ vs)

-- ---- one more emission

running_more : (w : Option CombineWord) (r : Running) (vs : List Value) (v : Value) → joined_all w r
    (vs ++ v ∷ []) ≡ joined w (joined_all w r vs) v
running_more w r [] v = refl
running_more w r (u ∷ vs) v = running_more w (joined w r u) vs v

map_more : (k : Kind) (cs : List Cell) (c : Cell) → map (counts_as k) (cs ++ c ∷ []) ≡ map (counts_as k) cs ++
    counts_as k c ∷ []
map_more k [] c = refl
map_more k (x ∷ cs) c = ap (λ vs. counts_as k x ∷ vs) (map_more k cs c)

known_more : (cs : List Cell) (c : Cell) → all_known (cs ++ c ∷ []) ≡ (all_known cs && is_known c)
known_more [] c = sym (and_end (is_known c))
known_more (x ∷ cs) c = ap (λ b. is_known x && b) (known_more cs c) ∙ sym
    (and_turn (is_known x) (all_known cs) (is_known c))

length_more : (cs : List Cell) (c : Cell) → length (cs ++ c ∷ []) ≡ length cs + 1
length_more [] c = refl
length_more (x ∷ cs) c = omega (arith, length_more cs c)

pub executed_adds : (k : Kind) (w : Option CombineWord) (t : Tally) (c : Cell) (must can : ℕ) (known : Bool)
    (running : Running) → must ≡ t.must + 1 → can ≡ t.can + 1 → known ≡ (t.known && is_known c) → running ≡
    joined w t.running (counts_as k c) → Adds k w t
    (record { must = must; can = can; known = known; running = running }) (c ∷ []) (c ∷ [])
executed_adds k w t c must can known running em ec ek er = record {
  adds = λ m d e.
      let x1 : must ≡ length (m ++ c ∷ []) = em ∙ ap (λ z. z.must + 1) e ∙ sym (length_more m c) in
      let x2 : can ≡ length (d ++ c ∷ []) = ec ∙ ap (λ z. z.can + 1) e ∙ sym (length_more d c) in
      let x3 : known ≡ all_known (m ++ c ∷ []) = ek ∙ ap (λ z. z.known && is_known c) e ∙ sym (known_more m c)
      in
      let x4 : running ≡ running_of w (map (counts_as k) (m ++ c ∷ [])) = er ∙ ap
      (λ z. joined w z.running (counts_as k c)) e ∙ sym
      (running_more w Nothing (map (counts_as k) m) (counts_as k c)) ∙ ap (running_of w)
      (sym (map_more k m c)) in
      ap (λ z. let r : Tally = record { must = z; can = can; known = known; running = running } in r) x1
      ∙ ap (λ z. let r : Tally = record
      { must = length (m ++ c ∷ []); can = z; known = known; running = running } in r) x2
      ∙ ap (λ z. let r : Tally = record
      { must = length (m ++ c ∷ []); can = length (d ++ c ∷ []); known = z; running = running } in r) x3
      ∙ ap (λ z. let r : Tally = record {
        must = length (m ++ c ∷ []);
        can = length (d ++ c ∷ []);
        known = all_known (m ++ c ∷ []);
        running
            = z;
      } in r) x4;
}

pub possible_adds : (k : Kind) (w : Option CombineWord) (t : Tally) (c : Cell) (can : ℕ) → can ≡ t.can + 1 →
    Adds k w t (record t { can = can }) [] (c ∷ [])
possible_adds k w t c can ec = record {
  adds = λ m d e.
      let x2 : can ≡ length (d ++ c ∷ []) = ec ∙ ap (λ z. z.can + 1) e ∙ sym (length_more d c) in
      ap (λ z. let r : Tally = record z { can = can } in r) e
      ∙ ap (λ z. let r : Tally = record (tally_of k w m d) { can = z } in r) x2
      ∙ ap (λ z. let r : Tally = record {
        must = length z;
        can = length (d ++ c ∷ []);
        known = all_known z;
        running = running_of w
            (map (counts_as k) z);
      } in r) (sym (append-nil m));
}

-- ---- the value

pub value_whole : (k : Kind) (w : Option CombineWord) (before : Value) (m c : List Cell) → is_whole m c ≡ true
    → (length c ≡ 0 → ⊥) → cell.Known (value_of k (running_of w (map (counts_as k) m))) ≡ value_by k w before
    m c
value_whole k w before m [] e h = absurd (h refl)
value_whole k w before m (x ∷ c) e h =
    ap cell.Known (running_is k w (map (counts_as k) m)) ∙ sym
    (ap (λ b. cond b (cell.Known (combined k w (map (counts_as k) m))) cell.Unknown) e)

pub value_open : (k : Kind) (w : Option CombineWord) (before : Value) (m c : List Cell) → is_whole m c ≡ false
    → (length c ≡ 0 → ⊥) → cell.Unknown ≡ value_by k w before m c
value_open k w before m [] e h = absurd (h refl)
value_open k w before m (x ∷ c) e h = sym
    (ap (λ b. cond b (cell.Known (combined k w (map (counts_as k) m))) cell.Unknown) e)
